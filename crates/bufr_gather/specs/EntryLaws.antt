-- What reading texts needs to know about entries.
use Rattle.std.specs.Prelude.{◌≡◌, ℕ, List, Option, Some}
use Rattle.bufr_frame.specs.Cuts.{IsOneFrame}
use Rattle.bufr_entries.specs.declared.entry.Entry.{Entry}
use Rattle.bufr_sections.specs.Sections.{AreOctets}

-- an entry is found in its own octets and in no others, and these are one frame
pub record HasEntryLaws (is_entry : Entry → Type 0) (entry_in : List ℕ → Option Entry)
    : Type 0 where
  pub found : (e : Entry) → is_entry e → entry_in e.bytes ≡ Some e
  pub is : (octets : List ℕ) (e : Entry) → AreOctets octets → entry_in octets ≡ Some e → is_entry e
  pub own : (octets : List ℕ) (e : Entry) → AreOctets octets → entry_in octets ≡ Some e
      → e.bytes ≡ octets
  pub frame : (e : Entry) → is_entry e → IsOneFrame e.bytes

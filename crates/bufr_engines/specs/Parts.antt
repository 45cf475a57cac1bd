-- Writing octets part by part, and an archive's text in parts.
use Rattle.std.specs.Prelude.{◌≡◌, ℕ, ◌+◌, List, ◌++◌, length, Result, Ok, Err}
use Rattle.std.specs.List.{flat_map}
use Rattle.bufr_bits.specs.Devices.{Writing}
use Rattle.bufr_io.specs.declared.fault.ToolFault.{ToolFault}
use Rattle.bufr_io.specs.declared.fault.ToolFault.TheVariants as faults
use Rattle.bufr_io.specs.Engines.{WritesAll, FailsAfter, WritesAfter}
use Rattle.bufr_gather.specs.Archives.{ArchiveView}
use Rattle.bufr_gather.specs.Texts.{text}
use Rattle.bufr_engines.specs.declared.parts.PendingOctets.{PendingOctets}

-- octets of entries, one after the other
abbrev pub joined : List (List ℕ) → List ℕ
joined lists = flat_map (λ octets. octets) lists

-- writes some octets after the first `before`; the part has the rest of the octets gathered before
-- and of these
pub record Gathers (old new : Writing) (before : ℕ) (gathered : List ℕ) (part : PendingOctets)
    (octets : List ℕ) : Type 0 where
  pub out : List ℕ
  pub wrote : WritesAll old new out
  pub counted : part.written ≡ before + length out
  pub all : out ++ part.octets.items ≡ gathered ++ octets

-- gathers the octets, or the writer fails after the first of all of them
abbrev pub HandsOn : Writing → Writing → ℕ → List ℕ → PendingOctets → List ℕ → Result (Unit {0}) ToolFault
    → Type 0
HandsOn old new before gathered part octets (Ok done) = Gathers old new before gathered part octets
HandsOn old new before gathered part octets (Err fault) =
    WritesAfter before (gathered ++ octets) old new (Err fault)

-- writes the text of an archive and returns the number of its reports; or the writer fails after
-- the first octets; or memory runs out before anything is written
abbrev pub WritesArchive : ArchiveView → Writing → Writing → Result ℕ ToolFault → Type 0
WritesArchive archive old new (Ok reports) =
    WritesAll old new (text archive.entries) × (reports ≡ length archive.entries)
WritesArchive archive old new (Err (faults.WriteFailed written)) =
    FailsAfter written old new (text archive.entries)
WritesArchive archive old new (Err faults.OutOfMemory) = new ≡ old
WritesArchive archive old new (Err fault) = ⊥

-- Laws on reading and spelling sections, and on the length of spellings.
use Rattle.std.specs.Prelude.{◌≡◌, ℕ, ◌≤◌, true, List, length, Ok, Err}
use Rattle.bufr_sections.specs.declared.layout.Layout.{Layout}
use Rattle.bufr_sections.specs.declared.layout.Layout.TheVariants.{Edition4}
use Rattle.bufr_sections.specs.declared.fault.Refused.{Refused}
use Rattle.bufr_sections.specs.Causes.{HasSections, IsFirstRefusal, is_of_sections}
use Rattle.bufr_sections.specs.Sections.{Envelope, Ignored, AreOctets, EnvelopeFits, section2}
use Rattle.bufr_sections.specs.Sections.{spelling, envelope_of}
use Rattle.bufr_sections.specs.Spelt.{bare}

-- octets spell the sections that reading returns
abbrev pub SectionsReadAreSpelt : Type 0
SectionsReadAreSpelt =
    (octets : List ℕ) (e : Envelope) → AreOctets octets → envelope_of octets ≡ Ok e
    → HasSections octets e

-- reading returns the sections that octets spell
abbrev pub SectionsSpeltAreRead : Type 0
SectionsSpeltAreRead = (layout : Layout) (e : Envelope) (i : Ignored)
    → EnvelopeFits layout e i → envelope_of (spelling layout e i) ≡ Ok e

-- a refusal is a cause in the octets, with none before it
abbrev pub SectionsRefusedGiveFirst : Type 0
SectionsRefusedGiveFirst =
    (octets : List ℕ) (fault : Refused)
    → envelope_of octets ≡ Err fault → IsFirstRefusal octets fault

-- reading refuses octets for the first cause in them
abbrev pub FirstGivenIsAnswered : Type 0
FirstGivenIsAnswered =
    (octets : List ℕ) (fault : Refused)
    → IsFirstRefusal octets fault → envelope_of octets ≡ Err fault

-- reading sections refuses only for M1 to M9
abbrev pub SectionsRefusedForTheirs : Type 0
SectionsRefusedForTheirs =
    (octets : List ℕ) (fault : Refused)
    → envelope_of octets ≡ Err fault → is_of_sections fault ≡ true

-- sections with no more octets in any part are, as `spell` writes them, no longer than any spelling
-- of the others in edition 4
abbrev pub BareSpellingsAreShortest : Type 0
BareSpellingsAreShortest = (e small : Envelope) (ignored : Ignored)
    → length small.head.local ≤ length e.head.local
    → length (section2 small.section2 0) ≤ length (section2 e.section2 0)
    → length small.descriptors ≤ length e.descriptors
    → length small.contents ≤ length e.contents
    → length (bare small) ≤ length (spelling Edition4 e ignored)

-- Each report of a message that octets spell has a canonical message: its subset has plain data,
-- its head fits edition 4, and it is not too long.
use Rattle.std.proofs.Common.{◌≡◌, ℕ, ◌<◌, ◌≤◌, ◌^◌, Bool, true, false, List, [], ◌∷◌, length, map}
use Rattle.std.proofs.Common.{refl, arith, length-append}
use Rattle.std.specs.Prelude.{nat_lt}
use Rattle.std.specs.List.{AllByRecursion}
use Rattle.bufr_tables.specs.Entries.{Entries}
use Rattle.bufr_fields.specs.declared.field.Subset.{Subset}
use Rattle.bufr_data.specs.Plain.{plain, plain_subsets}
use Rattle.bufr_fields.specs.Fits.{AllFitWithin}
use Rattle.bufr_data.specs.Data.{IsDataOf}
use Rattle.bufr_sections.specs.declared.message.Head.{Head}
use Rattle.bufr_sections.specs.declared.message.Message.{Message}
use Rattle.bufr_sections.specs.declared.layout.Layout.{Layout}
use Rattle.bufr_sections.specs.declared.layout.Layout.TheVariants.{Edition4, Edition3}
use Rattle.bufr_sections.specs.Sections.{Ignored, HeadFits, HasSection1, year_of_century}
use Rattle.bufr_sections.specs.Spelt.{bare, longest}
use Rattle.bufr_message.specs.Below.{Below}
use Rattle.bufr_message.specs.Messages.{Spells, octets_alone, CanBeAlone}
use Rattle.bufr_message.specs.Laws.{NumbersFit}
use Rattle.bufr_message.specs.Reports.{without_local, with_no_local, report_of, reports_of, alone}
use Rattle.bufr_message.specs.Reports.{IsUnder}
use Rattle.bufr_message.proofs.AloneFacts.{StandsAlone, each_alone}
use Rattle.bufr_message.proofs.LengthFacts.{bare_long}
use Rattle.bufr_message.proofs.WrittenFacts.{whole_octets_long, bare_when_written}
use Rattle.bufr_message.proofs.UnwrittenFacts.{told, code_within, some_are}

year_small : (n : ℕ) → n < 2 ^ 8 → year_of_century n < 2 ^ 16
year_small n small = by_test (nat_lt n 70) refl
  where
    by_test : (b : Bool) → nat_lt n 70 ≡ b → year_of_century n < 2 ^ 16
    by_test true is = rw is (omega arith)
    by_test false is = rw is (omega arith)

head_alone : (layout : Layout) (h : Head) (i : Ignored) → HasSection1 layout h i
    → HeadFits (with_no_local (without_local h))
head_alone Edition4 h i fits = omega arith
head_alone Edition3 h i fits = let year = year_small i.year_octet fits.year_octet in omega arith

under_alone : Below
    → (tables : Entries) (m : Message) (octets : List ℕ) (slack : ℕ)
    (spells : Spells tables m octets slack) → (s : Subset)
    → StandsAlone spells.tree (length spells.data_bits) s → octets_alone m.descriptors s ≤ longest
    → IsUnder tables (report_of m s)
under_alone below tables m octets slack spells s stands few =
    let d : List Bool = plain_subsets (s ∷ []) in
    let r = alone (report_of m s) in
    let some = some_are m.descriptors spells.fits.some_descriptor in
    let own = stands.items in
    let one : AllFitWithin spells.tree 0 (s ∷ []) own =
    (own, (own, 0, stands.fits, refl, omega arith), omega arith, stands.few) in
    let holds : IsDataOf spells.tree false (s ∷ []) d = (own, one, refl) in
    let held = below.plain spells.tree (s ∷ []) d holds in
    let long = bare_long (told r d) refl refl in
    let whole = whole_octets_long d in
    let bits_of = length-append (plain s.fields) [] in
    let written = code_within below tables r d (spells.tree, some, spells.template, held)
    (omega arith) (omega arith) in
    let head = head_alone spells.layout m.head spells.ignored spells.fits.head in
    let fits : NumbersFit r =
    record { head = head; section2 = tt; descriptors = spells.fits.descriptors } in (
      bare (told r d),
      record { spelt = bare_when_written below tables r _ fits written },
    )

all_under : Below
    → (tables : Entries) (m : Message) (octets : List ℕ) (slack : ℕ)
    (spells : Spells tables m octets slack) → (subsets : List Subset)
    → AllByRecursion (StandsAlone spells.tree (length spells.data_bits)) subsets
    → CanBeAlone m.descriptors subsets → AllByRecursion (IsUnder tables) (map (report_of m) subsets)
all_under below tables m octets slack spells [] all few = tt
all_under below tables m octets slack spells (s ∷ ss) (first, others) (few, fewer) = (
  under_alone below tables m octets slack spells s first few,
  all_under below tables m octets slack spells ss others fewer,
)

pub reports_under : Below
    → (tables : Entries) (m : Message) (octets : List ℕ) (slack : ℕ)
    (spells : Spells tables m octets slack) → AllByRecursion (IsUnder tables) (reports_of m)
reports_under below tables m octets slack spells =
    all_under below tables m octets slack spells m.subsets
    (each_alone spells.tree m.compressed m.subsets spells.data_bits spells.holds) spells.alone

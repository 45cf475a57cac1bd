-- The test of whether each subset fits a message of its own; in edition 4 each does. For the laws
-- on reading and on reports.
use Rattle.std.proofs.Common.{◌≡◌, ℕ, ◌+◌, ◌*◌, ◌/◌, ◌<◌, ◌≤◌, ◌^◌, Bool, List, [], ◌∷◌, ◌++◌}
use Rattle.std.proofs.Common.{Decides, length, refl, arith, length-append}
use Rattle.std.specs.Prelude.{nat_le}
use Rattle.std.specs.List.{AllByRecursion}
use Rattle.std.proofs.lemmas.Bool.{leb-true, le-leb}
use Rattle.std.proofs.lemmas.Bool.Decides.{Decides-and}
use Rattle.bufr_bits.specs.Bits.{bits}
use Rattle.bufr_expand.specs.Trees.{Tree}
use Rattle.bufr_fields.specs.declared.field.Subset.{Subset}
use Rattle.bufr_data.specs.Plain.{plain}
use Rattle.bufr_data.specs.Data.{IsDataOf}
use Rattle.bufr_sections.specs.declared.message.Message.{Message}
use Rattle.bufr_sections.specs.declared.layout.Layout.TheVariants.{Edition4}
use Rattle.bufr_sections.specs.Sections.{Ignored, spelling}
use Rattle.bufr_sections.specs.SectionLaws.{BareSpellingsAreShortest}
use Rattle.bufr_sections.specs.Spelt.{longest}
use Rattle.bufr_message.specs.Below.{Below}
use Rattle.bufr_message.specs.Laws.{Edition4AsksNoMore}
use Rattle.bufr_message.specs.Messages.{envelope_with, octets_alone, CanBeAlone, can_be_alone}
use Rattle.bufr_message.proofs.AloneFacts.{StandsAlone, each_alone}
use Rattle.bufr_message.proofs.LengthFacts.{contents_hold, spelling_long}

-- ---- the test

pub alone_is_tested : (descriptors : List ℕ) (subsets : List Subset)
    → Decides (can_be_alone descriptors subsets) (CanBeAlone descriptors subsets)
alone_is_tested descriptors [] = (λ e. tt, λ all. refl)
alone_is_tested descriptors (s ∷ subsets) =
    let size = octets_alone descriptors s in
    Decides-and (nat_le size longest) (can_be_alone descriptors subsets)
    (leb-true size longest, le-leb size longest) (alone_is_tested descriptors subsets)

-- ---- edition 4

pub all_short : (descriptors : List ℕ) (tree : Tree) (most : ℕ) (subsets : List Subset)
    → 45 + 2 * length descriptors + (most + 7) / 8 ≤ longest
    → AllByRecursion (StandsAlone tree most) subsets → CanBeAlone descriptors subsets
all_short descriptors tree most [] few each = tt
all_short descriptors tree most (s ∷ subsets) few (first, others) =
    let bits_of = length-append (plain s.fields) [] in
    let short = first.short in
    (omega arith, all_short descriptors tree most subsets few others)

-- a message of edition 4 is as long as each of its subsets alone
pub alone_in_edition_4 : BareSpellingsAreShortest
    → (tree : Tree) (m : Message) (contents : List ℕ) (i : Ignored) (data_bits rest : List Bool)
    → bits contents ≡ data_bits ++ rest
    → IsDataOf tree m.compressed m.subsets data_bits
    → length (spelling Edition4 (envelope_with m contents) i) < 2 ^ 24
    → CanBeAlone m.descriptors m.subsets
alone_in_edition_4 law tree m contents i data_bits rest begins holds total =
    let long = spelling_long law (envelope_with m contents) i in
    let each = each_alone tree m.compressed m.subsets data_bits holds in
    let whole = contents_hold data_bits rest contents begins in
    all_short m.descriptors tree (length data_bits) m.subsets (omega arith) each

-- a message of edition 4 without the word on each subset alone, and that word
pub edition_4_asks_no_more : Below → Edition4AsksNoMore
edition_4_asks_no_more below tables m octets slack s =
    record {
      layout = Edition4;
      contents = s.contents;
      ignored = s.ignored;
      fits = s.fits;
      spelled = s.spelled;
      tree = s.tree;
      template = s.template;
      data_bits = s.data_bits;
      rest = s.rest;
      begins = s.begins;
      holds = s.holds;
      after = s.after;
      alone = alone_in_edition_4 below.shortest s.tree m s.contents s.ignored s.data_bits s.rest
          s.begins s.holds s.fits.total;
    }

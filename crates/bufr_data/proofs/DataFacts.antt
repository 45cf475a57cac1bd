-- The laws of data from those of plain data and of columns.
use Rattle.std.proofs.Common.{◌≡◌, ℕ, zero, suc, Bool, true, false, List, ◌++◌, Ok, refl, sym, ap}
use Rattle.std.proofs.Common.{subst, ◌∙◌, arith}
use Rattle.bufr_base.specs.Answers.{result_map}
use Rattle.bufr_expand.specs.Trees.{Tree}
use Rattle.bufr_expand.specs.Courses.{course}
use Rattle.bufr_fields.specs.declared.field.Subset.{Subset}
use Rattle.bufr_fields.specs.declared.fault.DataFault.{DataFault}
use Rattle.bufr_fields.specs.declared.fault.MisfitFault.{MisfitFault}
use Rattle.bufr_data.specs.Plain.{SubsetsRead, plain_subsets, subsets_at}
use Rattle.bufr_data.specs.Compressed.{subsets_from}
use Rattle.bufr_data.specs.Compressed.Reading.{ColumnsFound, columns_at}
use Rattle.bufr_data.specs.Data.{BeginsWithData, subsets_in, ReadsExactly, RefusesExactly}
use Rattle.bufr_data.specs.Data.{WritesExactly, MisfitsExactly, BareDataAreData, PlainDataAreBare}
use Rattle.bufr_fields.specs.CourseLaws.{AreUnrolled, AreAllowed, Laws}
use Rattle.bufr_data.proofs.AnswerFacts.{map_ok, map_err}
use Rattle.bufr_data.proofs.FitFacts.{written_fit, fitting_written, all_read_stand}
use Rattle.bufr_data.proofs.FitFacts.{all_standing_read}
use Rattle.bufr_data.proofs.CauseFacts.{subsets_refused_first, first_subsets_refused}
use Rattle.bufr_data.proofs.CauseFacts.{written_refused_first, first_written_refused}
use Rattle.bufr_data.proofs.CompressedFacts.Courses.{first_of_columns, columns_of_first}
use Rattle.bufr_data.proofs.CompressedFacts.Refusals.{columns_refused, columns_refused_again}
use Rattle.bufr_data.proofs.CompressedFacts.Packed.{compressed_stand, compressed_read, compressed_hold}
use Rattle.bufr_data.proofs.CompressedFacts.Written.{fitting_columns_written, written_best}
use Rattle.bufr_data.proofs.CompressedFacts.PackedMisfits.{unpacked_is, unpacked_again}

plain_stand : AreUnrolled
    → (tree : Tree) (count : ℕ) (front : List Bool) (found : List Subset × List Bool)
    → subsets_in tree false count front ≡ Ok found → BeginsWithData tree false count front found
plain_stand law tree count front found e =
    let all = map_ok (λ (f : SubsetsRead). (f.subsets, f.rest))
    (subsets_at (course tree) 1 count 0 front) found e in
    let h = all_read_stand law tree 1 count 0 front all.0 (omega arith) all.1 in
    subst (BeginsWithData tree false count front) all.2
    (plain_subsets all.0.subsets, (all.0.items, h.1, refl), h.0, h.2)

plain_read : AreAllowed
    → (tree : Tree) (count : ℕ) (front : List Bool) (found : List Subset × List Bool)
    → BeginsWithData tree false count front found → subsets_in tree false count front ≡ Ok found
plain_read law tree count front (subsets, rest) (data_bits, (items, fit, same), many, joined) =
    let f : SubsetsRead = record { subsets = subsets; items = items; rest = rest } in
    let is : subsets_at (course tree) 1 count 0 front ≡ Ok f =
    all_standing_read law tree 1 count 0 front f
    (many, fit, joined ∙ ap (λ (xs : List Bool). xs ++ rest) same) in
    rw is refl

packed_read : AreAllowed
    → (tree : Tree) (count : ℕ) (front : List Bool) (found : List Subset × List Bool)
    → BeginsWithData tree true count front found → subsets_in tree true count front ≡ Ok found
packed_read law tree count front (subsets, rest) (data_bits, is, many, joined) =
    ap (subsets_in tree true count) joined
    ∙ compressed_read law tree count data_bits rest subsets many is.0 is.1

pub reads_exactly : Laws
    → (tree : Tree) (compressed : Bool) (count : ℕ) (front : List Bool)
    (found : List Subset × List Bool) → ReadsExactly tree compressed count front found
reads_exactly laws tree false count front found = (
  plain_stand laws.unrolled tree count front found,
  plain_read laws.allowed tree count front found,
)
reads_exactly laws tree true count front found = (
  compressed_stand laws.unrolled tree count front found,
  packed_read laws.allowed tree count front found,
)

pub refuses_exactly : Laws
    → (tree : Tree) (compressed : Bool) (count : ℕ) (front : List Bool) (fault : DataFault)
    → RefusesExactly tree compressed count front fault
refuses_exactly laws tree false count front fault = (
  λ e. subsets_refused_first laws tree count front fault (map_err _
      (subsets_at (course tree) 1 count 0 front) fault e),
  λ h. rw (first_subsets_refused laws tree count front fault h) refl,
)
refuses_exactly laws tree true zero front fault = (λ e. absurd cc, λ h. absurd h)
refuses_exactly laws tree true (suc n) front fault = (
  λ e. first_of_columns laws tree (suc n) front fault
      (columns_refused (suc n) 1 (course tree 0) front fault (omega arith)
      (map_err _ (columns_at (suc n) 1 (course tree 0) front) fault e)),
  λ h. ap (λ o. result_map (λ (f : ColumnsFound). (subsets_from 0 (suc n) f.columns, f.rest)) o)
      (columns_refused_again (suc n) 1 (course tree 0) front fault (omega arith)
      (columns_of_first laws tree (suc n) front fault h)),
)

pub writes_exactly : Laws
    → (tree : Tree) (compressed : Bool) (subsets : List Subset) (data_bits : List Bool)
    → WritesExactly tree compressed subsets data_bits
writes_exactly laws tree false subsets data_bits = (
  λ e. written_fit laws.unrolled tree subsets data_bits e,
  λ h. fitting_written laws.allowed tree subsets h.0 h.1 ∙ ap (λ (xs : List Bool). Ok xs) (sym h.2),
)
writes_exactly laws tree true subsets data_bits = (
  λ e. written_best laws.unrolled tree subsets data_bits e,
  λ h. fitting_columns_written laws.allowed tree subsets h.1 h.0 h.2
      ∙ ap (λ (xs : List Bool). Ok xs) (sym h.3),
)

pub misfits_exactly : Laws
    → (tree : Tree) (compressed : Bool) (subsets : List Subset) (fault : MisfitFault)
    → MisfitsExactly tree compressed subsets fault
misfits_exactly laws tree false subsets fault = (
  λ e. written_refused_first laws tree subsets fault e,
  λ h. first_written_refused laws tree subsets fault h,
)
misfits_exactly laws tree true subsets fault =
    (λ e. unpacked_is laws tree subsets fault e, λ h. unpacked_again laws tree subsets fault h)

pub bare_are_data : Laws
    → (tree : Tree) (compressed : Bool) (subsets : List Subset) (data_bits : List Bool)
    → BareDataAreData tree compressed subsets data_bits
bare_are_data laws tree false subsets data_bits h = h
bare_are_data laws tree true subsets data_bits h =
    compressed_hold laws.unrolled tree subsets data_bits
    ((writes_exactly laws tree true subsets data_bits).1 h)

pub plain_are_bare : (tree : Tree) (subsets : List Subset) (data_bits : List Bool)
    → PlainDataAreBare tree subsets data_bits
plain_are_bare tree subsets data_bits h = h

-- The data of a message: the subsets in the bits of section 4 after its fourth octet, by the
-- template's tree (FM 94 BUFR, WMO-No. 306 Volume I.2: regulations 94.5 and 94.6). Each definition
-- has a case for plain data and one for compressed data; messages are defined by these words alone.
use Rattle.std.specs.Prelude.{◌≡◌, ◌↔◌, ℕ, zero, suc, ◌+◌, Bool, true, false, List, [], ◌∷◌, ◌++◌}
use Rattle.std.specs.Prelude.{length, Result, Ok, Err}
use Rattle.std.specs.List.{AllByRecursion}
use Rattle.bufr_base.specs.Answers.{◌>>=◌, result_map}
use Rattle.bufr_expand.specs.Trees.{Tree}
use Rattle.bufr_expand.specs.Courses.{course}
use Rattle.bufr_fields.specs.declared.field.Subset.{Subset}
use Rattle.bufr_fields.specs.declared.fault.DataFault.{DataFault}
use Rattle.bufr_fields.specs.declared.fault.MisfitFault.{MisfitFault}
use Rattle.bufr_data.specs.Plain.{plain_subsets, subsets_at}
use Rattle.bufr_fields.specs.Forms.{items_of, items_of_all}
use Rattle.bufr_fields.specs.Fits.{AllFitWithin, FitsAlone}
use Rattle.bufr_data.specs.Causes.{FirstSubsetRefused, FirstSubsetMisfit}
use Rattle.bufr_data.specs.Compressed.{Column, Packed, subsets_from}
use Rattle.bufr_data.specs.Compressed.Reading.{columns_at}
use Rattle.bufr_data.specs.Compressed.Best.{columns_of_all, packed, best_bits, AreBestColumns}
use Rattle.bufr_data.specs.Compressed.Best.{CanBePacked, HasNarrowFields}
use Rattle.bufr_data.specs.Compressed.Causes.{FirstColumnRefused, FirstUnpacked}

-- ---- the data of subsets

-- the bits are the data of these subsets: plain, the subsets fit with at most 16,777,216 items in
-- all, and the bits are theirs in order (94.5); compressed, each subset fits with as many items,
-- and the bits hold them column by column (94.6.3)
abbrev pub IsDataOf : Tree → Bool → List Subset → List Bool → Type 0
IsDataOf tree false subsets data_bits =
    (items : ℕ) × AllFitWithin tree 0 subsets items × (data_bits ≡ plain_subsets subsets)
IsDataOf tree true subsets data_bits =
    AllByRecursion (FitsAlone tree) subsets × Packed subsets data_bits

-- the data as they are written, with no free choice left: plain data have none; compressed, each
-- column is the best one
abbrev pub IsBareDataOf : Tree → Bool → List Subset → List Bool → Type 0
IsBareDataOf tree false subsets data_bits = IsDataOf tree false subsets data_bits
IsBareDataOf tree true subsets data_bits =
    AllByRecursion (FitsAlone tree) subsets
    × (columns : List Column) × AreBestColumns subsets columns × (data_bits ≡ best_bits columns)

-- the bits begin with the data of `count` subsets, and the rest follows
abbrev pub BeginsWithData : Tree → Bool → ℕ → List Bool → List Subset × List Bool → Type 0
BeginsWithData tree compressed count front found =
    (data_bits : List Bool) × IsDataOf tree compressed found.0 data_bits
    × (length found.0 ≡ count) × (front ≡ data_bits ++ found.1)

-- ---- refusals

-- the first fault, V1 to V6, for which the bits do not begin with the data of `count` subsets;
-- compressed data without subsets are never refused
abbrev pub IsFirstDataFault : Tree → Bool → ℕ → List Bool → DataFault → Type 0
IsFirstDataFault tree false count front fault = FirstSubsetRefused tree count front fault
IsFirstDataFault tree true zero front fault = ⊥
IsFirstDataFault tree true (suc n) front fault = FirstColumnRefused tree (suc n) front fault

-- the first fault, E1 to E3, for which the subsets have no data
abbrev pub IsFirstMisfitFault : Tree → Bool → List Subset → MisfitFault → Type 0
IsFirstMisfitFault tree false subsets fault = FirstSubsetMisfit tree subsets fault
IsFirstMisfitFault tree true subsets fault = FirstUnpacked tree subsets fault

-- ---- reading and writing

-- the first `count` subsets in the bits, and the bits after them, or the first fault; compressed
-- data without subsets have no bits
abbrev pub subsets_in : Tree → Bool → ℕ → List Bool → Result (List Subset × List Bool) DataFault
subsets_in tree false count front =
    result_map (λ found. (found.subsets, found.rest)) (subsets_at (course tree) 1 count 0 front)
subsets_in tree true zero front = Ok ([], front)
subsets_in tree true (suc n) front =
    result_map (λ found. (subsets_from 0 (suc n) found.columns, found.rest))
    (columns_at (suc n) 1 (course tree 0) front)

-- the first misfit of the subsets from j on, each taken alone
abbrev pub each_fits : Tree → ℕ → List Subset → Result (Unit {0}) MisfitFault
each_fits tree j [] = Ok tt
each_fits tree j (s ∷ subsets) =
    items_of j 1 (course tree 0) s.fields >>= λ items. each_fits tree (j + 1) subsets

-- the data bits of subsets, or the first fault; compressed, the faults of single subsets come
-- first, then those of columns, then the limit on values
abbrev pub written_bits : Tree → Bool → List Subset → Result (List Bool) MisfitFault
written_bits tree false subsets =
    result_map (λ items. plain_subsets subsets) (items_of_all (course tree) 1 0 subsets)
written_bits tree true subsets =
    each_fits tree 1 subsets >>= λ fit. columns_of_all subsets
    >>= λ columns. packed (length subsets) columns

-- ---- laws

-- subsets are read exactly if the bits begin with their data
abbrev pub ReadsExactly : Tree → Bool → ℕ → List Bool → List Subset × List Bool → Type 0
ReadsExactly tree compressed count front found =
    (subsets_in tree compressed count front ≡ Ok found)
    ↔ BeginsWithData tree compressed count front found

-- bits are refused exactly with their first fault
abbrev pub RefusesExactly : Tree → Bool → ℕ → List Bool → DataFault → Type 0
RefusesExactly tree compressed count front fault =
    (subsets_in tree compressed count front ≡ Err fault)
    ↔ IsFirstDataFault tree compressed count front fault

-- the bits written are exactly the bare data
abbrev pub WritesExactly : Tree → Bool → List Subset → List Bool → Type 0
WritesExactly tree compressed subsets data_bits =
    (written_bits tree compressed subsets ≡ Ok data_bits)
    ↔ IsBareDataOf tree compressed subsets data_bits

-- subsets are refused exactly with their first fault
abbrev pub MisfitsExactly : Tree → Bool → List Subset → MisfitFault → Type 0
MisfitsExactly tree compressed subsets fault =
    (written_bits tree compressed subsets ≡ Err fault)
    ↔ IsFirstMisfitFault tree compressed subsets fault

-- bare data are data
abbrev pub BareDataAreData : Tree → Bool → List Subset → List Bool → Type 0
BareDataAreData tree compressed subsets data_bits =
    IsBareDataOf tree compressed subsets data_bits → IsDataOf tree compressed subsets data_bits

-- plain data are bare data
abbrev pub PlainDataAreBare : Tree → List Subset → List Bool → Type 0
PlainDataAreBare tree subsets data_bits =
    IsDataOf tree false subsets data_bits → IsBareDataOf tree false subsets data_bits

-- compressed subsets with data have bare data, if each column can be written. Only texts that
-- differ and have more than 63 octets can't (`can_be_column`)
abbrev pub PackedDataCanBeBare : Tree → List Subset → List Column → List Bool → Type 0
PackedDataCanBeBare tree subsets columns data_bits =
    IsDataOf tree true subsets data_bits → CanBePacked subsets columns
    → (bare : List Bool) × IsBareDataOf tree true subsets bare

-- if no field is wider than 63 bits, or 63 octets of a text, compressed subsets with data can be
-- written
abbrev pub NarrowDataCanBePacked : Tree → List Subset → List Bool → Type 0
NarrowDataCanBePacked tree subsets data_bits =
    IsDataOf tree true subsets data_bits → AllByRecursion HasNarrowFields subsets
    → (columns : List Column) × CanBePacked subsets columns

-- Laws of plain data: what is read are exactly the subsets that fit the template (FM 94 BUFR,
-- regulation 94.5).
use Rattle.std.specs.Prelude.{◌≡◌, ℕ, ◌<◌, ◌≤◌, Bool, false, List, ◌++◌, length, Ok, Err}
use Rattle.bufr_expand.specs.declared.operators.Spec.{Spec}
use Rattle.bufr_expand.specs.Courses.{Course, course}
use Rattle.bufr_expand.specs.Trees.{Tree}
use Rattle.bufr_expand.specs.Limits.{most_items}
use Rattle.bufr_fields.specs.declared.field.Field.{Field}
use Rattle.bufr_fields.specs.declared.field.Subset.{Subset}
use Rattle.bufr_fields.specs.declared.fault.DataFault.{DataFault}
use Rattle.bufr_fields.specs.declared.fault.MisfitFault.{MisfitFault}
use Rattle.bufr_data.specs.Plain.{SubsetRead, SubsetsRead, plain_subsets, fields_at, subsets_at}
use Rattle.bufr_data.specs.Plain.{BeginsWithSubset, BeginsWithSubsets}
use Rattle.bufr_fields.specs.Forms.{items_of, items_of_all}
use Rattle.bufr_data.specs.Data.{written_bits}
use Rattle.bufr_fields.specs.Fits.{AllFitWithin}
use Rattle.bufr_data.specs.Plain.Refusals.{IsWithinLimits, BeginsWithNone}
use Rattle.bufr_data.specs.Causes.{FirstRefused, FirstSubsetRefused, FirstMisfit, FirstSubsetMisfit}

-- n subsets that their courses allow begin the bits, and f.rest follows
abbrev pub AreSubsets : (ℕ → Course) → ℕ → ℕ → ℕ → List Bool → SubsetsRead → Type 0
AreSubsets course j n used front f =
    (length f.subsets ≡ n) × (items_of_all course j used f.subsets ≡ Ok f.items)
    × (front ≡ plain_subsets f.subsets ++ f.rest)

-- subsets that are read begin the bits
abbrev pub ReadAreHeld : Type 0
ReadAreHeld = (course : ℕ → Course) (j n used : ℕ) (front : List Bool) (f : SubsetsRead)
    → subsets_at course j n used front ≡ Ok f → AreSubsets course j n used front f

-- subsets that begin the bits are read, and no others
abbrev pub HeldAreRead : Type 0
HeldAreRead = (course : ℕ → Course) (j n used : ℕ) (front : List Bool) (f : SubsetsRead)
    → AreSubsets course j n used front f → subsets_at course j n used front ≡ Ok f

-- ---- by the template's tree

-- a subset that is read fits the template and begins the bits
abbrev pub SubsetReadIsHeld : Type 0
SubsetReadIsHeld = (tree : Tree) (j used : ℕ) (front : List Bool) (f : SubsetRead)
    → used ≤ most_items
    → fields_at j 1 (course tree used) front ≡ Ok f → BeginsWithSubset tree used front f

-- a subset that fits the template and begins the bits is read, and no other
abbrev pub SubsetHeldIsRead : Type 0
SubsetHeldIsRead = (tree : Tree) (j used : ℕ) (front : List Bool) (f : SubsetRead)
    → BeginsWithSubset tree used front f → fields_at j 1 (course tree used) front ≡ Ok f

-- subsets that are read fit the template and begin the bits
abbrev pub SubsetsReadAreHeld : Type 0
SubsetsReadAreHeld = (tree : Tree) (j n used : ℕ) (front : List Bool) (f : SubsetsRead)
    → used ≤ most_items → subsets_at (course tree) j n used front ≡ Ok f
    → BeginsWithSubsets tree n used front f

-- subsets that fit the template and begin the bits are read
abbrev pub SubsetsHeldAreRead : Type 0
SubsetsHeldAreRead = (tree : Tree) (j n used : ℕ) (front : List Bool) (f : SubsetsRead)
    → BeginsWithSubsets tree n used front f → subsets_at (course tree) j n used front ≡ Ok f

-- bits that are written are those of subsets that fit the template, with at most 16,777,216 items
abbrev pub WrittenFit : Type 0
WrittenFit = (tree : Tree) (subsets : List Subset) (added : List Bool)
    → written_bits tree false subsets ≡ Ok added → (items : ℕ) × AllFitWithin tree 0 subsets items
    × (added ≡ plain_subsets subsets)

-- subsets that fit are written
abbrev pub FittingAreWritten : Type 0
FittingAreWritten = (tree : Tree) (subsets : List Subset) (items : ℕ)
    → AllFitWithin tree 0 subsets items → written_bits tree false subsets
    ≡ Ok (plain_subsets subsets)

-- ---- refusals, by the template's tree

-- within the limits, too few bits hold no field
abbrev pub NoneOnFewBits : Type 0
NoneOnFewBits = (spec : Spec) (front : List Bool) → IsWithinLimits spec
    → length front < spec.width → BeginsWithNone spec front

-- within the limits, bits that hold no field are too few
abbrev pub FewBitsWhereNone : Type 0
FewBitsWhereNone = (spec : Spec) (front : List Bool) → IsWithinLimits spec
    → BeginsWithNone spec front → length front < spec.width

-- the fault of reading a subset is that of its first field that can't be read
abbrev pub ReadRefusedIsFirst : Type 0
ReadRefusedIsFirst = (tree : Tree) (j used : ℕ) (front : List Bool) (fault : DataFault)
    → used ≤ most_items → fields_at j 1 (course tree used) front ≡ Err fault
    → FirstRefused tree j used front fault

-- the first field that can't be read determines the fault
abbrev pub FirstReadIsRefused : Type 0
FirstReadIsRefused = (tree : Tree) (j used : ℕ) (front : List Bool) (fault : DataFault)
    → used ≤ most_items → FirstRefused tree j used front fault
    → fields_at j 1 (course tree used) front ≡ Err fault

-- the fault of reading subsets is that of the first one that can't be read
abbrev pub SubsetsReadRefusedIsFirst : Type 0
SubsetsReadRefusedIsFirst = (tree : Tree) (n : ℕ) (front : List Bool) (fault : DataFault)
    → subsets_at (course tree) 1 n 0 front ≡ Err fault → FirstSubsetRefused tree n front fault

-- the first subset that can't be read determines the fault
abbrev pub FirstSubsetsReadIsRefused : Type 0
FirstSubsetsReadIsRefused = (tree : Tree) (n : ℕ) (front : List Bool) (fault : DataFault)
    → FirstSubsetRefused tree n front fault → subsets_at (course tree) 1 n 0 front ≡ Err fault

-- the fault of fields is that of the first misfit
abbrev pub WriteRefusedIsFirst : Type 0
WriteRefusedIsFirst = (tree : Tree) (j used : ℕ) (fields : List Field) (fault : MisfitFault)
    → used ≤ most_items → items_of j 1 (course tree used) fields ≡ Err fault
    → FirstMisfit tree j used fields fault

-- the first misfit determines the fault
abbrev pub FirstWriteIsRefused : Type 0
FirstWriteIsRefused = (tree : Tree) (j used : ℕ) (fields : List Field) (fault : MisfitFault)
    → used ≤ most_items → FirstMisfit tree j used fields fault
    → items_of j 1 (course tree used) fields ≡ Err fault

-- the fault of subsets is that of the first one that does not fit
abbrev pub WrittenRefusedIsFirst : Type 0
WrittenRefusedIsFirst = (tree : Tree) (subsets : List Subset) (fault : MisfitFault)
    → written_bits tree false subsets ≡ Err fault → FirstSubsetMisfit tree subsets fault

-- the first subset that does not fit determines the fault
abbrev pub FirstWrittenIsRefused : Type 0
FirstWrittenIsRefused = (tree : Tree) (subsets : List Subset) (fault : MisfitFault)
    → FirstSubsetMisfit tree subsets fault → written_bits tree false subsets ≡ Err fault

-- What is read fits the template and begins the bits, and what fits is written.
use Rattle.std.proofs.Common.{◌≡◌, ℕ, ◌≤◌, Bool, false, List, Ok, refl, sym, ap, ◌∙◌, arith}
use Rattle.bufr_expand.specs.Courses.{course}
use Rattle.bufr_expand.specs.Trees.{Tree}
use Rattle.bufr_expand.specs.Limits.{most_items}
use Rattle.bufr_fields.specs.declared.field.Subset.{Subset}
use Rattle.bufr_fields.specs.Forms.{items_of_all}
use Rattle.bufr_data.specs.Plain.{plain_subsets, SubsetRead, SubsetsRead, fields_at, subsets_at}
use Rattle.bufr_data.specs.Plain.{BeginsWithSubset, BeginsWithSubsets}
use Rattle.bufr_data.specs.Data.{written_bits}
use Rattle.bufr_fields.specs.Fits.{AllFitWithin}
use Rattle.bufr_fields.specs.CourseLaws.{AreUnrolled, AreAllowed}
use Rattle.bufr_fields.specs.FitLaws.{counted_fit, fitting_counted, all_counted_fit}
use Rattle.bufr_fields.specs.FitLaws.{all_fitting_counted}
use Rattle.bufr_data.proofs.AnswerFacts.{map_ok}
use Rattle.bufr_data.proofs.PlainFacts.{fields_at-plain, fields_at-found}
use Rattle.bufr_data.proofs.PlainFacts.{subsets_at-found, subsets_at-plain}

pub read_stands : AreUnrolled → (tree : Tree) (j used : ℕ) (front : List Bool) (f : SubsetRead)
    → used ≤ most_items → fields_at j 1 (course tree used) front ≡ Ok f
    → BeginsWithSubset tree used front f
read_stands law tree j used front f le e =
    let is = fields_at-found j 1 (course tree used) front f e in
    (counted_fit law tree j used f.items f.fields le is.0, is.1)

pub standing_read : AreAllowed → (tree : Tree) (j used : ℕ) (front : List Bool) (f : SubsetRead)
    → BeginsWithSubset tree used front f → fields_at j 1 (course tree used) front ≡ Ok f
standing_read law tree j used front f h =
    ap (fields_at j 1 (course tree used)) h.1
    ∙ fields_at-plain j 1 (course tree used) f.fields f.items f.rest
    (fitting_counted law tree j used f.items f.fields h.0)

pub all_read_stand : AreUnrolled
    → (tree : Tree) (j n used : ℕ) (front : List Bool) (f : SubsetsRead) → used ≤ most_items
    → subsets_at (course tree) j n used front ≡ Ok f → BeginsWithSubsets tree n used front f
all_read_stand law tree j n used front f le e =
    let is = subsets_at-found (course tree) j n used front f e in
    (is.0, all_counted_fit law tree j used f.items f.subsets le is.1, is.2)

pub all_standing_read : AreAllowed
    → (tree : Tree) (j n used : ℕ) (front : List Bool) (f : SubsetsRead)
    → BeginsWithSubsets tree n used front f → subsets_at (course tree) j n used front ≡ Ok f
all_standing_read law tree j n used front f h =
    subsets_at-plain (course tree) j n used front f h.0
    (all_fitting_counted law tree j used f.items f.subsets h.1) h.2

pub written_fit : AreUnrolled → (tree : Tree) (subsets : List Subset) (added : List Bool)
    → written_bits tree false subsets ≡ Ok added
    → (items : ℕ) × AllFitWithin tree 0 subsets items × (added ≡ plain_subsets subsets)
written_fit law tree subsets added e =
    let is = map_ok (λ items. plain_subsets subsets) (items_of_all (course tree) 1 0 subsets) added
    e in
    (is.0, all_counted_fit law tree 1 0 is.0 subsets (omega arith) is.1, sym is.2)

pub fitting_written : AreAllowed → (tree : Tree) (subsets : List Subset) (items : ℕ)
    → AllFitWithin tree 0 subsets items
    → written_bits tree false subsets ≡ Ok (plain_subsets subsets)
fitting_written law tree subsets items h =
    rw (all_fitting_counted law tree 1 0 items subsets h) refl

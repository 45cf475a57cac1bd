-- The subsets that are counted are exactly those that fit the template (FM 94 BUFR, regulation
-- 94.5).
use Rattle.std.specs.Prelude.{◌≡◌, ℕ, ◌≤◌, List, Ok}
use Rattle.bufr_expand.specs.Courses.{course}
use Rattle.bufr_expand.specs.Trees.{Tree}
use Rattle.bufr_expand.specs.Limits.{most_items}
use Rattle.bufr_fields.specs.declared.field.Field.{Field}
use Rattle.bufr_fields.specs.declared.field.Subset.{Subset}
use Rattle.bufr_fields.specs.Forms.{items_of, items_of_all}
use Rattle.bufr_fields.specs.Fits.{FitsWithin, AllFitWithin}

-- fields that are counted fit the template, with the items counted
abbrev pub CountedFit : Type 0
CountedFit = (tree : Tree) (j used n : ℕ) (fields : List Field) → used ≤ most_items
    → items_of j 1 (course tree used) fields ≡ Ok n → FitsWithin tree used fields n

-- fields that fit the template are counted
abbrev pub FittingAreCounted : Type 0
FittingAreCounted = (tree : Tree) (j used n : ℕ) (fields : List Field)
    → FitsWithin tree used fields n → items_of j 1 (course tree used) fields ≡ Ok n

-- subsets that are counted fit the template
abbrev pub AllCountedFit : Type 0
AllCountedFit = (tree : Tree) (j used n : ℕ) (subsets : List Subset) → used ≤ most_items
    → items_of_all (course tree) j used subsets ≡ Ok n → AllFitWithin tree used subsets n

-- subsets that fit the template are counted
abbrev pub AllFittingAreCounted : Type 0
AllFittingAreCounted = (tree : Tree) (j used n : ℕ) (subsets : List Subset)
    → AllFitWithin tree used subsets n → items_of_all (course tree) j used subsets ≡ Ok n

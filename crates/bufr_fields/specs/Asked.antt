-- Fields in the order in which a course, or the template's tree, asks for them (FM 94 BUFR,
-- regulations 94.1.3 and 94.5.4).
use Rattle.std.specs.Prelude.{◌≡◌, ℕ, List, [], ◌∷◌, ◌++◌, map}
use Rattle.std.specs.List.{AllByRecursion}
use Rattle.bufr_expand.specs.declared.operators.Spec.{Spec}
use Rattle.bufr_expand.specs.Courses.{Course, ends, stops, asks}
use Rattle.bufr_expand.specs.Trees.{Tree}
use Rattle.bufr_expand.specs.NextFields.{wants, BeginsWithin}
use Rattle.bufr_fields.specs.declared.field.Field.{Field}
use Rattle.bufr_fields.specs.Forms.{number_of}
use Rattle.bufr_fields.specs.Fits.{HasForm, told_of}

-- the field that is asked for: this descriptor, this spec, and a raw value that fits
abbrev pub IsAsked : ℕ → Spec → Field → Type 0
IsAsked d spec f = (f.fxy ≡ d) × (f.spec ≡ spec) × HasForm spec f.raw

-- the course left after it asked for each of these fields in turn
abbrev pub Passes : Course → List Field → Course → Type 0
Passes c [] next = c ≡ next
Passes (ends n) (f ∷ fields) next = ⊥
Passes (stops n fault) (f ∷ fields) next = ⊥
Passes (asks met d spec more) (f ∷ fields) next = IsAsked d spec f
    × Passes (more (number_of f.raw)) fields next

-- the first fields of some subset: each comes next in an unrolling after those before it, within
-- the limit of items, and each raw value fits its spec (94.5.4)
pub record Begin (tree : Tree) (used : ℕ) (fields : List Field) : Type 0 where
  pub each : (before others : List Field) (f : Field) → fields ≡ before ++ f ∷ others
      → (met : ℕ) × BeginsWithin tree used (map told_of before) (wants f.fxy f.spec) met
  pub formed : AllByRecursion (λ f. HasForm f.spec f.raw) fields

-- The forms of raw values, and the fields that a course allows (FM 94 BUFR, regulations 94.1.3 and
-- 94.5).
use Rattle.std.specs.Prelude.{ℕ, ◌+◌, ◌/◌, ◌^◌, ◌==◌, ◌&&◌, Bool, true, false, List, [], ◌∷◌, length}
use Rattle.std.specs.Prelude.{Result, Ok, Err, nat_lt, nat_le, if◌then◌else◌}
use Rattle.std.specs.List.{list_all}
use Rattle.bufr_base.specs.Answers.{◌>>=◌}
use Rattle.bufr_tables.specs.declared.element.Kind.{Kind}
use Rattle.bufr_tables.specs.declared.element.Kind.TheVariants as kinds
use Rattle.bufr_tables.specs.Elements.{same_kind, same_integer}
use Rattle.bufr_expand.specs.declared.operators.Spec.{Spec}
use Rattle.bufr_expand.specs.declared.walk.WalkFault.{WalkFault}
use Rattle.bufr_expand.specs.declared.walk.WalkFault.TheVariants as walks
use Rattle.bufr_expand.specs.Courses.{Course, ends, stops, asks}
use Rattle.bufr_fields.specs.declared.field.Raw.{Raw}
use Rattle.bufr_fields.specs.declared.field.Raw.TheVariants.{Number, Text}
use Rattle.bufr_fields.specs.declared.field.Field.{Field}
use Rattle.bufr_fields.specs.declared.field.Subset.{Subset}
use Rattle.bufr_fields.specs.declared.fault.MisfitFault.{MisfitFault}
use Rattle.bufr_fields.specs.declared.fault.MisfitFault.TheVariants as misfits
use Rattle.bufr_fields.specs.Limits.{most_raw_bits}

-- ---- forms

-- the number of a raw value, for a factor its count; 0 for a text
abbrev pub number_of : Raw → ℕ
number_of (Number n) = n
number_of (Text octets) = 0

-- whether two specs are equal
abbrev pub same_spec : Spec → Spec → Bool
same_spec a b = same_kind a.kind b.kind && same_integer a.scale b.scale
    && same_integer a.reference b.reference && a.width == b.width

-- whether a raw value fits a kind and a width: a number below 2 to the power of the width, at most
-- 64 bits, or a text of width / 8 octets
abbrev pub has_form_by : Kind → ℕ → Raw → Bool
has_form_by kinds.Text width (Text octets) =
    length octets == width / 8 && list_all (λ x. nat_lt x 256) octets
has_form_by kinds.Text width (Number n) = false
has_form_by kind width (Number n) = nat_le width most_raw_bits && nat_lt n (2 ^ width)
has_form_by kind width (Text octets) = false

-- whether a field has this descriptor and spec, and a raw value that fits
abbrev pub matches_spec : ℕ → Spec → Field → Bool
matches_spec d spec f = f.fxy == d && same_spec f.spec spec && has_form_by spec.kind spec.width f.raw

-- ---- fields that fit

-- the fault of field i in subset j, if it does not fit
abbrev pub fits_or : ℕ → ℕ → Bool → Result (Unit {0}) MisfitFault
fits_or j i true = Ok tt
fits_or j i false = Err (misfits.DoesNotFit j i)

-- the fault of fields if the walk stops
abbrev pub misfit : ℕ → ℕ → WalkFault → MisfitFault
misfit j i walks.TooLarge = misfits.TooLarge
misfit j i (walks.EffectiveRange d) = misfits.DoesNotFit j i

-- the items met after the fields of subset j, from field i on, if they are those that the course
-- asks for; else the first fault
unfoldable pub items_of : ℕ → ℕ → Course → List Field → Result ℕ MisfitFault
items_of j i (ends n) [] = Ok n
items_of j i (ends n) (f ∷ fs) = Err (misfits.DoesNotFit j i)
items_of j i (stops met fault) fs = Err (misfit j i fault)
items_of j i (asks met d spec more) [] = Err (misfits.DoesNotFit j i)
items_of j i (asks met d spec more) (f ∷ fs) =
    if matches_spec d spec f then items_of j (i + 1) (more (number_of f.raw)) fs
    else Err (misfits.DoesNotFit j i)

-- the items met after all subsets from j on, in plain data; else the first fault
unfoldable pub items_of_all : (ℕ → Course) → ℕ → ℕ → List Subset → Result ℕ MisfitFault
items_of_all course j used [] = Ok used
items_of_all course j used (s ∷ subsets) =
    items_of j 1 (course used) s.fields >>= λ n. items_of_all course (j + 1) n subsets

-- Bits without a field (FM 94 BUFR, regulation 94.1.3).
use Rattle.std.specs.Prelude.{◌≡◌, ◌≤◌, ◌%◌, Bool, List, ◌++◌}
use Rattle.bufr_tables.specs.declared.element.Kind.TheVariants as kinds
use Rattle.bufr_expand.specs.declared.operators.Spec.{Spec}
use Rattle.bufr_fields.specs.declared.field.Raw.{Raw}
use Rattle.bufr_data.specs.Plain.{raw_bits}
use Rattle.bufr_fields.specs.Fits.{HasForm}
use Rattle.bufr_fields.specs.Limits.{most_raw_bits}

-- the bits do not begin with a field of this spec
abbrev pub BeginsWithNone : Spec → List Bool → Type 0
BeginsWithNone spec front = (raw : Raw) (rest : List Bool) → HasForm spec raw
    → front ≡ raw_bits spec.width raw ++ rest → ⊥

-- a spec with a field in any bits that are long enough: a text of whole octets, or a number of at
-- most 64 bits
pub record IsWithinLimits (spec : Spec) : Type 0 where
  pub whole_octets : spec.kind ≡ kinds.Text → spec.width % 8 ≡ 0
  pub few_bits : (spec.kind ≡ kinds.Text → ⊥) → spec.width ≤ most_raw_bits

-- What writing leaves in a sink.
use Rattle.std.specs.Prelude.{◌≡◌, ◌-◌, ◌%◌, Bool, false, List, ◌++◌, length, replicate}
use Rattle.std.specs.Prelude.{Result, Ok, Err}
use Rattle.bufr_base.specs.declared.failure.Failure.{Failure}
use Rattle.bufr_base.specs.Answers.{Fails}
use Rattle.std.specs.List.{list_all}
use Rattle.bufr_expand.specs.declared.operators.Spec.{Spec}
use Rattle.bufr_fields.specs.declared.field.Raw.{Raw}
use Rattle.bufr_fields.specs.declared.field.Field.{Field}
use Rattle.bufr_fields.specs.Forms.{has_form_by}

-- the new bits begin with the old ones
abbrev pub Extends : List Bool → List Bool → Type 0
Extends old new = (added : List Bool) × (new ≡ old ++ added)

-- bits, and zero bits up to the end of the last octet
abbrev pub filled : List Bool → List Bool
filled data_bits = data_bits ++ replicate ((8 - length data_bits % 8) % 8) false

-- a call that appends the bits meant, or returns their fault and changes nothing
abbrev pub Appends : {X F : Type 0} → List Bool → List Bool → Result X (Failure F)
    → Result (List Bool) F → Type 0
Appends old new (Ok x) meant = (added : List Bool) × (meant ≡ Ok added) × (new ≡ old ++ added)
Appends old new (Err e) meant = Fails e meant × (new ≡ old)

-- whether a field's raw value fits its spec
abbrev pub has_own_form : Field → Bool
has_own_form f = has_form_by f.spec.kind f.spec.width f.raw

-- whether all raw values fit a spec
abbrev pub have_form : Spec → List Raw → Bool
have_form spec values = list_all (has_form_by spec.kind spec.width) values

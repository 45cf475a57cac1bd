-- The spec of a field as equations, and its limits (FM 94 BUFR, Table B; Table C: 201, 202, 207 and
-- 208; regulation 94.5.5).
use Rattle.std.specs.Prelude.{◌≡◌, ◌≢◌, ℕ, ◌+◌, ◌*◌, ◌/◌, ◌%◌, ◌^◌, ◌≤◌, Option, Some, None}
use Rattle.std.specs.Prelude.{ℤ, pos, ◌+ℤ◌, ◌-ℤ◌, ◌*ℤ◌}
use Rattle.std.specs.Int.RustNames.{unsigned_abs}
use Rattle.bufr_tables.specs.declared.element.Element.{Element}
use Rattle.bufr_tables.specs.declared.element.Kind.TheVariants as kinds
use Rattle.bufr_tables.specs.Descriptors.{x_of}
use Rattle.bufr_expand.specs.declared.operators.Operators.{Operators}
use Rattle.bufr_expand.specs.declared.operators.Spec.{Spec}
use Rattle.bufr_expand.specs.Limits.{most_number_bits, most_text_bits, most_scale, most_reference}

-- ---- limits

-- a text: 1 to 8,191 whole octets, with scale and reference value 0
pub record IsTextSpec (spec : Spec) : Type 0 where
  pub is_text : spec.kind ≡ kinds.Text
  pub no_scale : spec.scale ≡ pos 0
  pub no_reference : spec.reference ≡ pos 0
  pub some_octet : 8 ≤ spec.width
  pub few_octets : spec.width ≤ most_text_bits
  pub whole_octets : spec.width % 8 ≡ 0

-- a number: 1 to 63 bits, a reference value within 2 to the 62, and a scale in its row within 127
pub record IsNumber (row : Element) (spec : Spec) : Type 0 where
  pub scale_in_table : unsigned_abs row.scale ≤ most_scale
  pub some_bit : 1 ≤ spec.width
  pub few_bits : spec.width ≤ most_number_bits
  pub reference_within : unsigned_abs spec.reference ≤ most_reference

-- ---- a field that no operator changes

-- a number as its row has it
pub record IsAsRow (row : Element) (spec : Spec) : Type 0 where
  pub kind_is : spec.kind ≡ row.kind
  pub scale_is : spec.scale ≡ row.scale
  pub reference_is : spec.reference ≡ row.reference
  pub width_is : spec.width ≡ row.width
  pub within : IsNumber row spec

-- a field that no operator changes, as its row has it; a text has the row's bits
pub data AsInTable (row : Element) (spec : Spec) : Type 0 where
  text : row.kind ≡ kinds.Text → spec.width ≡ row.width → IsTextSpec spec → AsInTable row spec
  number : (row.kind ≡ kinds.Text → ⊥) → IsAsRow row spec → AsInTable row spec

-- ---- a field under operators

-- "change data width" (201) and "change scale" (202) add Y - 128 if they are in force
abbrev pub Adds : Option ℕ → ℤ → Type 0
Adds None more = more ≡ pos 0
Adds (Some y) more = more ≡ pos y -ℤ pos 128

-- "increase scale, reference value and data width" (207) increases by Y if it is in force
abbrev pub Increases : Option ℕ → ℕ → Type 0
Increases None increase = increase ≡ 0
Increases (Some y) increase = increase ≡ y

-- a quantity under operators, to which 201, 202 and 207 all add
pub record IsChanged (row : Element) (operators : Operators) (spec : Spec) : Type 0 where
  -- what 201 adds to the data width, what 202 adds to the scale, and the Y of 207
  pub wider : ℤ
  pub finer : ℤ
  pub increase : ℕ
  pub change_data_width : Adds operators.add_width wider
  pub change_scale : Adds operators.add_scale finer
  pub increases : Increases operators.increase increase
  pub kind_is : spec.kind ≡ kinds.Quantity
  -- 207 adds Y to the scale
  pub scale_is : spec.scale ≡ row.scale +ℤ finer +ℤ pos increase
  -- 207 multiplies the reference value by 10 to the Y
  pub reference_is : spec.reference ≡ row.reference *ℤ pos (10 ^ increase)
  -- 207 adds (10 * Y + 2) / 3 bits, the fraction discarded
  pub width_is : pos spec.width ≡ pos row.width +ℤ wider +ℤ pos ((10 * increase + 2) / 3)
  pub within : IsNumber row spec

-- "change width of CCITT IA5 field" (208): a text has Y octets if it is in force, else its row's
-- bits
abbrev pub HasTextBits : Option ℕ → Element → ℕ → Type 0
HasTextBits None row bits = bits ≡ row.width
HasTextBits (Some y) row bits = bits ≡ 8 * y

-- the spec of an element: 208 sets the width of texts; 201, 202 and 207 change quantities except
-- those of class 31; any other number is as its row has it (Table C)
pub data Effective (fxy : ℕ) (row : Element) (operators : Operators) (spec : Spec) : Type 0 where
  of_text : row.kind ≡ kinds.Text → HasTextBits operators.characters row spec.width
      → IsTextSpec spec → Effective fxy row operators spec
  changed : row.kind ≡ kinds.Quantity → (x_of fxy ≡ 31 → ⊥) → IsChanged row operators spec
      → Effective fxy row operators spec
  unchanged : (row.kind ≡ kinds.Text → ⊥) → (row.kind ≡ kinds.Quantity → x_of fxy ≡ 31)
      → IsAsRow row spec
      → Effective fxy row operators spec

-- ---- the specs that a template can ask for

-- a scale of at most 510 (127 in the table, 127 by 202 and 255 by 207 are 509) and a reference
-- value of at most 2 to the 62, above or below 0
pub record IsInRange (spec : Spec) : Type 0 where
  pub scale_within : unsigned_abs spec.scale ≤ 510
  pub reference_within : unsigned_abs spec.reference ≤ most_reference

-- a spec that a template can ask for: in range, a text of 1 to 8,191 octets or a number of 1 to 63
-- bits
pub record CanBeAsked (spec : Spec) : Type 0 where
  pub in_range : IsInRange spec
  pub octets : spec.kind ≡ kinds.Text → IsTextSpec spec
  pub some_bit : spec.kind ≢ kinds.Text → 1 ≤ spec.width
  pub few_bits : spec.kind ≢ kinds.Text → spec.width ≤ most_number_bits

-- Texts that are lent: the descriptor and the octets of a field (FM 94 BUFR, Table B: unit CCITT IA5).
use Rattle.std.specs.Prelude.{◌≡◌, ℕ, List, true}
use Rattle.bufr_fields.specs.declared.field.Field.{Field}
use Rattle.bufr_fields.specs.declared.field.Raw.TheVariants.{Text}
use Rattle.bufr_data.specs.Subsets.{has_own_form}

-- the field has this descriptor and these octets, which fit its spec
abbrev pub HasOctets : Field → ℕ → List ℕ → Type 0
HasOctets f fxy octets = (f.fxy ≡ fxy) × (f.raw ≡ Text octets) × (has_own_form f ≡ true)

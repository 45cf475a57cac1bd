-- Numbers in the bits of turns (FM 94 BUFR, regulations 94.1.3 and 94.5.4).
use Rattle.std.specs.Prelude.{◌≡◌, ℕ, zero, suc, ◌+◌, ◌*◌, ◌==◌, ◌≤◌, Bool, true, false, List, [], ◌∷◌}
use Rattle.std.specs.Prelude.{◌++◌, take, drop, length}
use Rattle.std.specs.List.{AllByRecursion}
use Rattle.bufr_bits.specs.Bits.{number}
use Rattle.bufr_tables.specs.declared.element.Kind.TheVariants as kinds
use Rattle.bufr_expand.specs.declared.even_turns.CommonField.{CommonField}
use Rattle.bufr_expand.specs.declared.operators.Spec.{Spec}
use Rattle.bufr_fields.specs.Limits.{most_raw_bits}
use Rattle.bufr_data.specs.declared.plain.number_turns.Opening.{Opening}
use Rattle.bufr_data.specs.Plain.LaidTurns.{none_among}
use Rattle.bufr_data.specs.Turns.{OpensTurns}

-- a number of at most 64 bits
abbrev pub IsNumber : Spec → Type 0
IsNumber spec = (spec.kind ≡ kinds.Text → ⊥) × (spec.width ≤ most_raw_bits)

-- every field is a number of at most 64 bits
abbrev pub AreNumbers : List CommonField → Type 0
AreNumbers fields = AllByRecursion (λ f. IsNumber f.spec) fields

-- no field has this descriptor
abbrev pub NoneIs : ℕ → List CommonField → Type 0
NoneIs d fields = AllByRecursion (λ g. (g.fxy == d) ≡ false) fields

-- the bits of numbers
abbrev pub widths : List CommonField → ℕ
widths [] = 0
widths (f ∷ fields) = f.spec.width + widths fields

-- the numbers of these fields, one after another
abbrev pub numbers_in : List CommonField → List Bool → List ℕ
numbers_in [] front = []
numbers_in (f ∷ fields) front =
    number (take f.spec.width front) ∷ numbers_in fields (drop f.spec.width front)

-- the numbers of each of n turns
abbrev pub turns_in : ℕ → List CommonField → List Bool → List (List ℕ)
turns_in zero fields front = []
turns_in (suc n) fields front =
    numbers_in fields front ∷ turns_in n fields (drop (widths fields) front)

-- a turn that begins at this index of another
abbrev pub turned : ℕ → List CommonField → List CommonField
turned place turn = drop place turn ++ take place turn

-- n turns of numbers begin at a field with this descriptor, and no field before it is chosen
pub record IsOpening (asks : ℕ → Bool) (d : ℕ) (turn : List CommonField) (n : ℕ) (opening : Opening)
    : Type 0 where
  pub within : opening.place ≤ length turn
  pub none : none_among asks (take opening.place turn) ≡ true
  pub others : NoneIs d (take opening.place turn)
  pub before : AreNumbers (take opening.place turn)
  pub opens : OpensTurns d (drop opening.place turn)
  pub numbers : AreNumbers (drop opening.place turn)
  pub gap : opening.gap ≡ widths (take opening.place turn)
  pub bits : opening.bits
      ≡ n * (widths (drop opening.place turn) + widths (take opening.place turn))

-- Turns of a replication as numbers (FM 94 BUFR, regulation 94.5.4).
use Rattle.std.specs.Prelude.{◌≡◌, ℕ, ◌==◌, Bool, false, List, [], ◌∷◌, ◌++◌}
use Rattle.std.specs.List.{AllByRecursion}
use Rattle.bufr_expand.specs.declared.even_turns.CommonField.{CommonField}
use Rattle.bufr_fields.specs.declared.field.Field.{Field}
use Rattle.bufr_fields.specs.declared.field.Raw.TheVariants.{Number}
use Rattle.bufr_data.specs.Handed.{NoneAsked}

-- the fields of a turn, and the numbers of each turn left
pub record TurnsLeft : Type 0 where
  pub fields : List CommonField
  pub turns : List (List ℕ)

-- fields with these numbers
abbrev pub numbered : List CommonField → List ℕ → List Field
numbered [] numbers = []
numbered (f ∷ fields) [] = []
numbered (f ∷ fields) (n ∷ numbers) =
    record { fxy = f.fxy; spec = f.spec; raw = Number n } ∷ numbered fields numbers

-- the fields of turns with these numbers
abbrev pub all_numbered : List CommonField → List (List ℕ) → List Field
all_numbered fields [] = []
all_numbered fields (numbers ∷ turns) = numbered fields numbers ++ all_numbered fields turns

-- the first field of a turn has this descriptor, and no other field of it does
abbrev pub OpensTurns : ℕ → List CommonField → Type 0
OpensTurns d fields = (f : CommonField) × (others : List CommonField) × (f.fxy ≡ d)
    × (fields ≡ f ∷ others) × AllByRecursion (λ g. (g.fxy == d) ≡ false) others

-- the first field has this descriptor
abbrev pub BeginsWith : ℕ → List Field → Type 0
BeginsWith d fields =
    (f : Field) × (others : List Field) × (f.fxy ≡ d) × (fields ≡ f ∷ others)

-- passes some fields, none of them chosen, and takes turns that begin with this descriptor, all but the
-- last
abbrev pub TakesTurns : (ℕ → Bool) → ℕ → List Field → TurnsLeft → List Field → Type 0
TakesTurns asks d old turns new = (passed : List Field) × NoneAsked asks passed
    × (old ≡ passed ++ (all_numbered turns.fields turns.turns ++ new)) × OpensTurns d turns.fields
    × BeginsWith d new

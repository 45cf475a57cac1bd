-- By the fields at known places.
use Rattle.std.proofs.Common.{◌≡◌, ℕ, List, Option, Some, None, ap, sym, ◌∙◌}
use Rattle.std.specs.Prelude.{IfSome}
use Rattle.std.proofs.lemmas.Option.{same_Some}
use Rattle.std.proofs.lemmas.Result.{IfOk-weaker}
use Rattle.bufr_fields.specs.declared.field.Field.{Field}
use Rattle.bufr_fields.specs.declared.field.Subset.{Subset}
use Rattle.bufr_data.specs.Chosen.{chosen}
use Rattle.bufr_report_keys.proofs.keys.slot_in.Goals as goal

-- the chosen fields of the report at an index
chosen_of : (fields : List Field) (list all : List ℕ) (o : Option Subset) (s : Subset)
    → IfSome o (λ t. fields ≡ chosen list t.fields) → o ≡ Some s → list ≡ all
    → fields ≡ chosen all s.fields
chosen_of fields list all (Some t) s told at same =
    told ∙ ap (λ (x : Subset). chosen list x.fields) (same_Some t s at)
    ∙ ap (λ xs. chosen xs s.fields) same
chosen_of fields list all None s told at same = absurd cc

pub returns-in-Some : goal.returns-in-Some
returns-in-Some c =
    IfOk-weaker c.slot_of_chosen.result _ _
    (λ found is s at. is s.fields
    (chosen_of c.in-Some.fields _ _ _ s c.in-Some.ensures at c.key_elements.ensures))
    c.slot_of_chosen.ensures

-- The slot of first values, for the functions of `keys` that note short numbers.
use Rattle.std.proofs.Common.{◌≡◌, ℕ, ◌==◌, true, List, [], Option, length, ap, ◌∙◌}
use Rattle.std.proofs.lemmas.Bool.{eqb-true}
use Rattle.std.proofs.lemmas.List.{nil_from_length}
use Rattle.bufr_fields.specs.declared.field.Field.{Field}
use Rattle.bufr_data.specs.Chosen.{chosen}
use Rattle.bufr_entries.specs.declared.key.Key.{Key}
use Rattle.bufr_entries.specs.Marks.{SlotView}
use Rattle.bufr_message.specs.declared.report.ReportHead.{ReportHead}
use Rattle.bufr_report_keys.specs.Asked.{elements}
use Rattle.bufr_report_keys.specs.Keys.{key}
use Rattle.bufr_report_keys.specs.declared.first_values.FirstValues.{FirstValues}
use Rattle.bufr_report_keys.specs.FirstValues.{all_noted, first_values, key_of}
use Rattle.bufr_report_keys.proofs.FirstFacts.{are_noted, chosen_noted, key_said}

abbrev pub slot : ℕ → Option Key → SlotView
slot update key = record { key = key; update = update }

-- the slot of values in which the chosen fields are noted
pub by_chosen : (head : ReportHead) (values before : FirstValues) (fields all : List Field)
    → values ≡ all_noted fields before → before ≡ first_values [] → fields ≡ chosen elements all
    → slot head.update (key_of head values) ≡ slot head.update (key head all)
by_chosen head values before fields all noted none same =
    ap (slot head.update)
    (ap (key_of head)
    (noted ∙ ap (all_noted fields) none ∙ ap (λ left. all_noted left (first_values [])) same
    ∙ chosen_noted all (first_values []) ∙ are_noted all)
    ∙ key_said all head)

-- no field is left to note
pub none_to_note : (fields : List Field) (values : FirstValues) → (length fields == 0) ≡ true
    → all_noted fields values ≡ values
unfolding all_noted
none_to_note fields values none =
    ap (λ left. all_noted left values) (nil_from_length fields (eqb-true (length fields) 0 none))

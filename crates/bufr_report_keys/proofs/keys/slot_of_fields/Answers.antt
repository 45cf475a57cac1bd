-- The first values make the key.
use Rattle.std.proofs.Common.{◌≡◌, ℕ, Option, ap, subst, ◌∙◌}
use Rattle.std.specs.Prelude.{IfOk}
use Rattle.bufr_entries.specs.declared.key.Key.{Key}
use Rattle.bufr_entries.specs.Marks.{SlotView}
use Rattle.bufr_report_keys.specs.FirstValues.{all_noted, key_of}
use Rattle.bufr_report_keys.proofs.FirstFacts.{are_noted, key_said}
use Rattle.bufr_report_keys.proofs.keys.slot_of_fields.Goals as goal

abbrev slot : ℕ → Option Key → SlotView
slot update key = record { key = key; update = update }

pub returns : goal.returns
returns c =
    let same =
    ap (key_of c.args.head.now)
    (c.in_ok-note_handed.ensures ∙ ap (all_noted c.args.fields) c.none-values.ensures
    ∙ are_noted c.args.fields)
    ∙ key_said c.args.fields c.args.head.now in
    subst (λ (k : Option Key). IfOk c.slot_of.result (λ s. s ≡ slot c.args.head.now.update k)) same
    c.slot_of.ensures

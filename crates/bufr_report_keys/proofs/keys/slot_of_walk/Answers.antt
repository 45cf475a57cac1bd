-- The fields of the report at an index.
use Rattle.std.proofs.Common.{◌≡◌, ℕ, Option, ap, sym, ◌∙◌}
use Rattle.std.proofs.lemmas.Option.{same_Some}
use Rattle.std.proofs.lemmas.Result.{IfOk-weaker}
use Rattle.bufr_fields.specs.declared.field.Subset.{Subset}
use Rattle.bufr_entries.specs.declared.key.Key.{Key}
use Rattle.bufr_entries.specs.Marks.{SlotView}
use Rattle.bufr_report_keys.specs.Keys.{key}
use Rattle.bufr_report_keys.proofs.keys.slot_of_walk.Goals as goal

abbrev slot : ℕ → Option Key → SlotView
slot update key = record { key = key; update = update }

pub returns : goal.returns
returns c =
    IfOk-weaker c.slot_of_fields.result _ _
    (λ found is s at. is
    ∙ ap (λ (t : Subset). slot c.args.head.now.update (key c.args.head.now t.fields))
    (same_Some _ _ (sym c.in_ok-fields.ensures ∙ at)))
    c.slot_of_fields.ensures

-- The field and the number at an index.
use Rattle.std.proofs.Common.{Some, ap, sym, ◌∙◌}
use Rattle.std.proofs.lemmas.Option.{slice_get-get_or}
use Rattle.bufr_fields.specs.Values.{as_field}
use Rattle.bufr_fields.specs.declared.field.NumberField.{NumberField}
use Rattle.bufr_select_rows.proofs.TurnFacts.{field_at}
use Rattle.bufr_select_rows.proofs.turn.number_at.Goals as goal

pub returns-in-Some-get : goal.returns-in-Some-get
returns-in-Some-get c =
    let a = c.args in
    let l = c.in-Some.ensures.lookup in
    let m = c.in-Some-get.ensures.lookup in
    field_at a.fields.now a.numbers.now a.index c.in-Some.field.now c.in-Some-get.number.now
    (slice_get-get_or a.fields.now a.index c.in-Some.field.now l.3.0 ∙ ap (λ x. Some x) (sym l.1))
    (slice_get-get_or a.numbers.now a.index c.in-Some-get.number.now m.3.0 ∙ ap (λ x. Some x) (sym m.1))
    ∙ ap (λ (x : NumberField). Some (as_field x)) (sym c.field_with.ensures)

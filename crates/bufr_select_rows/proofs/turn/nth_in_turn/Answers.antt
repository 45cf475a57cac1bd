-- The loop of `nth_in_turn`: one field more.
use Rattle.std.proofs.Common.{◌≤◌, ◌∙◌, false, length, rules, sym, true}
use Rattle.bufr_select_rows.proofs.SourceFacts.{is_zero, no_zero}
use Rattle.bufr_select_rows.proofs.TurnFacts.{turn_begun, turn_end, turn_here, turn_other}
use Rattle.bufr_select_rows.proofs.turn.nth_in_turn.Goals as goal

pub fields-init : goal.fields-init
fields-init c =
    turn_begun c.args.fields.now c.args.fxy c.args.number (no_zero c.args.number c.if-number-eq0.false)

pub fields-preserved-then-ne : goal.fields-preserved-then-ne
fields-preserved-then-ne c =
    let l = c.in-Some.ensures.lookup in
    sym (turn_other c.args.fields.now c.args.fxy c.fields.ahead c.fields.index c.in-Some.field.now
    l.3.0 l.1 (sym c.ne.ensures ∙ c.if-ne.true)) ∙ c.fields.invariant

pub returns-then-ahead-eq0 : goal.returns-then-ahead-eq0
returns-then-ahead-eq0 c =
    let l = c.in-Some.ensures.lookup in
    sym (turn_here c.args.fields.now c.args.fxy c.fields.ahead c.fields.index c.in-Some.field.now true
    l.3.0 l.1 (sym c.ne.ensures ∙ c.if-ne.false) (is_zero c.fields.ahead c.if-ahead-eq0.true))
    ∙ c.fields.invariant

pub fields-preserved : goal.fields-preserved
fields-preserved c =
    let l = c.in-Some.ensures.lookup in
    sym (turn_here c.args.fields.now c.args.fxy c.fields.ahead c.fields.index c.in-Some.field.now false
    l.3.0 l.1 (sym c.ne.ensures ∙ c.if-ne.false) (no_zero c.fields.ahead c.if-ahead-eq0.false))
    ∙ c.fields.invariant

pub returns : goal.returns
returns c =
    let past : length c.args.fields.now ≤ c.fields.index = search rules in
    sym (turn_end c.args.fields.now c.args.fxy c.fields.ahead c.fields.index past) ∙ c.fields.invariant

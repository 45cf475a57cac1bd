-- Turns were put, or none come next.
use Rattle.std.proofs.Common.{◌≡◌, ap, refl, subst, sym}
use Rattle.std.specs.Prelude.{IfNone, IfSome}
use Rattle.bufr_io.specs.PassingLaws.{passed}
use Rattle.bufr_select_rows.specs.Asks.{flagged}
use Rattle.bufr_select_rows.specs.Cells.{rows_left}
use Rattle.bufr_data.specs.Turns.{TakesTurns}
use Rattle.bufr_select_rows.specs.Turns.{PutsFront}
use Rattle.bufr_select_rows.proofs.TurnFacts.{columns_same, front_none, front_stopped, front_turns}
use Rattle.bufr_select_rows.proofs.TurnFacts.{turns_fewer}
use Rattle.bufr_select_rows.proofs.picker.put_turns.Goals as goal

-- no spans
pub returns-in_default-clause-puts : goal.returns-in_default-clause-puts
returns-in_default-clause-puts g c =
    front_none _ _ c.args.rows.now (g.W.Sink.writing c.args.writer.now) refl

-- putting the rows of turns stopped
pub returns-in_err-put_all_turns-in-Ok-Some-clause-puts :
    goal.returns-in_err-put_all_turns-in-Ok-Some-clause-puts
returns-in_err-put_all_turns-in-Ok-Some-clause-puts g c =
    let a = c.args in
    let d = c.in-Some.opener in
    let asks = flagged a.asked.now in
    let old = g.P.SubsetFields.left a.fields.now in
    let new = g.P.SubsetFields.left c.pick_turns.new.self in
    let w = g.W.Sink.writing a.writer.now in
    let w' = g.W.Sink.writing c.put_all_turns.new.writer in
    let later = rows_left a.each c.put_all_turns.new.cells a.in_span.now new in
    let e = c.in_err-put_all_turns-in-Ok-Some.field-0.0 in
    let taken = subst (λ found. IfSome found (λ turns. TakesTurns asks d old turns new))
    c.in-Ok-Some.field-0-is c.in-Ok-Some.ensures.taken in
    passed
    (PutsFront (rows_left a.each a.cells.now a.in_span.now old) later a.rows.now w
    c.put_all_turns.new.rows w')
    c.from_residual.result e c.from_residual.ensures.1
    (front_stopped asks a.each d a.cells.now a.in_span.now old new c.in-Ok-Some.turns later a.rows.now
    c.put_all_turns.new.rows w w' e c.in-Some.is c.requires.covers.0 taken
    (c.in_err-put_all_turns-in-Ok-Some.ensures.puts d taken.3))

-- the rows of turns were put
pub returns-in_ok-put_all_turns-in-Ok-Some-clause-puts :
    goal.returns-in_ok-put_all_turns-in-Ok-Some-clause-puts
returns-in_ok-put_all_turns-in-Ok-Some-clause-puts g c =
    let a = c.args in
    let d = c.in-Some.opener in
    let asks = flagged a.asked.now in
    let old = g.P.SubsetFields.left a.fields.now in
    let new = g.P.SubsetFields.left c.pick_turns.new.self in
    let e = c.in_ok-put_all_turns-in-Ok-Some.ensures in
    let taken = subst (λ found. IfSome found (λ turns. TakesTurns asks d old turns new))
    c.in-Ok-Some.field-0-is c.in-Ok-Some.ensures.taken in
    front_turns asks a.each d a.cells.now c.put_all_turns.new.cells a.in_span.now old new
    c.in-Ok-Some.turns a.rows.now c.put_all_turns.new.rows (g.W.Sink.writing a.writer.now)
    (g.W.Sink.writing c.put_all_turns.new.writer) c.in-Some.is c.requires.covers.0 taken e.opened
    (e.puts d taken.3)

pub returns-in_ok-put_all_turns-in-Ok-Some-clause-columns :
    goal.returns-in_ok-put_all_turns-in-Ok-Some-clause-columns
returns-in_ok-put_all_turns-in-Ok-Some-clause-columns g c =
    columns_same c.args.cells.now c.put_all_turns.new.cells
    c.in_ok-put_all_turns-in-Ok-Some.ensures.opened

-- fewer fields are left
pub returns-in_ok-put_all_turns-in-Ok-Some-clause-fewer :
    goal.returns-in_ok-put_all_turns-in-Ok-Some-clause-fewer
returns-in_ok-put_all_turns-in-Ok-Some-clause-fewer g c =
    let asks = flagged c.args.asked.now in
    let old = g.P.SubsetFields.left c.args.fields.now in
    let new = g.P.SubsetFields.left c.pick_turns.new.self in
    turns_fewer asks c.in-Some.opener old new c.in-Ok-Some.turns
    (subst (λ found. IfSome found (λ turns. TakesTurns asks c.in-Some.opener old turns new))
    c.in-Ok-Some.field-0-is c.in-Ok-Some.ensures.taken)

-- no turns come next
pub returns-in-Ok-None-clause-puts : goal.returns-in-Ok-None-clause-puts
returns-in-Ok-None-clause-puts g c =
    let a = c.args in
    let old = g.P.SubsetFields.left a.fields.now in
    let new = g.P.SubsetFields.left c.pick_turns.new.self in
    let same = subst (λ found. IfNone found (new ≡ old)) c.in-Ok-None.field-0-is
    c.in-Ok-None.ensures.others in
    front_none _ _ a.rows.now (g.W.Sink.writing a.writer.now)
    (ap (rows_left a.each a.cells.now a.in_span.now) (sym same))

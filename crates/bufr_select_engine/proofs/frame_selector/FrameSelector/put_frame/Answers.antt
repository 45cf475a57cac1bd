-- The clause `takes` of `put_frame`: the frame spells a message, or is refused, or memory ran out.
use Rattle.std.proofs.Common.{◌≡◌, ◌∙◌, ◌+◌, Ok, Err, Result, ap, refl, subst, sym}
use Rattle.bufr_base.specs.AnswerLaws.{told_fault}
use Rattle.bufr_message.specs.declared.Decoded.{Decoded}
use Rattle.bufr_io.specs.declared.fault.ToolFault.TheVariants as faults
use Rattle.bufr_io.specs.PassingLaws.{passed}
use Rattle.bufr_io.specs.Taking.{frame_at}
use Rattle.bufr_select_rows.specs.Pairs.{message_under}
use Rattle.bufr_select_engine.specs.Selected.{frame_rows}
use Rattle.bufr_select_engine.specs.Selectors.{IsReady, TakesFrame, selection_of}
use Rattle.bufr_select_engine.specs.Selects.{Writings}
use Rattle.bufr_select_rows.specs.declared.pairs.Unread.{Unread}
use Rattle.bufr_io.specs.HeldLaws.{stops_none}
use Rattle.bufr_select_engine.proofs.SelectorFacts.{shown_stops, takes_none, takes_refused, takes_shown}
use Rattle.bufr_select_engine.proofs.frame_selector.FrameSelector.put_frame.Goals as goal

-- the selector is ready for the rows of the message
pub put_view-requires-clause-ready : goal.put_view-requires-clause-ready
put_view-requires-clause-ready g c =
    record { cells = c.requires.ready.cells; covers = c.requires.ready.covers }

-- the rows of the message were put
pub returns-in_ok-put_view-in-Ok-clause-takes : goal.returns-in_ok-put_view-in-Ok-clause-takes
returns-in_ok-put_view-in-Ok-clause-takes g c =
    let p = c.args.self.now in
    let e = c.in_ok-put_view-in-Ok.ensures in
    let refusals = g.E.Sink.writing c.args.out.now.refusals in
    let is : message_under p.pairs.items c.args.octets.now ≡ Ok c.in-Ok.found =
    sym (ap (λ ps. message_under ps c.args.octets.now) c.deref_mut.ensures.value)
    ∙ c.in-Ok.ensures.exact in
    takes_shown p c.put_view.new.self (frame_at c.args.place c.args.octets.now)
    (record { rows = g.W.Sink.writing c.args.out.now.rows; refusals = refusals })
    (record { rows = g.W.Sink.writing c.put_view.new.writer; refusals = refusals })
    c.in-Ok.found c.in_ok-put_view-in-Ok.field-0 is e.puts refl e.unheard
    c.requires.heard e.works e.ready

-- putting them stopped
pub returns-in_err-put_view-in-Ok-clause-takes : goal.returns-in_err-put_view-in-Ok-clause-takes
returns-in_err-put_view-in-Ok-clause-takes g c =
    let p = c.args.self.now in
    let frame = frame_at c.args.place c.args.octets.now in
    let refusals = g.E.Sink.writing c.args.out.now.refusals in
    let w : Writings = record { rows = g.W.Sink.writing c.args.out.now.rows; refusals = refusals } in
    let w' : Writings = record { rows = g.W.Sink.writing c.put_view.new.writer; refusals = refusals } in
    let is : message_under p.pairs.items c.args.octets.now ≡ Ok c.in-Ok.found =
    sym (ap (λ ps. message_under ps c.args.octets.now) c.deref_mut.ensures.value)
    ∙ c.in-Ok.ensures.exact in
    passed (TakesFrame p frame w c.put_view.new.self w') c.from_residual.result
    c.in_err-put_view-in-Ok.field-0.0 c.from_residual.ensures.1
    (shown_stops p c.put_view.new.self frame w w' c.in-Ok.found c.in_err-put_view-in-Ok.field-0.0 is
    c.in_err-put_view-in-Ok.ensures.puts refl
    c.in_err-put_view-in-Ok.ensures.unheard)

-- the refusal was told
pub returns-in_ok-refuse-in-Err-Fault-clause-takes : goal.returns-in_ok-refuse-in-Err-Fault-clause-takes
returns-in_ok-refuse-in-Err-Fault-clause-takes g c =
    let p = c.args.self.now in
    let frame = frame_at c.args.place c.args.octets.now in
    let rows = g.W.Sink.writing c.args.out.now.rows in
    let found : Result Decoded Unread = message_under c.deref_mut.result.now c.args.octets.now in
    let is : message_under p.pairs.items c.args.octets.now ≡ Err c.in-Err-Fault.why =
    sym (ap (λ ps. message_under ps c.args.octets.now) c.deref_mut.ensures.value)
    ∙ told_fault c.in-Err-Fault.field-0 c.in-Err-Fault.why found c.in-Err-Fault.field-0-is
    c.in-Err-Fault.ensures.exact in
    let e = c.in_ok-refuse-in-Err-Fault.ensures in
    takes_refused p c.refuse.new.self frame
    (record { rows = rows; refusals = g.E.Sink.writing c.args.out.now.refusals })
    (record { rows = rows; refusals = g.E.Sink.writing c.refuse.new.writer }) c.in-Err-Fault.why is
    e.tells (ap (λ x. x.rows) e.same) refl c.requires.heard e.heard
    (subst IsReady (sym e.same)
    (record { cells = c.requires.ready.cells; covers = c.requires.ready.covers }))

-- there was no memory for it
pub returns-in_err-refuse-in-Err-Fault-clause-takes : goal.returns-in_err-refuse-in-Err-Fault-clause-takes
returns-in_err-refuse-in-Err-Fault-clause-takes g c =
    let p = c.args.self.now in
    let frame = frame_at c.args.place c.args.octets.now in
    let rows = g.W.Sink.writing c.args.out.now.rows in
    let w : Writings = record {
      rows = rows;
      refusals = g.E.Sink.writing c.args.out.now.refusals;
    } in
    let w' : Writings = record { rows = rows; refusals = g.E.Sink.writing c.refuse.new.writer } in
    let e = c.in_err-refuse-in-Err-Fault.ensures in
    passed (TakesFrame p frame w c.refuse.new.self w') c.from_residual-in_err-refuse-in-Err-Fault.result
    faults.OutOfMemory c.from_residual-in_err-refuse-in-Err-Fault.ensures.1
    (takes_none p c.refuse.new.self frame w w' c.requires.heard (ap (λ x. x.rows) e.same) refl e.err
    e.kept)

-- memory ran out before the frame was judged
pub returns-in-Err-OutOfMemory-clause-takes : goal.returns-in-Err-OutOfMemory-clause-takes
returns-in-Err-OutOfMemory-clause-takes g c =
    let p = c.args.self.now in
    let frame = frame_at c.args.place c.args.octets.now in (
      stops_none (frame_rows (selection_of p) p.input (p.frames + 1) frame) p.rows
          (g.W.Sink.writing c.args.out.now.rows) c.requires.heard.works,
      refl,
      refl,
    )

-- The clause `puts` of `put_ended`: no text, or a row.
use Rattle.std.proofs.Common.{sym, subst}
use Rattle.bufr_select_rows.specs.Cells.{ended}
use Rattle.bufr_io.specs.HeldTexts.{Puts, PutsOrStops}
use Rattle.bufr_io.specs.HeldLaws.{puts_none}
use Rattle.bufr_select_rows.proofs.picker.put_ended.Goals as goal

-- no span is open
pub returns-then-not-in_span-clause-puts : goal.returns-then-not-in_span-clause-puts
returns-then-not-in_span-clause-puts g c =
    let w = g.W.Sink.writing c.args.writer.now in
    subst (λ b. Puts (ended b c.args.cells.now) c.args.rows.now w c.args.rows.now w)
    (sym c.if-not-in_span.true) (puts_none c.args.rows.now w)

-- a span is open
pub returns-clause-puts : goal.returns-clause-puts
returns-clause-puts g c =
    let w = g.W.Sink.writing c.args.writer.now in
    subst
    (λ b. PutsOrStops (ended b c.args.cells.now) c.args.rows.now w c.put_row.new.rows
    (g.W.Sink.writing c.put_row.new.writer) c.put_row.result)
    (sym c.if-not-in_span.false) c.put_row.ensures.puts

-- The clause `tells` of `tell`: the line is written, or the writer fails, or it failed before.
use Rattle.std.proofs.Common.{true, false, sym, subst, arith}
use Rattle.bufr_select_engine.specs.Tells.{Tells}
use Rattle.bufr_select_engine.proofs.ToldFacts.{line_failed, line_taken, line_unheard}
use Rattle.bufr_select_engine.proofs.outputs.tell.Goals as goal

-- the writer failed before
pub returns-then-unheard-clause-tells : goal.returns-then-unheard-clause-tells
returns-then-unheard-clause-tells g c =
    let w = g.E.Sink.writing c.args.writer.now in
    subst (λ u. Tells c.args.line.now u w true w) (sym c.if-unheard.true)
    (line_unheard c.args.line.now w)

-- it takes the line
pub returns-in-Ok-clause-tells : goal.returns-in-Ok-clause-tells
returns-in-Ok-clause-tells g c =
    let w = g.E.Sink.writing c.args.writer.now in
    let w' = g.E.Sink.writing c.write_all.new.sink in
    subst (λ u. Tells c.args.line.now u w false w') (sym c.if-unheard.false)
    (line_taken c.args.line.now w w'
    (record { taken = c.in-Ok.ensures.ok; works = c.in-Ok.ensures.works }))

-- or it fails
pub returns-in-Err-clause-tells : goal.returns-in-Err-clause-tells
returns-in-Err-clause-tells g c =
    let w = g.E.Sink.writing c.args.writer.now in
    let w' = g.E.Sink.writing c.write_all.new.sink in
    subst (λ u. Tells c.args.line.now u w true w') (sym c.if-unheard.false)
    (line_failed c.args.line.now w w' c.in-Err.field-0.written
    (record {
      within = omega (arith, c.in-Err.ensures.written);
      taken = c.in-Err.ensures.front;
      failed = c.in-Err.ensures.failed;
    }))

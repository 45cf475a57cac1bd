-- The clauses of `run_select`: the rows of all inputs were written, and what was written is handed on.
use Rattle.std.proofs.Common.{Ok, Err, IfErr, map, refl, subst}
use Rattle.bufr_io.specs.declared.fault.ToolFault.TheVariants as faults
use Rattle.bufr_io.specs.PassingLaws.{passed}
use Rattle.bufr_select_engine.specs.Selected.{Selection}
use Rattle.bufr_select_engine.specs.Selectors.{selection_of}
use Rattle.bufr_select_engine.specs.Selects.{Selects, WritesFront, Writings}
use Rattle.bufr_select_engine.proofs.EngineFacts.{ends_unwritten, ends_written, writes_front}
use Rattle.bufr_select_engine.proofs.select.run_select.Goals as goal

-- the writer works at the end
pub hand_on-requires : goal.hand_on-requires
hand_on-requires g c = record { works = c.in_ok-tally.ensures.selects.2.heard.works }

-- all was written
pub returns-clause-selects : goal.returns-clause-selects
returns-clause-selects g c =
    let begin : Writings = record {
      rows = g.W.Sink.writing c.args.out.now.rows;
      refusals = g.E.Sink.writing c.args.out.now.refusals;
    } in
    let mid : Writings = record {
      rows = g.W.Sink.writing c.select_inputs.new.out.rows;
      refusals = g.E.Sink.writing c.select_inputs.new.out.refusals;
    } in
    let now : Writings = record {
      rows = g.W.Sink.writing c.hand_on.new.writer;
      refusals = g.E.Sink.writing c.select_inputs.new.out.refusals;
    } in
    let olds = map g.S.Source.reading c.args.inputs.now in
    let news = map g.S.Source.reading c.select_inputs.new.inputs in
    subst (λ (s : Selection). Selects s c.args.reads olds news begin now (Ok c.in_ok-tally.tally))
    c.in_ok-selector.ensures.selection
    (ends_written (selection_of c.in_ok-selector.selector) c.args.reads olds news begin mid now
    c.select_inputs.new.selector c.in_ok-tally.tally c.in_ok-hand_on.field-0
    c.in_ok-tally.ensures.selects c.in_ok-hand_on.ensures refl)

-- selecting ended early
pub returns-in_err-tally-clause-selects : goal.returns-in_err-tally-clause-selects
returns-in_err-tally-clause-selects g c =
    let begin : Writings = record {
      rows = g.W.Sink.writing c.args.out.now.rows;
      refusals = g.E.Sink.writing c.args.out.now.refusals;
    } in
    let mid : Writings = record {
      rows = g.W.Sink.writing c.select_inputs.new.out.rows;
      refusals = g.E.Sink.writing c.select_inputs.new.out.refusals;
    } in
    let olds = map g.S.Source.reading c.args.inputs.now in
    let news = map g.S.Source.reading c.select_inputs.new.inputs in
    let s : Selection = record {
      pairs = c.args.pairs.items;
      columns = c.args.columns.now;
      each = c.args.each;
    } in
    passed (Selects s c.args.reads olds news begin mid) c.from_residual-in_err-tally.result
    c.in_err-tally.field-0.0 c.from_residual-in_err-tally.ensures.1
    (subst
    (λ (t : Selection). Selects t c.args.reads olds news begin mid (Err c.in_err-tally.field-0.0))
    c.in_ok-selector.ensures.selection c.in_err-tally.ensures.selects)

-- the writer fails at the end
pub returns-in_err-hand_on-clause-selects : goal.returns-in_err-hand_on-clause-selects
returns-in_err-hand_on-clause-selects g c =
    let begin : Writings = record {
      rows = g.W.Sink.writing c.args.out.now.rows;
      refusals = g.E.Sink.writing c.args.out.now.refusals;
    } in
    let mid : Writings = record {
      rows = g.W.Sink.writing c.select_inputs.new.out.rows;
      refusals = g.E.Sink.writing c.select_inputs.new.out.refusals;
    } in
    let now : Writings = record {
      rows = g.W.Sink.writing c.hand_on.new.writer;
      refusals = g.E.Sink.writing c.select_inputs.new.out.refusals;
    } in
    let olds = map g.S.Source.reading c.args.inputs.now in
    let news = map g.S.Source.reading c.select_inputs.new.inputs in
    let e = c.in_err-hand_on.field-0.0 in
    let s : Selection = record {
      pairs = c.args.pairs.items;
      columns = c.args.columns.now;
      each = c.args.each;
    } in
    passed (Selects s c.args.reads olds news begin now) c.from_residual-in_err-hand_on.result e
    c.from_residual-in_err-hand_on.ensures.1
    (subst (λ (t : Selection). Selects t c.args.reads olds news begin now (Err e))
    c.in_ok-selector.ensures.selection
    (ends_unwritten (selection_of c.in_ok-selector.selector) c.args.reads olds news begin mid now
    c.select_inputs.new.selector c.in_ok-tally.tally e c.in_ok-tally.ensures.selects
    c.in_err-hand_on.ensures refl))

-- there was no memory to read into
pub returns-in_err-buffer-clause-front : goal.returns-in_err-buffer-clause-front
returns-in_err-buffer-clause-front g c =
    let w = g.W.Sink.writing c.args.out.now.rows in
    let s : Selection = record {
      pairs = c.args.pairs.items;
      columns = c.args.columns.now;
      each = c.args.each;
    } in
    passed (λ r. IfErr r (WritesFront s (map g.S.Source.reading c.args.inputs.now) w w))
    c.from_residual.result faults.OutOfMemory c.from_residual.ensures.1 tt

-- nor for a selector
pub returns-in_err-selector-clause-front : goal.returns-in_err-selector-clause-front
returns-in_err-selector-clause-front g c =
    let w = g.W.Sink.writing c.args.out.now.rows in
    let s : Selection = record {
      pairs = c.args.pairs.items;
      columns = c.args.columns.now;
      each = c.args.each;
    } in
    passed (λ r. IfErr r (WritesFront s (map g.S.Source.reading c.args.inputs.now) w w))
    c.from_residual-in_err-selector.result faults.OutOfMemory
    c.from_residual-in_err-selector.ensures.1 tt

-- selecting ended early: what was written is a front of all
pub returns-in_err-tally-clause-front : goal.returns-in_err-tally-clause-front
returns-in_err-tally-clause-front g c =
    let begin : Writings = record {
      rows = g.W.Sink.writing c.args.out.now.rows;
      refusals = g.E.Sink.writing c.args.out.now.refusals;
    } in
    let mid : Writings = record {
      rows = g.W.Sink.writing c.select_inputs.new.out.rows;
      refusals = g.E.Sink.writing c.select_inputs.new.out.refusals;
    } in
    let olds = map g.S.Source.reading c.args.inputs.now in
    let s : Selection = record {
      pairs = c.args.pairs.items;
      columns = c.args.columns.now;
      each = c.args.each;
    } in
    passed (λ r. IfErr r (WritesFront s olds begin.rows mid.rows))
    c.from_residual-in_err-tally.result c.in_err-tally.field-0.0
    c.from_residual-in_err-tally.ensures.1
    (subst (λ (t : Selection). WritesFront t olds begin.rows mid.rows c.in_err-tally.field-0.0)
    c.in_ok-selector.ensures.selection
    (writes_front (selection_of c.in_ok-selector.selector) c.args.reads olds
    (map g.S.Source.reading c.select_inputs.new.inputs) begin mid c.in_err-tally.field-0.0
    c.in_err-tally.ensures.selects))

-- so it is if the writer fails at the end
pub returns-in_err-hand_on-clause-front : goal.returns-in_err-hand_on-clause-front
returns-in_err-hand_on-clause-front g c =
    let begin : Writings = record {
      rows = g.W.Sink.writing c.args.out.now.rows;
      refusals = g.E.Sink.writing c.args.out.now.refusals;
    } in
    let mid : Writings = record {
      rows = g.W.Sink.writing c.select_inputs.new.out.rows;
      refusals = g.E.Sink.writing c.select_inputs.new.out.refusals;
    } in
    let now : Writings = record {
      rows = g.W.Sink.writing c.hand_on.new.writer;
      refusals = g.E.Sink.writing c.select_inputs.new.out.refusals;
    } in
    let olds = map g.S.Source.reading c.args.inputs.now in
    let news = map g.S.Source.reading c.select_inputs.new.inputs in
    let e = c.in_err-hand_on.field-0.0 in
    let s : Selection = record {
      pairs = c.args.pairs.items;
      columns = c.args.columns.now;
      each = c.args.each;
    } in
    passed (λ r. IfErr r (WritesFront s olds begin.rows now.rows))
    c.from_residual-in_err-hand_on.result e c.from_residual-in_err-hand_on.ensures.1
    (subst (λ (t : Selection). WritesFront t olds begin.rows now.rows e)
    c.in_ok-selector.ensures.selection
    (writes_front (selection_of c.in_ok-selector.selector) c.args.reads olds news begin now e
    (ends_unwritten (selection_of c.in_ok-selector.selector) c.args.reads olds news begin mid now
    c.select_inputs.new.selector c.in_ok-tally.tally e c.in_ok-tally.ensures.selects
    c.in_err-hand_on.ensures refl)))

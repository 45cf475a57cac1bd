-- The clauses of `run_ls`: all inputs were listed, and what was written is handed on.
use Rattle.std.proofs.Common.{List, Ok, Err, IfErr, map, subst}
use Rattle.bufr_io.specs.declared.fault.ToolFault.TheVariants as faults
use Rattle.bufr_ls_engine.specs.Lists.{Lists, WritesFront}
use Rattle.bufr_ls_engine.specs.declared.column.Column.{Column}
use Rattle.bufr_io.specs.PassingLaws.{passed}
use Rattle.bufr_ls_engine.proofs.EngineFacts.{ends_unwritten, ends_written}
use Rattle.bufr_ls_engine.proofs.FrontFacts.{writes_front}
use Rattle.bufr_ls_engine.proofs.ls.run_ls.Goals as goal

-- all lines were written
pub returns-clause-lists : goal.returns-clause-lists
returns-clause-lists g c =
    subst (λ (cs : List Column). Lists cs c.args.reads (map g.S.Source.reading c.args.inputs.now)
    (map g.S.Source.reading c.list_inputs.new.inputs) (g.W.Sink.writing c.args.writer.now)
    (g.W.Sink.writing c.hand_on.new.writer) (Ok c.in_ok-tally.tally))
    c.new-lister.ensures.columns
    (ends_written c.new-lister.result.columns.now c.args.reads
    (map g.S.Source.reading c.args.inputs.now)
    (map g.S.Source.reading c.list_inputs.new.inputs) (g.W.Sink.writing c.args.writer.now)
    (g.W.Sink.writing c.list_inputs.new.writer) (g.W.Sink.writing c.hand_on.new.writer)
    c.list_inputs.new.lister c.in_ok-tally.tally c.in_ok-tally.ensures.lists
    c.in_ok-hand_on.ensures)

-- the writer fails at the end
pub returns-in_err-hand_on-clause-lists : goal.returns-in_err-hand_on-clause-lists
returns-in_err-hand_on-clause-lists g c =
    passed
    (Lists c.args.columns.now c.args.reads (map g.S.Source.reading c.args.inputs.now)
    (map g.S.Source.reading c.list_inputs.new.inputs) (g.W.Sink.writing c.args.writer.now)
    (g.W.Sink.writing c.hand_on.new.writer))
    c.from_residual-in_err-hand_on.result c.in_err-hand_on.field-0.0
    c.from_residual-in_err-hand_on.ensures.1
    (subst (λ (cs : List Column). Lists cs c.args.reads (map g.S.Source.reading c.args.inputs.now)
    (map g.S.Source.reading c.list_inputs.new.inputs) (g.W.Sink.writing c.args.writer.now)
    (g.W.Sink.writing c.hand_on.new.writer) (Err c.in_err-hand_on.field-0.0))
    c.new-lister.ensures.columns
    (ends_unwritten c.new-lister.result.columns.now c.args.reads
    (map g.S.Source.reading c.args.inputs.now)
    (map g.S.Source.reading c.list_inputs.new.inputs) (g.W.Sink.writing c.args.writer.now)
    (g.W.Sink.writing c.list_inputs.new.writer) (g.W.Sink.writing c.hand_on.new.writer)
    c.list_inputs.new.lister c.in_ok-tally.tally c.in_err-hand_on.field-0.0
    c.in_ok-tally.ensures.lists c.in_err-hand_on.ensures))

-- there was no memory to read into
pub returns-in_err-buffer-clause-front : goal.returns-in_err-buffer-clause-front
returns-in_err-buffer-clause-front g c =
    passed
    (λ r. IfErr r (WritesFront c.args.columns.now (map g.S.Source.reading c.args.inputs.now)
    (g.W.Sink.writing c.args.writer.now) (g.W.Sink.writing c.args.writer.now)))
    c.from_residual.result faults.OutOfMemory c.from_residual.ensures.1 tt

-- listing ended early: what was written is a front of all
pub returns-in_err-tally-clause-front : goal.returns-in_err-tally-clause-front
returns-in_err-tally-clause-front g c =
    passed
    (λ r. IfErr r (WritesFront c.args.columns.now (map g.S.Source.reading c.args.inputs.now)
    (g.W.Sink.writing c.args.writer.now) (g.W.Sink.writing c.list_inputs.new.writer)))
    c.from_residual-in_err-tally.result c.in_err-tally.field-0.0
    c.from_residual-in_err-tally.ensures.1
    (subst (λ (cs : List Column). WritesFront cs (map g.S.Source.reading c.args.inputs.now)
    (g.W.Sink.writing c.args.writer.now) (g.W.Sink.writing c.list_inputs.new.writer)
    c.in_err-tally.field-0.0)
    c.new-lister.ensures.columns
    (writes_front c.new-lister.result.columns.now c.args.reads
    (map g.S.Source.reading c.args.inputs.now) (map g.S.Source.reading c.list_inputs.new.inputs)
    (g.W.Sink.writing c.args.writer.now) (g.W.Sink.writing c.list_inputs.new.writer)
    c.in_err-tally.field-0.0 c.in_err-tally.ensures.lists))

-- so it is if the writer fails at the end
pub returns-in_err-hand_on-clause-front : goal.returns-in_err-hand_on-clause-front
returns-in_err-hand_on-clause-front g c =
    passed
    (λ r. IfErr r (WritesFront c.args.columns.now (map g.S.Source.reading c.args.inputs.now)
    (g.W.Sink.writing c.args.writer.now) (g.W.Sink.writing c.hand_on.new.writer)))
    c.from_residual-in_err-hand_on.result c.in_err-hand_on.field-0.0
    c.from_residual-in_err-hand_on.ensures.1
    (subst (λ (cs : List Column). WritesFront cs (map g.S.Source.reading c.args.inputs.now)
    (g.W.Sink.writing c.args.writer.now) (g.W.Sink.writing c.hand_on.new.writer)
    c.in_err-hand_on.field-0.0)
    c.new-lister.ensures.columns
    (writes_front c.new-lister.result.columns.now c.args.reads
    (map g.S.Source.reading c.args.inputs.now) (map g.S.Source.reading c.list_inputs.new.inputs)
    (g.W.Sink.writing c.args.writer.now) (g.W.Sink.writing c.hand_on.new.writer)
    c.in_err-hand_on.field-0.0
    (ends_unwritten c.new-lister.result.columns.now c.args.reads
    (map g.S.Source.reading c.args.inputs.now)
    (map g.S.Source.reading c.list_inputs.new.inputs) (g.W.Sink.writing c.args.writer.now)
    (g.W.Sink.writing c.list_inputs.new.writer) (g.W.Sink.writing c.hand_on.new.writer)
    c.list_inputs.new.lister c.in_ok-tally.tally c.in_err-hand_on.field-0.0
    c.in_ok-tally.ensures.lists c.in_err-hand_on.ensures)))

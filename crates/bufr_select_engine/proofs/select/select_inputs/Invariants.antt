-- The loop of `select_inputs`: the inputs that were read out, and what was written of them.
use Rattle.std.proofs.Common.{map}
use Rattle.bufr_select_engine.specs.Selectors.{selection_of}
use Rattle.bufr_select_engine.proofs.EngineFacts.{SelectedThrough}
use Rattle.bufr_select_engine.proofs.select.select_inputs.Given as goal

-- the rows and the refusals of the inputs so far were written
abbrev pub invariant-loop-index : goal.invariant-loop-index
invariant-loop-index g l =
    SelectedThrough (selection_of l.fn.selector) l.reads (map g.S.Source.reading l.initial.inputs)
    (map g.S.Source.reading l.inputs)
    (record { rows = g.W.Sink.writing l.fn.out.rows; refusals = g.E.Sink.writing l.fn.out.refusals })
    (record { rows = g.W.Sink.writing l.out.rows; refusals = g.E.Sink.writing l.out.refusals })
    l.selector l.tally l.index

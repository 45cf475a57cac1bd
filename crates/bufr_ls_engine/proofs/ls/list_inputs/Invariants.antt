-- The loop of `list_inputs`: the inputs that were read out, and what was written of them.
use Rattle.std.proofs.Common.{map}
use Rattle.bufr_ls_engine.proofs.EngineFacts.{ListedThrough}
use Rattle.bufr_ls_engine.proofs.ls.list_inputs.Given as goal

-- the rows of the inputs so far were written
abbrev pub invariant-loop-index : goal.invariant-loop-index
invariant-loop-index g l =
    ListedThrough l.fn.lister.columns.now l.reads (map g.S.Source.reading l.initial.inputs)
    (map g.S.Source.reading l.inputs) (g.W.Sink.writing l.fn.writer) (g.W.Sink.writing l.writer)
    l.lister l.tally l.index

-- The clause `lists` of `list_input`: the input was taken in to its end, or that ended early.
use Rattle.std.proofs.Common.{◌≤◌, ◌^◌, length, arith}
use Rattle.bufr_ls_engine.specs.Listers.{ListsInput}
use Rattle.bufr_io.specs.PassingLaws.{passed}
use Rattle.bufr_ls_engine.proofs.InputFacts.{input_early, input_whole}
use Rattle.bufr_ls_engine.proofs.frames.list_input.Goals as goal

-- the input was not taken in to its end
pub returns-in_err-take_stream-clause-lists : goal.returns-in_err-take_stream-clause-lists
returns-in_err-take_stream-clause-lists g c =
    passed
    (ListsInput c.args.reads c.args.lister.now c.take_stream.new.taker
    (g.S.Source.reading c.args.reader.now) (g.S.Source.reading c.take_stream.new.reader)
    (g.W.Sink.writing c.args.writer.now) (g.W.Sink.writing c.take_stream.new.out))
    c.from_residual.result c.in_err-take_stream.field-0.0 c.from_residual.ensures.1
    (input_early c.args.reads (g.S.Source.reading c.args.reader.now)
    (g.S.Source.reading c.take_stream.new.reader) c.args.lister.now c.take_stream.new.taker
    (g.W.Sink.writing c.args.writer.now) (g.W.Sink.writing c.take_stream.new.out)
    c.in_err-take_stream.field-0.0 c.in_err-take_stream.ensures.takes)

-- it was, and then what is held is written
pub returns-clause-lists : goal.returns-clause-lists
returns-clause-lists g c =
    let t = c.in_ok-take_stream.ensures.takes in
    let few : length t.1 ≤ 2 ^ 48 = omega (arith, t.6, c.requires.few) in
    input_whole c.args.reads (g.S.Source.reading c.args.reader.now)
    (g.S.Source.reading c.take_stream.new.reader) c.args.lister.now c.take_stream.new.taker
    c.write.new.self (g.W.Sink.writing c.args.writer.now)
    (g.W.Sink.writing c.take_stream.new.out) (g.W.Sink.writing c.write.new.writer) t.1
    c.write.result t.0 t.2 t.3 t.4 few c.write.ensures.writes

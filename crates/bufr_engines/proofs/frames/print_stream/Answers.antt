-- The printer takes in the stream to its end, or ends early.
use Rattle.std.proofs.Common.{Err, arith}
use Rattle.bufr_io.specs.declared.fault.ToolFault.TheVariants as faults
use Rattle.bufr_engines.specs.StreamEngines.{Prints}
use Rattle.bufr_io.specs.PassingLaws.{passed}
use Rattle.bufr_engines.proofs.StreamFacts.{since_none}
use Rattle.bufr_engines.proofs.EngineFacts.{prints_early, prints_made, prints_nothing, prints_whole}
use Rattle.bufr_engines.proofs.frames.print_stream.Goals as goal

pub returns-in_err-buffer-clause-prints : goal.returns-in_err-buffer-clause-prints
returns-in_err-buffer-clause-prints g c =
    passed
    (Prints c.args.printing c.args.tables.now c.args.reads
    (g.S.Source.reading c.args.reader.now) (g.S.Source.reading c.args.reader.now)
    (g.W.Sink.writing c.args.writer.now) (g.W.Sink.writing c.args.writer.now))
    c.from_residual.result faults.OutOfMemory c.from_residual.ensures.1
    (prints_nothing _ _ c.args.reads _ _ c.requires.fresh c.requires.works)

pub take_stream-requires-clause-none_taken : goal.take_stream-requires-clause-none_taken
take_stream-requires-clause-none_taken g c =
    let e = c.new-printer.ensures in since_none _ _ e.frames e.refused e.octets e.written e.held c.requires.works

pub take_stream-requires-clause-none_held : goal.take_stream-requires-clause-none_held
take_stream-requires-clause-none_held g c = c.new-printer.ensures.held

pub returns-in_err-fed-clause-prints : goal.returns-in_err-fed-clause-prints
returns-in_err-fed-clause-prints g c =
    let e = c.new-printer.ensures in
    passed
    (Prints c.args.printing c.args.tables.now c.args.reads
    (g.S.Source.reading c.args.reader.now) (g.S.Source.reading c.take_stream.new.reader)
    (g.W.Sink.writing c.args.writer.now) (g.W.Sink.writing c.take_stream.new.out))
    c.from_residual-in_err-fed.result c.in_err-fed.field-0.0
    c.from_residual-in_err-fed.ensures.1
    (prints_made c.args.printing c.args.tables.now c.args.reads
    (g.S.Source.reading c.args.reader.now) (g.S.Source.reading c.take_stream.new.reader)
    (g.W.Sink.writing c.args.writer.now) (g.W.Sink.writing c.take_stream.new.out)
    c.new-printer.result (Err c.in_err-fed.field-0.0) e.printing e.tables
    (prints_early c.args.reads (g.S.Source.reading c.args.reader.now)
    (g.S.Source.reading c.take_stream.new.reader) c.new-printer.result
    (g.W.Sink.writing c.args.writer.now) c.take_stream.new.taker
    (g.W.Sink.writing c.take_stream.new.out) c.in_err-fed.field-0.0 c.in_err-fed.ensures.takes))

pub print_tally-requires-clause-long : goal.print_tally-requires-clause-long
print_tally-requires-clause-long g c =
    let t = c.in_ok-fed.ensures.takes in omega (arith, t.5, t.6, c.requires.few)

pub print_tally-requires-clause-ended : goal.print_tally-requires-clause-ended
print_tally-requires-clause-ended g c =
    let t = c.in_ok-fed.ensures.takes in (
      c.new-printer.result.printing,
      c.new-printer.result.message_reader,
      g.W.Sink.writing c.args.writer.now,
      t.1,
      record { printed = t.4.printed; long = t.5 },
    )

pub returns-clause-prints : goal.returns-clause-prints
returns-clause-prints g c =
    let e = c.new-printer.ensures in
    let t = c.in_ok-fed.ensures.takes in
    let p = c.new-printer.result in
    prints_made c.args.printing c.args.tables.now c.args.reads
    (g.S.Source.reading c.args.reader.now) (g.S.Source.reading c.take_stream.new.reader)
    (g.W.Sink.writing c.args.writer.now) (g.W.Sink.writing c.print_tally.new.writer) p
    c.print_tally.result e.printing e.tables
    (prints_whole p.printing p.message_reader c.args.reads (g.S.Source.reading c.args.reader.now)
    (g.S.Source.reading c.take_stream.new.reader) (g.W.Sink.writing c.args.writer.now) _ t.1
    c.print_tally.result t.0 t.2 t.3
    (c.print_tally.ensures p.printing p.message_reader (g.W.Sink.writing c.args.writer.now) t.1
    (record { printed = t.4.printed; long = t.5 })))

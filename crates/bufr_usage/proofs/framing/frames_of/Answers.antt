-- A framer that gets the stream as one piece.
use Rattle.std.proofs.Common.{[], length}
use Rattle.bufr_frame.specs.Streams.{sure}
use Rattle.bufr_usage.proofs.framing.frames_of.Goals as goal

pub returns-clause-sure : goal.returns-clause-sure
returns-clause-sure c = c.in_ok-sure.ensures.found [] 0 c.new-framer.ensures.starts

pub returns-clause-last : goal.returns-clause-last
returns-clause-last c =
    let stands = c.in_ok-sure.ensures.next [] 0 c.new-framer.ensures.starts in
    c.in_ok-last.ensures.found c.args.stream.now (length (sure c.args.stream.now)) stands

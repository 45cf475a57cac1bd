use Rattle.std.proofs.Common.{◌-◌}
use Rattle.bufr_data.proofs.PlainFacts.Copied.{IsPutSoFar}
use Rattle.bufr_data.proofs.plain.copy.copy_fields.Given as goal

-- the bits up to the reader's place are put
abbrev pub invariant-loop-reader : goal.invariant-loop-reader
invariant-loop-reader l =
    IsPutSoFar l.fn.octets l.fn.from l.fn.end l.fn.sink l.reader l.sink

-- each turn leaves fewer bits
abbrev pub decreases-loop-reader : goal.decreases-loop-reader
decreases-loop-reader l = l.fn.end - l.reader.place

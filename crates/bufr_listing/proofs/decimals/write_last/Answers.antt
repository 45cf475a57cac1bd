-- The clauses of `write_last`: one digit more.
use Rattle.std.proofs.Common.{arith}
use Rattle.bufr_listing.proofs.DecimalFacts.{digit_passed, digit_written}
use Rattle.bufr_listing.proofs.decimals.write_last.Goals as goal

pub loop-count-preserved : goal.loop-count-preserved
loop-count-preserved c = record {
  written = digit_written c.loop-count.room _ c.args.end c.loop-count.count c.args.size
      c.loop-count.left (omega arith) (omega arith) c.loop-count.invariant.rest
      c.loop-count.invariant.written;
  rest = digit_passed c.args.size c.loop-count.left c.loop-count.count
      c.loop-count.invariant.rest;
}

use Rattle.std.proofs.Common.{◌≡◌, ◌<◌, false, length}
use Rattle.bufr_bits_tests.proofs.tests.devices.all_of.Given as goal

-- each round reads once
abbrev pub invariant-loop : goal.invariant-loop
invariant-loop g l =
    record {
      works : (g.S.Source.reading l.source).failed ≡ false;
      reads : (g.S.Source.reading l.source).reads ≡ l.counter;
      some : 0 < length l.room;
    }

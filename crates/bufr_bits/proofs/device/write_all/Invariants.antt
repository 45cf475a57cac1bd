use Rattle.std.proofs.Common.{◌≡◌, ◌≤◌, ◌-◌, false, length, take}
use Rattle.bufr_bits.specs.Devices.{Writes}
use Rattle.bufr_bits.proofs.device.write_all.Given as goal

-- the sink took the first `written` octets and has not failed
abbrev pub invariant-loop-written : goal.invariant-loop-written
invariant-loop-written g l =
    record {
      inside : l.written ≤ length l.text;
      front : Writes (g.W.Sink.writing l.initial.sink) (g.W.Sink.writing l.sink)
          (take l.written l.text);
      works : (g.W.Sink.writing l.sink).failed ≡ false;
    }

-- the number of octets not yet written
abbrev pub decreases-loop-written : goal.decreases-loop-written
decreases-loop-written g l = length l.text - l.written

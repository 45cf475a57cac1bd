use Rattle.std.proofs.Common.{◌≡◌, ◌+◌, ◌-◌, ◌*◌, ◌++◌, false, take, drop, replicate}
use Rattle.bufr_bits.specs.Bits.{bits}
use Rattle.bufr_bits.proofs.append.move_up.Given as goal

-- octets up to `from + i` are shifted up with zero bits last; the others are unchanged
abbrev pub invariant-loop-i : goal.invariant-loop-i
invariant-loop-i l =
    let initial = l.initial.octets in
    record {
      rest : drop (l.i + 1) l.octets ≡ drop (l.i + 1) initial;
      moved : bits (take (l.i + 1) l.octets)
          ≡
          (take (8 * (l.from + 1) - l.free) (bits initial)
          ++ bits (take (l.i - l.from) (drop (l.from + 1) initial))) ++ replicate l.free false;
    }

use Rattle.std.proofs.Common.{◌≡◌, ◌+◌, length}
use Rattle.bufr_data.specs.Plain.NumberTurns.{AreNumbers, NoneIs, widths}
use Rattle.bufr_data.proofs.plain.number_turns.other_bits.Given as goal

-- all fields are such if those left are
abbrev pub invariant-loop-field : goal.invariant-loop-field
invariant-loop-field l = record {
  none : NoneIs l.opener l.left → NoneIs l.opener l.fn.fields;
  numbers : AreNumbers l.left → AreNumbers l.fn.fields;
  bits : widths l.fn.fields ≡ l.bits + widths l.left;
}

-- each turn leaves one field fewer
abbrev pub decreases-loop-field : goal.decreases-loop-field
decreases-loop-field l = length l.left

use Rattle.bufr_data.proofs.PlainFacts.NumberTurns.{ReadTo}
use Rattle.bufr_data.proofs.plain.number_turns.read_numbers.Given as goal

-- the numbers of the fields before `i` are read
abbrev pub invariant-loop-i : goal.invariant-loop-i
invariant-loop-i l = ReadTo l.fields l.fn.reader l.i l.numbers l.reader

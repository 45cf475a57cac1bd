use Rattle.std.specs.List.Sorted.{IsPermutation}
use Rattle.bufr_entries.proofs.tickets.follow.Given as goal

abbrev pub invariant-loop : goal.invariant-loop
invariant-loop l = IsPermutation l.fn.entries l.entries

use Rattle.std.proofs.Common.{sym, subst}
use Rattle.std.proofs.lemmas.List.Sorted.{IsPermutation-trans}
use Rattle.std.specs.List.Sorted.{IsPermutation}
use Rattle.bufr_entries.proofs.tickets.follow.Goals as goal
use Rattle.bufr_entries.proofs.tickets.follow.Goals.{then-from-start, else-from-start+then-place-entries+then-from-entries}

pub loop-preserved : goal.loop-preserved
loop-preserved c = elim c.if-from-start.branch [
  | then-from-start w ↦
      subst (IsPermutation c.args.entries.now) (sym w.entries-is) c.loop.invariant
  | else-from-start+then-place-entries+then-from-entries w ↦
      subst (IsPermutation c.args.entries.now) (sym w.entries-is)
      (IsPermutation-trans c.args.entries.now c.loop.entries w.swap.new.self c.loop.invariant
      w.swap.ensures.permutation)
]

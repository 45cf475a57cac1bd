use Rattle.std.proofs.Common.{◌≡◌, replicate}
use Rattle.bufr_archive.proofs.JoinFacts.{new_holding}
use Rattle.bufr_archive.proofs.depot.Depot.new.Given as goal

-- one new archive and framer for each round
abbrev pub invariant-loop : goal.invariant-loop
invariant-loop g l = l.held.items ≡ replicate l.counter (new_holding l.fn.tables)

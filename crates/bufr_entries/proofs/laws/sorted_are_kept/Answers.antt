-- By `kept-sorted`, `kept-coarsely` and `coarsely-kept-are`.
use Rattle.bufr_entries.specs.Orders.{kept-sorted, kept-coarsely, coarsely-kept-are}
use Rattle.bufr_entries.proofs.laws.sorted_are_kept.Goals as goal

pub returns : goal.returns
returns c = record { sorted = kept-sorted; from_before = kept-coarsely; before = coarsely-kept-are }

-- By `exact_entries`, and since both orders are total.
use Rattle.bufr_entries.specs.Orders.{exact_entries, slots_total, ranks_total}
use Rattle.bufr_entries.proofs.laws.entries_never_tie.Goals as goal

pub returns : goal.returns
returns c = record { ties = exact_entries; orders = (slots_total, ranks_total) }

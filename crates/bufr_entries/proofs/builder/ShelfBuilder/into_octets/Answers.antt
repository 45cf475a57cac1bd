-- Nothing waits, so the pages have all entries.
use Rattle.std.proofs.Common.{map, ap}
use Rattle.bufr_entries.specs.Pages.{flat}
use Rattle.bufr_entries.proofs.PageLemmas.{settled-kept}
use Rattle.bufr_entries.proofs.builder.ShelfBuilder.into_octets.Goals as goal

pub returns : goal.returns
returns c =
    let inside = c.self.inside in
    let done = c.in_ok-settle.ensures.done in
    ap (map (λ e. e.bytes)) (settled-kept (flat c.settle.new.settled.items) c.settle.new.left
    c.settle.new.waiting (flat inside.settled.items) inside.left inside.waiting _
    c.settle.ensures.sorted done.0 done.1 c.settle.ensures.all c.self.view_is)

use Rattle.std.proofs.Common.{◌∙◌, ◌++◌, sym, ap}
use Rattle.bufr_entries.specs.Entries.{kept}
use Rattle.bufr_entries.specs.Orders.{kept-kept}
use Rattle.bufr_entries.specs.Pages.{flat}
use Rattle.bufr_entries.proofs.builder.ShelfBuilder.into_left.Goals as goal

pub returns : goal.returns
returns c =
    let inside = c.self.inside in
    c.in_ok-take_all.ensures
    ∙ sym (kept-kept (flat inside.settled.items ++ (inside.left ++ inside.waiting)))
    ∙ ap kept c.self.view_is

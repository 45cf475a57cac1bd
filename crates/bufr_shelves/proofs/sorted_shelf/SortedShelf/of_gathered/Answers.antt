use Rattle.std.proofs.Common.{◌∙◌, ◌++◌, ap}
use Rattle.bufr_entries.specs.Entries.{kept}
use Rattle.bufr_entries.specs.Orders.{kept-kept}
use Rattle.bufr_shelves.proofs.sorted_shelf.SortedShelf.of_gathered.Goals as goal

pub returns : goal.returns
returns c =
    c.in_ok-put_all.ensures ∙ ap (λ es. kept (es ++ c.in_ok-left.left)) c.new-shelf.ensures
    ∙ ap kept c.in_ok-left.ensures ∙ kept-kept c.args.builder

use Rattle.std.proofs.Common.{◌∙◌, ◌++◌, ◌∷◌, [], ap}
use Rattle.bufr_entries.specs.Entries.{kept}
use Rattle.bufr_shelves.proofs.sorted_shelf.gathered.put_copy.Goals as goal

pub returns : goal.returns
returns c =
    c.in_ok-put.ensures.ok
    ∙ ap (λ e. kept (kept c.args.shelf.now ++ e ∷ [])) c.in_ok-key.ensures

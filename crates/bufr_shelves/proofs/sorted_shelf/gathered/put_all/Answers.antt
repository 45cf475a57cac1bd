use Rattle.std.proofs.Common.{◌≡◌, ◌∙◌, None, refl, sym, ap}
use Rattle.std.specs.Option.{option_map}
use Rattle.bufr_entries.specs.Entries.{kept}
use Rattle.bufr_entries.specs.Keeping.{first_of}
use Rattle.bufr_entries.specs.Pages.{seen}
use Rattle.bufr_shelves.proofs.GatheredFacts.{shelf-more, shelf-done}
use Rattle.bufr_shelves.proofs.sorted_shelf.gathered.put_all.Goals as goal

pub loop-first-preserved : goal.loop-first-preserved
loop-first-preserved c =
    shelf-more (kept c.loop-first.shelf) (kept c.put_copy.new.shelf) c.loop-first.left
    c.drop_first.new.self (seen c.in-Some.first) (seen c.in-Some.first) _ c.in_ok-put_copy.ensures
    refl (sym c.first.ensures ∙ ap (option_map seen) c.in-Some.is) c.drop_first.ensures
    c.loop-first.invariant

pub returns : goal.returns
returns c =
    let none : first_of c.loop-first.left ≡ None =
    sym c.first.ensures ∙ ap (option_map seen) c.in_default.is in
    shelf-done c.loop-first.shelf c.loop-first.left _ none c.loop-first.invariant

use Rattle.std.proofs.Common.{◌≡◌, ◌∙◌, ◌++◌, ◌∷◌, [], Some, length, refl, sym, ap}
use Rattle.std.specs.Option.{option_map}
use Rattle.bufr_entries.specs.Keeping.{first_of}
use Rattle.bufr_entries.specs.Pages.{mark_of, seen}
use Rattle.bufr_entries.proofs.PageLemmas.{room-fits, room-view}
use Rattle.bufr_entries.proofs.page.PageRoom.push_left.Goals as goal

pub invariant_of-self-in-Some-take_first : goal.invariant_of-self-in-Some-take_first
invariant_of-self-in-Some-take_first c =
    let inside = c.self.inside in
    room-fits inside.entries.items c.push_reserved.new.self.items inside.octets.items
    c.extend_from_slice.new.self.items c.in-Some.first.octets.now c.in-Some-take_first.mark
    c.self.invariant
    (c.push_reserved.ensures.items ∙ ap (λ es. es ++ record {
      mark = c.in-Some-take_first.mark;
      len = length c.in-Some.first.octets.now;
    } ∷ []) c.reserve.ensures.items)
    c.in_ok-extend_from_slice.ensures.items

pub returns-in-Some-take_first-clause-ok : goal.returns-in-Some-take_first-clause-ok
returns-in-Some-take_first-clause-ok c =
    let inside = c.self.inside in
    let first : first_of c.args.left.now ≡ Some (seen c.in-Some.first) =
    sym c.first.ensures ∙ ap (option_map seen) c.in-Some.is in
    let taken : Some c.in-Some-take_first.mark ≡ Some (mark_of (seen c.in-Some.first)) =
    sym c.in-Some-take_first.is ∙ c.take_first.ensures.mark ∙ ap (option_map mark_of) first in
    let same : c.in-Some-take_first.mark ≡ mark_of (seen c.in-Some.first) = cc in
    room-view inside.entries.items c.push_reserved.new.self.items inside.octets.items
    c.extend_from_slice.new.self.items c.in-Some.first.octets.now c.in-Some-take_first.mark
    c.args.self.now (seen c.in-Some.first) _ c.self.invariant
    (c.push_reserved.ensures.items ∙ ap (λ es. es ++ record {
      mark = c.in-Some-take_first.mark;
      len = length c.in-Some.first.octets.now;
    } ∷ []) c.reserve.ensures.items)
    c.in_ok-extend_from_slice.ensures.items c.self.view_is same (refl {a = c.in-Some.first.octets.now}) first

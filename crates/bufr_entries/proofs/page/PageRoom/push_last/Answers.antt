use Rattle.std.proofs.Common.{◌≡◌, ◌∙◌, ◌++◌, ◌∷◌, [], Some, length, reverse, refl, sym, ap}
use Rattle.std.specs.Option.{option_map}
use Rattle.bufr_entries.specs.Keeping.{first_of}
use Rattle.bufr_entries.specs.Pages.{mark_of, seen}
use Rattle.bufr_entries.proofs.PageLemmas.{room-fits, room-view}
use Rattle.bufr_entries.proofs.page.PageRoom.push_last.Goals as goal

pub invariant_of-self-in-Some-take_last : goal.invariant_of-self-in-Some-take_last
invariant_of-self-in-Some-take_last c =
    let inside = c.self.inside in
    room-fits inside.entries.items c.push_reserved.new.self.items inside.octets.items
    c.extend_from_slice.new.self.items c.in-Some.last.octets.now c.in-Some-take_last.mark
    c.self.invariant
    (c.push_reserved.ensures.items ∙ ap (λ es. es ++ record {
      mark = c.in-Some-take_last.mark;
      len = length c.in-Some.last.octets.now;
    } ∷ []) c.reserve.ensures.items)
    c.in_ok-extend_from_slice.ensures.items

pub returns-in-Some-take_last-clause-ok : goal.returns-in-Some-take_last-clause-ok
returns-in-Some-take_last-clause-ok c =
    let inside = c.self.inside in
    let first : first_of (reverse c.args.waiting.now) ≡ Some (seen c.in-Some.last) =
    sym c.last.ensures.last ∙ ap (option_map seen) c.in-Some.is in
    let taken : Some c.in-Some-take_last.mark ≡ Some (mark_of (seen c.in-Some.last)) =
    sym c.in-Some-take_last.is ∙ c.take_last.ensures.mark ∙ ap (option_map mark_of) first in
    let same : c.in-Some-take_last.mark ≡ mark_of (seen c.in-Some.last) = cc in
    room-view inside.entries.items c.push_reserved.new.self.items inside.octets.items
    c.extend_from_slice.new.self.items c.in-Some.last.octets.now c.in-Some-take_last.mark
    c.args.self.now (seen c.in-Some.last) _ c.self.invariant
    (c.push_reserved.ensures.items ∙ ap (λ es. es ++ record {
      mark = c.in-Some-take_last.mark;
      len = length c.in-Some.last.octets.now;
    } ∷ []) c.reserve.ensures.items)
    c.in_ok-extend_from_slice.ensures.items c.self.view_is same (refl {a = c.in-Some.last.octets.now}) first

-- The chosen fields are at the places of the layout.
use Rattle.std.proofs.Common.{sym, ◌∙◌}
use Rattle.std.proofs.lemmas.Slice.Eq.{bytes_eq-Decides}
use Rattle.bufr_data.proofs.PlainFacts.Placed.{placed_here}
use Rattle.bufr_data.proofs.PlainFacts.Shown.{begins_there, start_shown}
use Rattle.bufr_data.proofs.plain.index.PlainSubsets.chosen.Goals as goal

pub invariant_of-result : goal.invariant_of-result
invariant_of-result c =
    let laid = rw c.in-Some.is at c.self.invariant.1 in
    rw (c.as_slice-places.ensures, c.at-reader.ensures)
    (placed_here c.courses_are_unrollings.ensures.unrolled c.courses_are_unrollings.ensures.allowed
    c.self.inside.octets.now c.self.inside.template c.at-start.result
    c.in-Some.layout.value c.deref.result.now c.deref-then-has_room.result.now
    c.deref-in-Some.result.now c.args.asked.now c.deref.ensures c.deref-then-has_room.ensures
    c.deref-in-Some.ensures laid c.if-has_room.ensures
    (begins_there _ _ _ c.args.index _ c.self.invariant.0 c.at-start.ensures)
    (sym c.as_slice.ensures ∙ (bytes_eq-Decides _ _).0 (sym c.eq.ensures ∙ c.if-eq.true))).holds

pub returns-in-Some : goal.returns-in-Some
returns-in-Some c =
    let laid = rw c.in-Some.is at c.self.invariant.1 in
    rw (
      start_shown c.self.inside.octets.now c.self.inside.template c.self.inside.starts
          c.args.self.now c.args.index c.at-start.result c.self.view_is c.at-start.ensures,
      c.as_slice-places.ensures,
      c.at-reader.ensures,
    )
    (placed_here c.courses_are_unrollings.ensures.unrolled c.courses_are_unrollings.ensures.allowed
    c.self.inside.octets.now c.self.inside.template c.at-start.result
    c.in-Some.layout.value c.deref.result.now c.deref-then-has_room.result.now
    c.deref-in-Some.result.now c.args.asked.now c.deref.ensures c.deref-then-has_room.ensures
    c.deref-in-Some.ensures laid c.if-has_room.ensures
    (begins_there _ _ _ c.args.index _ c.self.invariant.0 c.at-start.ensures)
    (sym c.as_slice.ensures ∙ (bytes_eq-Decides _ _).0 (sym c.eq.ensures ∙ c.if-eq.true))).are

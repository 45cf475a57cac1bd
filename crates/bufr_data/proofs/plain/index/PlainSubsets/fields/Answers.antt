-- The start of a number is that of its subset.
use Rattle.std.proofs.Common.{◌≡◌, ◌∙◌, ap, sym, subst}
use Rattle.std.specs.Prelude.{IsOk}
use Rattle.bufr_bits.specs.Ends.{BitPlace, left}
use Rattle.bufr_expand.specs.Courses.{course}
use Rattle.bufr_expand.specs.Walks as walks
use Rattle.bufr_data.specs.Handed.{fields_laid}
use Rattle.bufr_data.specs.Plain.{fields_at}
use Rattle.bufr_data.specs.Plain.Starts.{subset_at, fields_of}
use Rattle.bufr_data.proofs.PlainFacts.Layouts.{laid_here}
use Rattle.bufr_data.proofs.PlainFacts.Shown.{begins_there, fields_shown}
use Rattle.bufr_fields.specs.StepLaws.{ready_there}
use Rattle.bufr_data.proofs.plain.index.PlainSubsets.fields.Goals as goal

pub invariant_of-laid : goal.invariant_of-laid
invariant_of-laid c =
    let laid = rw c.in-Some.is at c.self.invariant.1 in
    rw (c.as_slice-fields.ensures, c.at-reader.ensures)
    (laid_here c.self.inside.octets.now c.self.inside.template c.at-start.result
    c.in-Some.layout.value c.deref.result.now c.deref-then-self-le-MOST_COUNTED_OCTETS.result.now
    c.deref-in-Some.result.now c.deref.ensures c.deref-then-self-le-MOST_COUNTED_OCTETS.ensures
    c.deref-in-Some.ensures laid c.if-deref.true c.if-has_room.ensures
    (begins_there _ _ _ c.args.index _ c.self.invariant.0 c.at-start.ensures)).there

pub returns-in-Some : goal.returns-in-Some
returns-in-Some c =
    let laid = rw c.in-Some.is at c.self.invariant.1 in
    let are : fields_laid c.as_slice-fields.result.now c.at-reader.result
    ≡ fields_of (subset_at c.self.inside.octets.now c.self.inside.template c.at-start.result) =
    rw (c.as_slice-fields.ensures, c.at-reader.ensures)
    (laid_here c.self.inside.octets.now c.self.inside.template c.at-start.result
    c.in-Some.layout.value c.deref.result.now c.deref-then-self-le-MOST_COUNTED_OCTETS.result.now
    c.deref-in-Some.result.now c.deref.ensures c.deref-then-self-le-MOST_COUNTED_OCTETS.ensures
    c.deref-in-Some.ensures laid c.if-deref.true c.if-has_room.ensures
    (begins_there _ _ _ c.args.index _ c.self.invariant.0 c.at-start.ensures)).are in
    fields_shown c.self.inside.octets.now c.self.inside.template c.self.inside.starts
    c.args.self.now c.args.index c.at-start.result
    (fields_laid c.as_slice-fields.result.now c.at-reader.result) c.self.view_is
    c.at-start.ensures are

pub at-reader-requires-in_default : goal.at-reader-requires-in_default
at-reader-requires-in_default c =
    (begins_there _ _ _ c.args.index _ c.self.invariant.0 c.at-start.ensures).0

pub invariant_of-met : goal.invariant_of-met
invariant_of-met c =
    let walk = c.in_ok-walk-in_default.walk in
    let here : fields_at 1 1 (walks.left walk) (left c.at-reader-in_default.result)
    ≡ subset_at c.self.inside.octets.now c.self.inside.template c.at-start.result =
    ap (λ x. fields_at 1 1 x (left c.at-reader-in_default.result))
    c.in_ok-walk-in_default.ensures.course
    ∙ ap (λ (r : BitPlace). fields_at 1 1
    (course c.self.inside.template c.at-start.result.used) (left r))
    c.at-reader-in_default.ensures in (
      ready_there _ _ _ c.in_ok-walk-in_default.ensures.answered
          c.in_ok-walk-in_default.ensures.items c.in_ok-walk-in_default.ensures.course,
      subst IsOk (sym here)
          (begins_there _ _ _ c.args.index _ c.self.invariant.0 c.at-start.ensures).1,
    )

pub returns-in_ok-walk-in_default : goal.returns-in_ok-walk-in_default
returns-in_ok-walk-in_default c =
    let walk = c.in_ok-walk-in_default.walk in
    let here : fields_at 1 1 (walks.left walk) (left c.at-reader-in_default.result)
    ≡ subset_at c.self.inside.octets.now c.self.inside.template c.at-start.result =
    ap (λ x. fields_at 1 1 x (left c.at-reader-in_default.result))
    c.in_ok-walk-in_default.ensures.course
    ∙ ap (λ (r : BitPlace). fields_at 1 1
    (course c.self.inside.template c.at-start.result.used) (left r))
    c.at-reader-in_default.ensures in
    fields_shown c.self.inside.octets.now c.self.inside.template c.self.inside.starts
    c.args.self.now c.args.index c.at-start.result
    (fields_of (fields_at 1 1 (walks.left walk) (left c.at-reader-in_default.result)))
    c.self.view_is c.at-start.ensures (ap fields_of here)

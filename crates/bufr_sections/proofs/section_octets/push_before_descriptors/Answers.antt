use Rattle.std.proofs.Common.{sym, ◌∙◌}
use Rattle.std.proofs.lemmas.Result.{on_ok_weaker}
use Rattle.bufr_sections.proofs.BehindFacts.{on_err, still_in_front, when_ok, nothing_between}
use Rattle.bufr_sections.proofs.section_octets.push_before_descriptors.Goals as goal

pub returns-then-is_empty-clause-ok : goal.returns-then-is_empty-clause-ok
returns-then-is_empty-clause-ok c =
    let s = c.args.sections.now in
    let met =
    nothing_between c.args.out.now.items c.args.fixed.now s.head.now.local s.section2.now
    c.if-is_none.ensures (rw c.as_slice-local.ensures at (sym c.if-is_empty.ensures)) in
    on_ok_weaker c.extend_from_slice.result (λ is. is ∙ met)
    (when_ok c.extend_from_slice.result _ _ _ c.extend_from_slice.ensures.items)

pub returns-in_err-push_section2-clause-kept : goal.returns-in_err-push_section2-clause-kept
returns-in_err-push_section2-clause-kept c =
    on_err c.from_residual-in_err-push_section2.result
    (still_in_front c.args.out.now.items _ _ _ c.in_ok-extend_from_slice.ensures.items
    (still_in_front _ _ _ _ c.in_ok-extend_from_slice-2.ensures.items
    c.in_err-push_section2.ensures.kept))

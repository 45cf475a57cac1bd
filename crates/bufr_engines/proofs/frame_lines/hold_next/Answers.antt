use Rattle.bufr_engines.proofs.frame_lines.hold_next.Goals as goal

pub returns-in_ok-push_field-in-Some-clause-ok : goal.returns-in_ok-push_field-in-Some-clause-ok
returns-in_ok-push_field-in-Some-clause-ok c =
    (c.in-Some.field, rw c.in-Some.is at c.in_ok-next.ensures.found, c.in_ok-push_field-in-Some.ensures.ok)

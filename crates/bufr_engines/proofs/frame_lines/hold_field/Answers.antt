-- All descriptors are chosen, so no field is skipped.
use Rattle.std.proofs.Common.{IfOk, subst, sym}
use Rattle.bufr_fields.specs.Values.{as_field}
use Rattle.bufr_engines.specs.StreamEngines.{HoldsField}
use Rattle.bufr_engines.proofs.FieldFacts.{each_next, each_stays}
use Rattle.bufr_engines.proofs.frame_lines.hold_field.Goals as goal

pub returns-in-Some-clause-ok : goal.returns-in-Some-clause-ok
returns-in-Some-clause-ok c = (
  as_field c.in-Some.number,
  each_next _ _ _ c.in-Some.ensures.found,
  c.in_ok-push_number_field.ensures.ok,
)

pub returns-clause-ok : goal.returns-clause-ok
returns-clause-ok c =
    subst
    (λ fields. IfOk c.hold_next.result (λ more. HoldsField more fields c.hold_next.new.fields
    c.args.text.now.items c.hold_next.new.text.items))
    (sym (each_stays _ _ c.in_default.ensures.others)) c.hold_next.ensures.ok

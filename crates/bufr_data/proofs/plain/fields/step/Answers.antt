-- An element comes next, or the walk steps on.
use Rattle.bufr_fields.specs.StepLaws.{asks_field, field_goes, field_goes_on}
use Rattle.bufr_data.proofs.PlainFacts.Handed.{one_handed, text_next, asked_there, stands_ready}
use Rattle.bufr_data.proofs.PlainFacts.Handed.{stays}
use Rattle.bufr_data.proofs.PlainFacts.Reads.{step_is_read}
use Rattle.bufr_data.proofs.plain.fields.step.Goals as goal

pub returns-in_default-clause-others : goal.returns-in_default-clause-others
returns-in_default-clause-others c = stays _ _ _ c.in_default.not-Step c.requires

pub pass_element-requires : goal.pass_element-requires
pass_element-requires c = (stands_ready _ _ _ c.in-Step.is c.requires).0.answered

pub read_number-requires : goal.read_number-requires
read_number-requires c =
    let a = asks_field _ _ _ _ c.in-Some.ensures.passed in
    asked_there _ a.met _ _ a.more _ a.is (stands_ready _ _ _ c.in-Step.is c.requires).1

pub returns-in-Some-read_number-clause-found : goal.returns-in-Some-read_number-clause-found
returns-in-Some-read_number-clause-found c =
    let ready = (stands_ready _ _ _ c.in-Step.is c.requires).0 in
    let goes = c.in-Some.ensures.passed in
    one_handed _ _ _ _ _ _ c.in-Step.is c.requires
    (step_is_read _ _ _ _ _ _ _ _ (field_goes _ _ _ _ _ ready goes)
    c.in-Some-read_number.ensures.found)
    (field_goes_on _ _ _ _ ready goes)

pub returns-in-None-read_number-clause-others : goal.returns-in-None-read_number-clause-others
returns-in-None-read_number-clause-others c =
    text_next _ _ _ _ _ _ _ c.in-Step.is c.requires c.in-Some.ensures.passed
    c.in-None-read_number.ensures.unmoved

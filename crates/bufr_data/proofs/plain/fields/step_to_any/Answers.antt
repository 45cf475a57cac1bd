-- One step of the walk hands out one field, or comes to a text or the end.
use Rattle.std.proofs.Common.{refl, ap}
use Rattle.bufr_fields.specs.StepLaws.{asks_field, asks_count, field_goes, count_goes}
use Rattle.bufr_fields.specs.StepLaws.{field_goes_on, count_goes_on}
use Rattle.bufr_data.specs.Plain.Starts.{fields_of}
use Rattle.bufr_data.proofs.PlainFacts.Handed.{one_handed, text_next, none_next, none_after_fault}
use Rattle.bufr_data.proofs.PlainFacts.Handed.{asked_there}
use Rattle.bufr_data.proofs.PlainFacts.Reads.{step_is_read, end_is_read, count_read_fits}
use Rattle.bufr_data.proofs.plain.fields.step_to_any.Goals as goal

pub next-requires : goal.next-requires
next-requires c = c.requires.0.answered

pub returns-in-Err-clause-others : goal.returns-in-Err-clause-others
returns-in-Err-clause-others c =
    none_next _ _ _ _ _ refl (none_after_fault _ _ _ _ c.in-Err.ensures)

pub returns-in-End-clause-others : goal.returns-in-End-clause-others
returns-in-End-clause-others c =
    let goes = rw c.in-End.is at c.in-Ok.ensures in
    none_next _ _ _ _ _ refl (ap fields_of (end_is_read _ _ 1 _ goes))

pub read_number-requires : goal.read_number-requires
read_number-requires c =
    let goes = rw c.in-Field.is at c.in-Ok.ensures in
    let a = asks_field _ _ _ _ goes in
    asked_there _ a.met _ _ a.more _ a.is c.requires.1

pub returns-in-Some-clause-found : goal.returns-in-Some-clause-found
returns-in-Some-clause-found c =
    let ready = c.requires.0 in
    let goes = rw c.in-Field.is at c.in-Ok.ensures in
    one_handed _ _ _ _ _ _ refl c.requires
    (step_is_read _ _ _ _ _ _ _ _ (field_goes _ _ _ _ _ ready goes) c.in-Some.ensures.found)
    (field_goes_on _ _ _ _ ready goes)

pub returns-in-None-clause-others : goal.returns-in-None-clause-others
returns-in-None-clause-others c =
    let goes = rw c.in-Field.is at c.in-Ok.ensures in
    text_next _ _ _ _ _ _ _ refl c.requires goes c.in-None.ensures.unmoved

pub read_count-number-requires : goal.read_count-number-requires
read_count-number-requires c =
    let goes = rw c.in-Count.is at c.in-Ok.ensures in
    let a = asks_count _ _ _ _ goes in
    record {
      count = a.kind;
      there = asked_there _ a.met _ _ a.more _ a.is
          c.requires.1;
    }

pub count-requires-clause-fits : goal.count-requires-clause-fits
count-requires-clause-fits c =
    let goes = rw c.in-Count.is at c.in-Ok.ensures in
    count_read_fits _ _ _ _ _ _ _ _ goes c.read_count-number.ensures

pub returns-in-Count-clause-found : goal.returns-in-Count-clause-found
returns-in-Count-clause-found c =
    let ready = c.requires.0 in
    let goes = rw c.in-Count.is at c.in-Ok.ensures in
    one_handed _ _ _ _ _ _ refl c.requires
    (step_is_read _ _ _ _ _ _ _ _ (count_goes _ _ _ _ _ _ goes c.count.ensures)
    c.read_count-number.ensures)
    (count_goes_on _ _ _ _ _ _ ready goes c.count.ensures)

use Rattle.bufr_fields.specs.CourseLaws.{Laws}
use Rattle.bufr_listing_reader.proofs.LowerLaws.{LowerLaws}
use Rattle.bufr_listing_reader.proofs.FaultFields.{FaultLaws}
use Rattle.bufr_listing_reader.proofs.FaultMessages.{first_fault}
use Rattle.bufr_listing_reader.proofs.RefusedMessages.{first_fault_read}
use Rattle.bufr_listing_reader.proofs.laws.faults_of_listings_are_the_first.Goals as goal

laws_of : goal.After-courses_begin_unrollings → FaultLaws
laws_of c =
    let lower : LowerLaws = record {
      descriptors = c.descriptor_texts.ensures;
      specs = c.courses_are_steady.ensures.in_range;
      builds = c.templates_are_trees.ensures.built;
      refuses = c.templates_are_trees.ensures.refused;
      fit = c.counted_subsets_fit.ensures.all_fit;
      counted = c.counted_subsets_fit.ensures.all_counted;
    } in
    let courses : Laws = record {
      unrolled = c.courses_are_unrollings.ensures.unrolled;
      allowed = c.courses_are_unrollings.ensures.allowed;
      asked = c.courses_begin_unrollings.ensures.asked;
      lacking = c.courses_begin_unrollings.ensures.lacking;
      too_large = c.courses_begin_unrollings.ensures.too_large;
      goes_on = c.courses_begin_unrollings.ensures.goes_on;
    } in
    record { lower = lower; courses = courses }

pub returns-clause-given : goal.returns-clause-given
returns-clause-given c = first_fault (laws_of c)

pub returns-clause-answered : goal.returns-clause-answered
returns-clause-answered c = first_fault_read (laws_of c)

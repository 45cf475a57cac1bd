-- A subset of known size is passed by its bits.
use Rattle.std.proofs.Common.{◌≡◌, ◌∙◌, arith}
use Rattle.bufr_bits.specs.Ends.{left}
use Rattle.bufr_expand.specs.Courses.{course}
use Rattle.bufr_data.proofs.PlainFacts.Alike.{alike_passes}
use Rattle.bufr_data.proofs.PlainFacts.Subsets.{fields_at_numbered, fails_numbered}
use Rattle.bufr_data.proofs.plain.index.pass_one.Goals.{in_default-via-in_default}
use Rattle.bufr_data.proofs.plain.index.pass_one.Goals.{in_default-via-in-Some+else-used-le-MOST_ITEMS}
use Rattle.bufr_data.proofs.plain.index.pass_one.Goals.{in_default-via-in-Some+then-used-le-MOST_ITEMS+else-each-used}
use Rattle.bufr_data.proofs.plain.index.pass_one.Goals.{in_default-via-in-Some+then-used-le-MOST_ITEMS+then-each-used+else-pass}
use Rattle.bufr_data.proofs.plain.index.pass_one.Goals as goal

pub returns-in-Some-clause-ok : goal.returns-in-Some-clause-ok
returns-in-Some-clause-ok c =
    let law = c.courses_are_unrollings.ensures in
    let is = rw c.in-Some.is at c.requires in
    let passed = c.if-pass.ensures in
    alike_passes c.args.template.now c.in-Some.each c.args.used
    (left c.args.reader.now) _ law.unrolled law.allowed is
    (omega (arith, c.if-used-le-MOST_ITEMS.true, c.if-each-used.true))
    passed.enough passed.rest

pub returns-in-Err-clause-err : goal.returns-in-Err-clause-err
returns-in-Err-clause-err c =
    let unmoved : c.in_default.reader ≡ c.args.reader.now =
    elim c.in_default.branch [
      | in_default-via-in-Some+then-used-le-MOST_ITEMS+then-each-used+else-pass w ↦
          w.reader-is ∙ w.if-pass.ensures.unmoved
      | in_default-via-in-Some+then-used-le-MOST_ITEMS+else-each-used w ↦ w.reader-is
      | in_default-via-in-Some+else-used-le-MOST_ITEMS w ↦ w.reader-is
      | in_default-via-in_default w ↦ w.reader-is
    ] in
    let fails = rw unmoved at c.in-Err.ensures.err in
    rw (
      c.of_subset.ensures,
      fields_at_numbered c.args.number 1 (course c.args.template.now c.args.used)
          (left c.args.reader.now),
    )
    (fails_numbered c.args.number c.in-Err.failure _ fails)

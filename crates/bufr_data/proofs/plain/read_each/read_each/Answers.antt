-- Subset by subset, until one is refused or none is left.
use Rattle.std.proofs.Common.{◌+◌, ◌∙◌, ap, refl, arith}
use Rattle.bufr_bits.specs.Ends.{left}
use Rattle.bufr_expand.specs.Courses.{course}
use Rattle.bufr_base.specs.Answers.{Fails}
use Rattle.bufr_data.specs.Plain.{fields_at, subsets_at}
use Rattle.bufr_data.specs.Plain.Numbered.{numbered, failure_of_subset}
use Rattle.bufr_data.proofs.PlainFacts.Subsets.{one_more, one_fails, all_read, fails_map}
use Rattle.bufr_data.proofs.PlainFacts.Subsets.{fields_at_numbered, fails_numbered}
use Rattle.bufr_data.proofs.plain.read_each.read_each.Goals as goal

pub returns-in-Err-clause-exact : goal.returns-in-Err-clause-exact
returns-in-Err-clause-exact c =
    let tree = c.args.template.now in
    let all = subsets_at (course tree) 1 c.args.count 0 (left c.args.reader.now) in
    let number = c.loop-index.index + 1 in
    let fails : Fails (failure_of_subset number c.in-Err.failure)
    (fields_at number 1 (course tree c.loop-index.used) (left c.loop-index.reader)) =
    rw (fields_at_numbered number 1 (course tree c.loop-index.used) (left c.loop-index.reader))
    (fails_numbered number c.in-Err.failure _ c.in-Err.ensures.exact) in
    rw c.of_subset.ensures
    (fails_map (failure_of_subset number c.in-Err.failure) _ all
    (one_fails (course tree) c.args.count c.loop-index.index c.loop-index.used
    (left c.loop-index.reader) c.loop-index.subsets.items all
    (failure_of_subset number c.in-Err.failure)
    c.loop-index-test.true c.loop-index.invariant.read fails))

pub loop-index-preserved : goal.loop-index-preserved
loop-index-preserved c = record {
  onward = omega (arith, c.in-Ok.ensures.onward, c.loop-index.invariant.onward);
  same_octets = c.in-Ok.ensures.octets ∙ c.loop-index.invariant.same_octets;
  read =
      let all = subsets_at (course c.args.template.now) 1 c.args.count 0 (left c.args.reader.now) in
      rw c.in_ok-push-in-Ok.ensures.items
      (one_more (course c.args.template.now) c.args.count c.loop-index.index c.loop-index.used
      (left c.loop-index.reader) c.loop-index.subsets.items all
      (record {
        fields = c.in-Ok.subset.fields;
        items = c.in-Ok.items;
        rest = left
            c.read_plain.new.reader;
      })
      c.loop-index-test.true c.loop-index.invariant.read
      (fields_at_numbered (c.loop-index.index + 1) 1
      (course c.args.template.now c.loop-index.used) (left c.loop-index.reader)
      ∙ ap (numbered (c.loop-index.index + 1)) c.in-Ok.ensures.exact));
}

pub returns-clause-exact : goal.returns-clause-exact
returns-clause-exact c =
    let all = subsets_at (course c.args.template.now) 1 c.args.count 0 (left c.args.reader.now) in
    rw (
      all_read (course c.args.template.now)
          (c.loop-index.index + 1) c.args.count c.loop-index.index c.loop-index.used
          (left c.loop-index.reader) c.loop-index.subsets.items all
          c.loop-index-test.false c.loop-index.invariant.read,
      c.from_vec.ensures,
    ) refl

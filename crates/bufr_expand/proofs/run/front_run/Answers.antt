-- One element more.
use Rattle.std.proofs.Common.{drop, length, refl, sym, ap, ◌∙◌, arith}
use Rattle.std.proofs.lemmas.List.{drop-drop}
use Rattle.bufr_expand.specs.Runs.{field_run}
use Rattle.bufr_expand.proofs.RunFacts.{begins_nowhere, begins_joined}
use Rattle.bufr_expand.proofs.run.front_run.Goals as goal

pub loop-first-init : goal.loop-first-init
loop-first-init c = record {
  counted = omega arith;
  each_one = refl;
  rest_is = refl;
  so_far = begins_nowhere _ _;
}

pub loop-first-preserved : goal.loop-first-preserved
loop-first-preserved c =
    let run = c.loop-first.run in
    let nodes = c.args.nodes.now in
    let front = c.in-Some.ensures.cases.0 in
    let so_far = rw front at c.loop-first.invariant.so_far in
    let shorter = ap length front in
    record {
      counted = omega (arith, shorter, c.loop-first.invariant.counted);
      each_one = omega (arith, c.loop-first.invariant.each_one);
      rest_is = ap (drop 1) (sym front ∙ c.loop-first.invariant.rest_is)
          ∙ drop-drop 1 run.items nodes;
      so_far = begins_joined _ _ _ _ run (field_run c.in-Some-element_bits.width) _
          (rw (c.in-Some-checked_add.ensures.1, c.from.ensures) refl) so_far
          (c.in-Some-element_bits.ensures c.in-Some.behind.now);
    }

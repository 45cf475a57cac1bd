-- Subset by subset, until one is refused or none is left.
use Rattle.std.proofs.Common.{◌≡◌, ◌+◌, ◌∙◌, drop, refl, sym, ap, subst, arith}
use Rattle.std.specs.Prelude.{◌≤◌, ◌*◌, length}
use Rattle.std.proofs.lemmas.Result.{err_from_is_err_and}
use Rattle.bufr_bits.specs.Bits.{bits}
use Rattle.bufr_bits.specs.Ends.{left}
use Rattle.bufr_expand.specs.Courses.{course}
use Rattle.bufr_data.specs.declared.plain.index.SubsetStart.{SubsetStart}
use Rattle.bufr_data.specs.Plain.{subsets_at}
use Rattle.bufr_data.proofs.PlainFacts.Starts.{one_start, one_stands}
use Rattle.bufr_data.proofs.PlainFacts.Subsets.{one_fails, all_read, fails_map}
use Rattle.bufr_data.proofs.plain.index.starts_in_turn.Goals as goal

pub returns-in_err-items-clause-exact : goal.returns-in_err-items-clause-exact
returns-in_err-items-clause-exact c =
    let all = subsets_at (course c.args.template.now) 1 c.args.count 0 (left c.args.reader.now) in
    let p =
    err_from_is_err_and c.from_residual.result
    c.from_residual.ensures.1 in
    rw (p.1, p.2)
    (fails_map c.in_err-items.field-0.0 _ all
    (one_fails (course c.args.template.now) c.args.count c.loop-index.index c.loop-index.used
    (left c.loop-index.reader) _ all c.in_err-items.field-0.0
    c.loop-index-test.true c.loop-index.invariant.read c.in_err-items.ensures.err))

pub loop-index-preserved : goal.loop-index-preserved
loop-index-preserved c =
    let octets = c.args.reader.now.octets in
    let s : SubsetStart =
    record { bit = c.bit_of-bit.result; end = c.bit_of-end.result; used = c.loop-index.used } in
    let same = c.in_ok-items.ensures.octets ∙ c.loop-index.invariant.same_octets in
    let behind : left c.pass_one.new.reader ≡ drop s.end (bits octets) =
    ap (λ b. drop b (bits c.pass_one.new.reader.octets)) (sym c.bit_of-end.ensures.is)
    ∙ ap (λ os. drop s.end (bits os)) same in
    let ends : s.end ≤ 8 * length octets =
    subst (λ os. s.end ≤ 8 * length os) same c.bit_of-end.ensures.inside in
    let there : left c.loop-index.reader ≡ drop s.bit (bits octets) =
    ap (λ b. drop b (bits c.loop-index.reader.octets)) (sym c.bit_of-bit.ensures.is)
    ∙ ap (λ os. drop s.bit (bits os)) c.loop-index.invariant.same_octets in
    let inside : s.bit ≤ 8 * length octets =
    subst (λ os. s.bit ≤ 8 * length os) c.loop-index.invariant.same_octets
    c.bit_of-bit.ensures.inside
    in
    record {
      onward = omega (arith, c.in_ok-items.ensures.onward, c.loop-index.invariant.onward);
      same_octets = c.in_ok-items.ensures.octets ∙ c.loop-index.invariant.same_octets;
      stand =
          one_stands octets c.args.template.now s _ _ _ _ _ c.in_ok-push.ensures.items there inside
          behind ends c.loop-index.invariant.stand c.in_ok-items.ensures.ok;
      read =
          one_start octets c.args.template.now s c.args.count c.loop-index.index _ _ _ _ _ _
          c.in_ok-push.ensures.items there c.loop-index-test.true c.loop-index.invariant.read
          c.in_ok-items.ensures.ok;
    }

pub returns-clause-exact : goal.returns-clause-exact
returns-clause-exact c =
    rw (all_read (course c.args.template.now)
    (c.loop-index.index + 1) c.args.count c.loop-index.index c.loop-index.used
    (left c.loop-index.reader) _ _
    c.loop-index-test.false c.loop-index.invariant.read) refl

-- The one subset passed is all subsets.
use Rattle.std.proofs.Common.{◌≡◌, ◌+◌, ◌-◌, ◌∙◌, drop, refl, sym, ap, subst, arith}
use Rattle.std.specs.Prelude.{◌≤◌, ◌*◌, length}
use Rattle.std.proofs.lemmas.Result.{err_from_is_err_and}
use Rattle.bufr_bits.specs.Bits.{bits}
use Rattle.bufr_bits.specs.Ends.{left}
use Rattle.bufr_expand.specs.Courses.{course}
use Rattle.bufr_data.specs.declared.plain.index.SubsetStart.{SubsetStart}
use Rattle.bufr_data.specs.Plain.{subsets_at}
use Rattle.bufr_data.proofs.PlainFacts.Even.{only_read, only_begins, only_fails}
use Rattle.bufr_data.proofs.PlainFacts.Subsets.{fails_map}
use Rattle.bufr_data.proofs.plain.index.only_start.Goals as goal

pub returns-in_err-items-clause-exact : goal.returns-in_err-items-clause-exact
returns-in_err-items-clause-exact c =
    let tree = c.args.template.now in
    let front = left c.args.reader.now in
    let p = err_from_is_err_and c.from_residual.result c.from_residual.ensures.1 in
    rw (p.1, p.2)
    (fails_map c.in_err-items.field-0.0 _ (subsets_at (course tree) 1 1 0 front)
    (only_fails tree 0 front c.in_err-items.field-0.0 c.in_err-items.ensures.err))

pub returns-clause-exact : goal.returns-clause-exact
returns-clause-exact c =
    let octets = c.args.reader.now.octets in
    let s : SubsetStart =
    record {
      bit = c.bit_of-bit.result;
      end = c.bit_of-bit.result + (c.bit_of-end.result - c.bit_of-bit.result);
      used = 0;
    } in
    let there : left c.args.reader.now ≡ drop s.bit (bits octets) =
    ap (λ b. drop b (bits octets)) (sym c.bit_of-bit.ensures.is) in
    rw (only_read octets c.args.template.now s (left c.args.reader.now) _ _ there
    c.in_ok-items.ensures.ok) refl

pub returns-clause-stand : goal.returns-clause-stand
returns-clause-stand c =
    let octets = c.args.reader.now.octets in
    let bit = c.bit_of-bit.result in
    let end = c.bit_of-end.result in
    let same = c.in_ok-items.ensures.octets in
    let there : left c.args.reader.now ≡ drop bit (bits octets) =
    ap (λ b. drop b (bits octets)) (sym c.bit_of-bit.ensures.is) in
    let behind : left c.pass_subset.new.reader ≡ drop end (bits octets) =
    ap (λ b. drop b (bits c.pass_subset.new.reader.octets)) (sym c.bit_of-end.ensures.is)
    ∙ ap (λ os. drop end (bits os)) same in
    let ends : end ≤ 8 * length octets =
    subst (λ os. end ≤ 8 * length os) same c.bit_of-end.ensures.inside in
    only_begins octets c.args.template.now bit end _ (left c.args.reader.now) _ there
    (omega (arith, c.in_ok-items.ensures.onward, c.bit_of-bit.ensures.is, c.bit_of-end.ensures.is))
    ends behind c.in_ok-items.ensures.ok

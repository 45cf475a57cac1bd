-- The numbers of a factor's column are equal, or it is refused.
use Rattle.std.proofs.Common.{◌≡◌, ◌*◌, ◌<◌, ◌≤◌, length, arith}
use Rattle.std.proofs.lemmas.Result.{err_from_is_err_and}
use Rattle.bufr_bits.specs.Ends.{left}
use Rattle.bufr_data.proofs.CompressedFacts.Passed.{product_is, some_bits, no_text, factor_refused, factor_equal}
use Rattle.bufr_data.proofs.CompressedFacts.Passed.{factor_agrees, factor_differs, numbers_end, numbers_refused}
use Rattle.bufr_data.proofs.compressed.pass.pass_factor.Goals.{After-from-2}
use Rattle.bufr_data.proofs.compressed.pass.pass_factor.Goals as goal

increments : (c : After-from-2)
    → (c.from.result * c.from-2.result ≡ c.args.n * c.in_ok-minimum.k) × (0 < c.in_ok-minimum.k)
increments c = (
  product_is c.from.result c.from-2.result c.in_ok-minimum.k c.args.n c.from.ensures
      c.from-2.ensures,
  some_bits c.in_ok-minimum.k c.if-k-eq0.false,
)

pub returns-then-k-eq0-clause-ok : goal.returns-then-k-eq0-clause-ok
returns-then-k-eq0-clause-ok c =
    factor_equal c.args.n c.args.i c.args.spec
    (left c.args.reader.now) _ _ _ c.requires.counts c.requires.some c.in_ok-minimum.ensures.ok
    c.if-k-eq0.true

pub returns-then-left-from-clause-err : goal.returns-then-left-from-clause-err
returns-then-left-from-clause-err c =
    let some = increments (goal.at.returns-then-left-from-clause-err c).After-from-2 in
    let short : length (left c.column_head.new.reader) < c.args.n * c.in_ok-minimum.k =
    omega (arith, some.0, c.left.ensures.bits, c.if-left-from.true) in
    factor_refused c.args.n c.args.i c.args.spec (left c.args.reader.now) _
    (numbers_end c.args.n c.args.i c.args.spec (left c.args.reader.now) _ _ _
    (no_text _ c.requires.counts) c.in_ok-minimum.ensures.ok some.1 short)

pub returns-in_err-number-clause-err : goal.returns-in_err-number-clause-err
returns-in_err-number-clause-err c =
    let p =
    err_from_is_err_and c.from_residual-in_err-number.result
    c.from_residual-in_err-number.ensures.1 in
    let some = increments (goal.at.returns-in_err-number-clause-err c).After-from-2 in
    let long : c.args.n * c.in_ok-minimum.k ≤ length (left c.column_head.new.reader) =
    omega (arith, some.0, c.left.ensures.bits, c.if-left-from.false) in
    rw (p.1, p.2)
    (factor_refused c.args.n c.args.i c.args.spec (left c.args.reader.now) _
    (numbers_refused c.args.n c.args.i c.args.spec (left c.args.reader.now) _ _ _ _
    (no_text _ c.requires.counts) c.in_ok-minimum.ensures.ok some.1 long
    c.in_err-number.ensures.err))

pub returns-then-equal-clause-ok : goal.returns-then-equal-clause-ok
returns-then-equal-clause-ok c =
    let some = increments (goal.at.returns-then-equal-clause-ok c).After-from-2 in
    let long : c.args.n * c.in_ok-minimum.k ≤ length (left c.column_head.new.reader) =
    omega (arith, some.0, c.left.ensures.bits, c.if-left-from.false) in
    factor_agrees c.args.n c.args.i c.args.spec
    (left c.args.reader.now) _ _ _ _ _ _ c.requires.counts c.in_ok-minimum.ensures.ok some.1 long
    c.in_ok-number.ensures.ok c.in_ok-number.ensures.moved c.if-equal.true

pub returns-else-equal-clause-err : goal.returns-else-equal-clause-err
returns-else-equal-clause-err c =
    let some = increments (goal.at.returns-else-equal-clause-err c).After-from-2 in
    let long : c.args.n * c.in_ok-minimum.k ≤ length (left c.column_head.new.reader) =
    omega (arith, some.0, c.left.ensures.bits, c.if-left-from.false) in
    factor_differs c.args.n c.args.i c.args.spec
    (left c.args.reader.now) _ _ _ _ _ c.requires.counts c.in_ok-minimum.ensures.ok some.1 long
    c.in_ok-number.ensures.ok c.if-equal.false

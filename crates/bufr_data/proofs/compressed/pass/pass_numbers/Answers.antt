-- Only increments that may be too large need be read.
use Rattle.std.proofs.Common.{◌≡◌, ◌∙◌, ◌*◌, ◌<◌, ◌≤◌, length, drop, sym, ap, arith}
use Rattle.std.proofs.lemmas.Bool.{ltb-true}
use Rattle.std.proofs.lemmas.Result.{err_from_is_err_and}
use Rattle.bufr_bits.specs.Ends.{left}
use Rattle.bufr_data.proofs.CompressedFacts.Passed.{product_is, numbers_flat, numbers_end, numbers_pass}
use Rattle.bufr_data.proofs.CompressedFacts.Passed.{numbers_refused, numbers_read, some_bits}
use Rattle.bufr_data.proofs.compressed.pass.pass_numbers.Goals.{After-from-2}
use Rattle.bufr_data.proofs.compressed.pass.pass_numbers.Goals as goal

increments : (c : After-from-2)
    → (c.from.result * c.from-2.result ≡ c.args.n * c.in_ok-minimum.k) × (0 < c.in_ok-minimum.k)
increments c = (
  product_is c.from.result c.from-2.result c.in_ok-minimum.k c.args.n c.from.ensures
      c.from-2.ensures,
  some_bits c.in_ok-minimum.k c.if-k-eq0.false,
)

pub returns-then-k-eq0-clause-ok : goal.returns-then-k-eq0-clause-ok
returns-then-k-eq0-clause-ok c =
    numbers_flat c.args.n c.args.i c.args.spec
    (left c.args.reader.now) _ _ _ c.requires c.in_ok-minimum.ensures.ok c.if-k-eq0.true

pub returns-then-left-bits-clause-err : goal.returns-then-left-bits-clause-err
returns-then-left-bits-clause-err c =
    let some = increments (goal.at.returns-then-left-bits-clause-err c).After-from-2 in
    let short : length (left c.column_head.new.reader) < c.args.n * c.in_ok-minimum.k =
    omega (arith, some.0, c.left.ensures.bits, c.if-left-bits.true) in
    numbers_end c.args.n c.args.i c.args.spec
    (left c.args.reader.now) _ _ _ c.requires c.in_ok-minimum.ensures.ok some.1 short

pub returns-then-pass-clause-ok : goal.returns-then-pass-clause-ok
returns-then-pass-clause-ok c =
    let some = increments (goal.at.returns-then-pass-clause-ok c).After-from-2 in
    let long : c.args.n * c.in_ok-minimum.k ≤ length (left c.column_head.new.reader) =
    omega (arith, some.0, c.if-pass.ensures.enough) in
    let narrow = ltb-true _ _ (sym c.if-never_passes.ensures) in
    numbers_pass c.args.n c.args.i c.args.spec
    (left c.args.reader.now) _ _ _ _ c.requires c.in_ok-minimum.ensures.ok some.1 long narrow
    (c.if-pass.ensures.rest ∙ ap (λ m. drop m (left c.column_head.new.reader)) some.0)

pub returns-else-pass-clause-err : goal.returns-else-pass-clause-err
returns-else-pass-clause-err c =
    let some = increments (goal.at.returns-else-pass-clause-err c).After-from-2 in
    let short : length (left c.column_head.new.reader) < c.args.n * c.in_ok-minimum.k =
    omega (arith, some.0, c.if-pass.ensures.short) in
    numbers_end c.args.n c.args.i c.args.spec
    (left c.args.reader.now) _ _ _ c.requires c.in_ok-minimum.ensures.ok some.1 short

pub returns-in_err-read_increments-clause-err : goal.returns-in_err-read_increments-clause-err
returns-in_err-read_increments-clause-err c =
    let p =
    err_from_is_err_and c.from_residual-in_err-read_increments.result
    c.from_residual-in_err-read_increments.ensures.1 in
    let some = increments (goal.at.returns-in_err-read_increments-clause-err c).After-from-2 in
    let long : c.args.n * c.in_ok-minimum.k ≤ length (left c.column_head.new.reader) =
    omega (arith, some.0, c.left.ensures.bits, c.if-left-bits.false) in
    rw (p.1, p.2)
    (numbers_refused c.args.n c.args.i c.args.spec
    (left c.args.reader.now) _ _ _ _ c.requires c.in_ok-minimum.ensures.ok some.1 long
    c.in_err-read_increments.ensures.err)

pub returns-clause-ok : goal.returns-clause-ok
returns-clause-ok c =
    let some = increments (goal.at.returns-clause-ok c).After-from-2 in
    let long : c.args.n * c.in_ok-minimum.k ≤ length (left c.column_head.new.reader) =
    omega (arith, some.0, c.left.ensures.bits, c.if-left-bits.false) in
    let are = c.in_ok-read_increments.ensures.ok in (
      are.0,
      numbers_read c.args.n c.args.i c.args.spec
          (left c.args.reader.now) _ _ _ _ are.0 c.requires c.in_ok-minimum.ensures.ok some.1 long
          are.1
          c.in_ok-read_increments.ensures.moved,
    )

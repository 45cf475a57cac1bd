-- A value above 64 bits on the way is above 64 bits at the end.
use Rattle.std.proofs.Common.{◌∙◌, sym, arith}
use Rattle.bufr_tables.proofs.NumberFacts.{natural-too_large, natural-all}
use Rattle.bufr_tables.proofs.numbers.natural.Goals as goal

pub returns-in_err-checked_mul : goal.returns-in_err-checked_mul
returns-in_err-checked_mul c =
    c.from_residual.ensures
    ∙ sym (natural-too_large c.args.text.now c.loop-c.c-index c.loop-c.value
    (omega arith) c.loop-c.invariant.so_far (omega (arith, c.in_err-checked_mul.ensures)))

pub returns-in_err-value : goal.returns-in_err-value
returns-in_err-value c =
    c.from_residual-in_err-value.ensures
    ∙ sym (natural-too_large c.args.text.now c.loop-c.c-index c.loop-c.value
    (omega arith) c.loop-c.invariant.so_far (omega (arith, c.in_err-value.ensures)))

pub returns : goal.returns
returns c =
    sym (natural-all c.args.text.now c.loop-c.c-index c.loop-c.value
    (sym c.is_empty.ensures ∙ c.if-is_empty.false)
    (sym c.are_digits.ensures ∙ c.if-not-are_digits.false) (omega arith)
    c.loop-c.invariant.so_far c.loop-c.invariant.fits)

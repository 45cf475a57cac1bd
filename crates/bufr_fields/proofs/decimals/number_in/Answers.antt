-- Once the number does not fit, the whole text's does not.
use Rattle.std.proofs.Common.{◌∙◌, sym, arith}
use Rattle.bufr_fields.proofs.DigitRunFacts.{number_more, number_same, number_large, number_all}
use Rattle.bufr_fields.proofs.decimals.number_in.Goals as goal
use Rattle.bufr_fields.proofs.decimals.number_in.Goals.{then-is_ascii_digit+in_ok-checked_mul+in_ok-value}
use Rattle.bufr_fields.proofs.decimals.number_in.Goals.{else-is_ascii_digit}

pub returns-in_err-checked_mul : goal.returns-in_err-checked_mul
returns-in_err-checked_mul c =
    c.from_residual.ensures
    ∙ sym (number_large c.args.text.now c.loop-c.c-index c.loop-c.value
    (omega arith) c.loop-c.invariant.so_far
    (sym c.is_ascii_digit.ensures.value ∙ c.if-is_ascii_digit.true)
    (omega (arith, c.in_err-checked_mul.ensures)))

pub returns-in_err-value : goal.returns-in_err-value
returns-in_err-value c =
    c.from_residual-in_err-value.ensures
    ∙ sym (number_large c.args.text.now c.loop-c.c-index c.loop-c.value
    (omega arith) c.loop-c.invariant.so_far
    (sym c.is_ascii_digit.ensures.value ∙ c.if-is_ascii_digit.true)
    (omega (arith, c.in_err-value.ensures)))

pub loop-c-preserved : goal.loop-c-preserved
loop-c-preserved c =
    elim c.if-is_ascii_digit.branch [
      | then-is_ascii_digit+in_ok-checked_mul+in_ok-value w ↦
          record {
            so_far =
                let more =
                number_more c.args.text.now c.loop-c.c-index (omega arith)
                (sym w.if-is_ascii_digit.ensures.value) in
                omega (
                  arith,
                  w.value-is,
                  w.in_ok-value.ensures,
                  w.in_ok-checked_mul.ensures,
                  w.saturating_sub.ensures,
                  w.from.ensures,
                  more,
                  c.loop-c.invariant.so_far,
                );
            fits = omega (arith, w.value-is, w.in_ok-value.ensures);
          }
      | else-is_ascii_digit w ↦
          record {
            so_far =
                w.value-is ∙ c.loop-c.invariant.so_far
                ∙ sym (number_same c.args.text.now c.loop-c.c-index (omega arith)
                (sym w.if-is_ascii_digit.ensures.value));
            fits = omega (arith, w.value-is, c.loop-c.invariant.fits);
          }
    ]

pub returns : goal.returns
returns c =
    sym (number_all c.args.text.now c.loop-c.c-index c.loop-c.value
    (omega arith) c.loop-c.invariant.so_far c.loop-c.invariant.fits)

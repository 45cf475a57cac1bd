use Rattle.bufr_fields.proofs.digits.+is_decimal.Given as goal

abbrev pub decreases-is_decimal : goal.decreases-is_decimal
decreases-is_decimal l = l.number

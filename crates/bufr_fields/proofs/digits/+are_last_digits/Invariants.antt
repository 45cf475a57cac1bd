use Rattle.std.proofs.Common.{length}
use Rattle.bufr_fields.proofs.digits.+are_last_digits.Given as goal

abbrev pub decreases-are_last_digits : goal.decreases-are_last_digits
decreases-are_last_digits l = length l.text.now

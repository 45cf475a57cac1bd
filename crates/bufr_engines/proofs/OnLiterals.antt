-- Opens the definitions on literals, for the worked values.
use Rattle.std.specs.Fmt.{digits}
use Rattle.bufr_message.specs.Reasons.{reason}
use Rattle.bufr_io.specs.Faults.{input_text}

unfoldable pub lines_on_literals : Unit {0}
unfolding digits reason input_text
lines_on_literals = tt

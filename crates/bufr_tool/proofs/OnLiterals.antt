-- Opens the definitions on literals, for the worked values.
use Rattle.std.specs.Fmt.{digits}

unfoldable pub lines_on_literals : Unit {0}
unfolding digits
lines_on_literals = tt

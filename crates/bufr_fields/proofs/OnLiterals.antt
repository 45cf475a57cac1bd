-- Unfolds definitions on literals, for worked values.
use Rattle.std.specs.Fmt.{digits}

-- unfolds the definitions of decimals
unfoldable pub decimals_on_literals : Unit {0}
unfolding digits
decimals_on_literals = tt

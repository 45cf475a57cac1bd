-- The definitions that the worked examples open.
use Rattle.std.specs.Fmt.{digits}
use Rattle.hex.specs.Hex.{encode_with}
use Rattle.bufr_expand.specs.Reasons.{template_reason}
use Rattle.bufr_listing.specs.Reasons.{listing_reason, cause_reason}

unfoldable pub listings_on_literals : Unit {0}
unfolding listing_reason cause_reason template_reason encode_with digits
listings_on_literals = tt

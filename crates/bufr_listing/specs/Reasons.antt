-- The texts of a listing's faults: number, name and values.
use Rattle.std.specs.Prelude.{ℕ, List, ◌∷◌, ◌++◌, codes, decimal}
use Rattle.bufr_tables.specs.Descriptors.{six_digits}
use Rattle.bufr_expand.specs.declared.walk.WalkFault.TheVariants.{TooLarge, EffectiveRange}
use Rattle.bufr_expand.specs.Reasons.{template_reason}
use Rattle.bufr_listing.specs.declared.fault.Cause.{Cause}
use Rattle.bufr_listing.specs.declared.fault.Cause.TheVariants.{Template, Walk}
use Rattle.bufr_listing.specs.declared.fault.ListingFault.{ListingFault}
use Rattle.bufr_listing.specs.declared.fault.ListingFault.TheVariants.{BadLine, BadValue, Refused}

-- the text of a cause of L3
unfoldable pub cause_reason : Cause → List ℕ
cause_reason (Template why) = template_reason why
cause_reason (Walk TooLarge) = codes "V6 TooLarge"
cause_reason (Walk (EffectiveRange d)) = codes "V1 EffectiveRange " ++ six_digits d

-- the text of a listing's fault
unfoldable pub listing_reason : ListingFault → List ℕ
listing_reason (BadLine n) = codes "L1 BadLine " ++ decimal n
listing_reason (BadValue n) = codes "L2 BadValue " ++ decimal n
listing_reason (Refused n why) = codes "L3 Refused " ++ decimal n ++ 32 ∷ cause_reason why

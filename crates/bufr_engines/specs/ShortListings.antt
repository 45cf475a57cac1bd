-- The greatest length of a message's listing (this project's own): a program that prints it line by
-- line counts its octets.
use Rattle.std.specs.Prelude.{◌^◌, ◌<◌, length}
use Rattle.std.specs.List.{AllByRecursion}
use Rattle.bufr_sections.specs.declared.message.Message.{Message}
use Rattle.bufr_listing.specs.Listings.{joined, subset_lines}

-- a message with few subsets (section 3 has their number in two octets), with less than 2 ^ 40
-- octets in the lines of each: at most 16,777,216 fields of at most 8,191 octets
pub record HasShortListing (m : Message) : Type 0 where
  pub few : length m.subsets < 2 ^ 16
  pub short : AllByRecursion (λ s. length (joined (subset_lines s)) < 2 ^ 40) m.subsets

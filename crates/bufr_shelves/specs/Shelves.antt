-- What a shelf lends, and the pairs of its maps or vectors.
use Rattle.std.specs.Prelude.{◌≡◌, ℕ, List}
use Rattle.std.specs.Option.{option_copied}
use Rattle.bufr_entries.specs.declared.entry.Entry.{Entry}
use Rattle.bufr_shelves.specs.declared.held.Held.{Held}
use Rattle.bufr_entries.specs.declared.key.Key.{Key}
use Rattle.bufr_shelves.specs.declared.rank.Rank.{Rank}
use Rattle.bufr_entries.specs.Entries.{kept}
use Rattle.bufr_shelves.specs.Pairs.{shelved}

-- a lent entry
abbrev pub lent : Held → Entry
lent held = record { key = option_copied held.key; update = held.update; bytes = held.bytes.now }

-- the pairs are entries in order of slots, one of each slot
abbrev pub IsShelved : List (Key × Rank) → List (List ℕ × ℕ) → Type 0
IsShelved keyed unkeyed = kept (shelved keyed unkeyed) ≡ shelved keyed unkeyed

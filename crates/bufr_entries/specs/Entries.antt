-- Entries, their order, and what an archive keeps of them.
use Rattle.std.specs.Prelude.{Bool, false, find, Option, Some, None, List}
use Rattle.std.specs.Ordering.{nat_cmp, ordering_then, is_eq, is_lt}
use Rattle.std.specs.declared.cmp.Ordering.{Ordering}
use Rattle.std.specs.declared.cmp.Ordering.TheVariants.{Less, Greater}
use Rattle.bufr_entries.specs.Keeping.{kept_by, changes_by}
use Rattle.bufr_entries.specs.declared.key.Key.{Key}
use Rattle.bufr_entries.specs.KeyOrders.{octets_cmp, key_cmp}
use Rattle.bufr_entries.specs.declared.entry.Entry.{Entry}

-- keys in order of all parts but the sub-centre
abbrev pub coarse_key_cmp : Key → Key → Ordering
coarse_key_cmp a b = key_cmp (record a { sub_centre = 0 }) (record b { sub_centre = 0 })

-- ---- slots and ranks

-- entries with a key by key, and after them those without a key by octets
abbrev pub slot_in : (Key → Key → Ordering) → Option Key → Option Key → Ordering → Ordering
slot_in order (Some k) (Some l) by_octets = order k l
slot_in order (Some k) None by_octets = Less
slot_in order None (Some l) by_octets = Greater
slot_in order None None by_octets = by_octets

-- the order of slots; a slot is a key, or octets if there is no key
abbrev pub slot_by : Option Key → Option Key → Ordering → Ordering
slot_by a b by_octets = slot_in key_cmp a b by_octets

-- the order of an archive; entries that tie in it contend for one slot
abbrev pub slot_cmp : Entry → Entry → Ordering
slot_cmp a b = slot_by a.key b.key (octets_cmp a.bytes b.bytes)

-- the order of slots by keys without the sub-centre
abbrev pub coarse_slot_cmp : Entry → Entry → Ordering
coarse_slot_cmp a b = slot_in coarse_key_cmp a.key b.key (octets_cmp a.bytes b.bytes)

-- ranks: by update sequence number (FM 94 BUFR edition 4, section 1, octet 9), and then by octets
abbrev pub rank_cmp : Entry → Entry → Ordering
rank_cmp a b = ordering_then (nat_cmp a.update b.update) (octets_cmp a.bytes b.bytes)

-- ---- what is kept

-- the entry of greatest rank of each slot, in order of slots
abbrev pub kept : List Entry → List Entry
kept entries = kept_by slot_cmp rank_cmp entries

-- what archives kept while keys had no sub-centre
abbrev pub coarsely_kept : List Entry → List Entry
coarsely_kept entries = kept_by coarse_slot_cmp rank_cmp entries

-- an entry changes what is kept if no entry of its slot has its rank or a greater one
abbrev pub changes : List Entry → Entry → Bool
changes entries e = changes_by slot_cmp rank_cmp entries e

-- ---- look-ups

-- the optional key is this key
abbrev pub has_key : Key → Option Key → Bool
has_key key None = false
has_key key (Some k) = is_eq (key_cmp key k)

-- the entry of a key
abbrev pub entry_at : List Entry → Key → Option Entry
entry_at entries key = find (λ e. has_key key e.key) entries

-- the first entry with a slot after that of e
abbrev pub entry_after : List Entry → Entry → Option Entry
entry_after entries e = find (λ f. is_lt (slot_cmp e f)) entries

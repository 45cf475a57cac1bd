-- Gathered entries: in pages, or in a batch that waits.
use Rattle.std.specs.Prelude.{◌≡◌, ℕ, ◌+◌, ◌≤◌, ◌++◌, false, List, [], ◌∷◌, take, drop, length, reverse, Option, Some, IfSome}
use Rattle.bufr_entries.specs.Keeping.{first_of}
use Rattle.std.specs.List.{flat_map, AllByRecursion}
use Rattle.std.specs.Ordering.{is_gt}
use Rattle.std.specs.declared.cmp.Ordering.TheVariants.{Less}
use Rattle.bufr_entries.specs.Entries.{slot_cmp}
use Rattle.bufr_entries.specs.Marks.{SlotView}
use Rattle.bufr_entries.specs.declared.entry.Entry.{Entry}
use Rattle.bufr_entries.specs.declared.lent_entry.LentEntry.{LentEntry}
use Rattle.bufr_entries.specs.declared.page.PageEntry.{PageEntry}
use Rattle.bufr_entries.specs.declared.waiting.WaitingEntry.{WaitingEntry}

-- the entry with this mark and these octets
abbrev pub marked : SlotView → List ℕ → Entry
marked mark octets = record { key = mark.key; update = mark.update; bytes = octets }

-- the mark of an entry
abbrev pub mark_of : Entry → SlotView
mark_of e = record { key = e.key; update = e.update }

-- the entry of a view
abbrev pub seen : LentEntry → Entry
seen look = marked look.mark.now look.octets.now

-- the entries of a page; their octets follow one another
abbrev pub paged : List PageEntry → List ℕ → List Entry
paged [] octets = []
paged (e ∷ es) octets = marked e.mark (take e.len octets) ∷ paged es (drop e.len octets)

-- the number of octets of a page
abbrev pub octets_of : List PageEntry → ℕ
octets_of [] = 0
octets_of (e ∷ es) = e.len + octets_of es

-- a waiting entry, with its part of the octets
abbrev pub waits_in : List ℕ → WaitingEntry → Entry
waits_in octets e = marked e.mark (take e.len (drop e.from octets))

-- the octets have the parts of all waiting entries
abbrev pub HaveParts : List ℕ → List WaitingEntry → Type 0
HaveParts octets entries = AllByRecursion (λ e. e.from + e.len ≤ length octets) entries

-- the octets of waiting entries, joined
abbrev pub octets_waiting : List ℕ → List WaitingEntry → List ℕ
octets_waiting octets entries = flat_map (λ e. take e.len (drop e.from octets)) entries

-- `ahead` is the end of the octets of the waiting entries
abbrev pub AreLast : List ℕ → List WaitingEntry → List ℕ → Type 0
AreLast octets entries ahead = (before : List ℕ) × (octets_waiting octets entries ≡ before ++ ahead)

-- the entries of all pages
abbrev pub flat : List (List Entry) → List Entry
flat pages = flat_map (λ p. p) pages

-- the last entry of a page comes before the next one, if there is a next one
abbrev pub EndsBefore : List Entry → Option Entry → Type 0
EndsBefore page next =
    (last : Entry) × (first_of (reverse page) ≡ Some last)
    × IfSome next (λ f. slot_cmp last f ≡ Less)

-- no entry has a lesser slot than one before it
abbrev pub AreRising : List Entry → Type 0
AreRising [] = Unit
AreRising (e ∷ es) = AllByRecursion (λ f. is_gt (slot_cmp e f) ≡ false) es × AreRising es

-- the first slot is less than all others
abbrev pub LeadsAlone : List Entry → Type 0
LeadsAlone [] = Unit
LeadsAlone (e ∷ es) = AllByRecursion (λ f. slot_cmp e f ≡ Less) es

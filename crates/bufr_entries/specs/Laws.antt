-- The laws of what is kept, and of joins.
use Rattle.std.specs.Prelude.{◌≡◌, ◌≢◌, true, false, List, [], ◌∷◌, ◌++◌}
use Rattle.std.specs.Cmp.{IsTotalOrder}
use Rattle.std.specs.List.Sorted.{IsStrictlySortedBy}
use Rattle.std.specs.declared.cmp.Ordering.TheVariants.{Equal}
use Rattle.bufr_entries.specs.Keeping.{Has, SameMembers, AreKept}
use Rattle.bufr_entries.specs.Entries.{slot_cmp, coarse_slot_cmp, rank_cmp, kept, coarsely_kept}
use Rattle.bufr_entries.specs.Entries.{changes}
use Rattle.bufr_entries.specs.declared.entry.Entry.{Entry}

-- `kept` has the best entry of each slot, in order of slots
abbrev pub KeptIsTheBest : Type 0
KeptIsTheBest = (es : List Entry) → AreKept slot_cmp rank_cmp es (kept es)

-- no other list has the best entries in this order
abbrev pub OnlyKeptIsTheBest : Type 0
OnlyKeptIsTheBest = (es ks : List Entry) → AreKept slot_cmp rank_cmp es ks → ks ≡ kept es

-- neither the order of entries nor repeats matter
abbrev pub SameEntriesSameKept : Type 0
SameEntriesSameKept = (es fs : List Entry) → SameMembers es fs → kept es ≡ kept fs

-- entries dropped before do not matter
abbrev pub KeptEarly : Type 0
KeptEarly = (es gs : List Entry) → kept (kept es ++ gs) ≡ kept (es ++ gs)

-- joins commute
abbrev pub JoinCommutes : Type 0
JoinCommutes = (a b : List Entry) → kept (a ++ b) ≡ kept (b ++ a)

-- joins associate
abbrev pub JoinAssociates : Type 0
JoinAssociates = (a b c : List Entry) → kept (kept (a ++ b) ++ c) ≡ kept (a ++ kept (b ++ c))

-- a list joined to itself stays as it is
abbrev pub JoinIsIdempotent : Type 0
JoinIsIdempotent = (es : List Entry) → kept (es ++ es) ≡ kept es

-- `changes` is true exactly if one more entry changes what is kept
abbrev pub ChangesTells : Type 0
ChangesTells = (es : List Entry) (e : Entry)
    → (changes es e ≡ true → kept (es ++ e ∷ []) ≢ kept es)
    × (changes es e ≡ false → kept (es ++ e ∷ []) ≡ kept es)

-- entries of equal slot and rank are equal
abbrev pub NoTies : Type 0
NoTies = (e f : Entry) → slot_cmp e f ≡ Equal → rank_cmp e f ≡ Equal → e ≡ f

-- all of a list in order of slots, with no slot twice, is kept
abbrev pub SortedAreKept : Type 0
SortedAreKept = (es : List Entry) → IsStrictlySortedBy slot_cmp es → kept es ≡ es

-- all that archives kept while keys had no sub-centre is kept now, in the same order
abbrev pub CoarselyKeptAreKept : Type 0
CoarselyKeptAreKept = (es : List Entry) → kept (coarsely_kept es) ≡ coarsely_kept es

-- what they kept was the best entry of each slot, by keys without the sub-centre, if different
-- entries have different octets
abbrev pub CoarselyKeptIsTheBest : Type 0
CoarselyKeptIsTheBest = (es : List Entry)
    → ((e f : Entry) → Has es e → Has es f → e.bytes ≡ f.bytes → e ≡ f)
    → AreKept coarse_slot_cmp rank_cmp es (coarsely_kept es)

-- the orders of slots and ranks are total
abbrev pub InOneOrder : Type 0
InOneOrder = IsTotalOrder slot_cmp × IsTotalOrder rank_cmp

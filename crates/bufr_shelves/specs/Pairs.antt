-- Pairs of a key and a value, and pairs as entries.
use Rattle.std.specs.Prelude.{Some, None, Result, Ok, Err, List, [], ◌∷◌, ℕ, suc, ◌++◌, map}
use Rattle.std.specs.Ordering.{match_ordering}
use Rattle.std.specs.declared.cmp.Ordering.{Ordering}
use Rattle.bufr_entries.specs.declared.key.Key.{Key}
use Rattle.bufr_entries.specs.declared.entry.Entry.{Entry}
use Rattle.bufr_shelves.specs.declared.rank.Rank.{Rank}

-- pairs in order of keys
abbrev pub by_key : {K V : Type 0} → (K → K → Ordering) → K × V → K × V → Ordering
by_key cmp p q = cmp p.0 q.0

-- pairs in order of values
abbrev pub by_value : {K V : Type 0} → (V → V → Ordering) → K × V → K × V → Ordering
by_value cmp p q = cmp p.1 q.1

-- a key and its rank, as an entry
abbrev pub with_key : Key × Rank → Entry
with_key p = record { key = Some p.0; update = p.1.update; bytes = p.1.bytes }

-- octets and their update number, as an entry without a key
abbrev pub without_key : List ℕ × ℕ → Entry
without_key p = record { key = None; update = p.1; bytes = p.0 }

-- all entries, with those that have a key first
abbrev pub shelved : List (Key × Rank) → List (List ℕ × ℕ) → List Entry
shelved keyed unkeyed = map with_key keyed ++ map without_key unkeyed

-- the index after an index
abbrev pub one_on : Result ℕ ℕ → Result ℕ ℕ
one_on (Ok i) = Ok (suc i)
one_on (Err i) = Err (suc i)

-- the index of a key among pairs in order, or the index to insert it at; `compare` compares the key
-- with another
abbrev pub place_of : {K V : Type 0} → (K → Ordering) → List (K × V) → Result ℕ ℕ
place_of compare [] = Err 0
place_of compare (p ∷ ps) =
    match_ordering (compare p.0) (Err 0) (Ok 0) (one_on (place_of compare ps))

-- The octets of entries are those of their pairs.
use Rattle.std.proofs.Common.{◌≡◌, ◌∙◌, ◌++◌, ◌∷◌, [], ℕ, List, map, refl, sym, ap, append_assoc}
use Rattle.std.specs.List.{flat_map}
use Rattle.bufr_shelves.specs.Pairs.{shelved, without_key}
use Rattle.bufr_entries.specs.declared.key.Key.{Key}
use Rattle.bufr_shelves.specs.declared.rank.Rank.{Rank}
use Rattle.bufr_entries.specs.declared.entry.Entry.{Entry}
use Rattle.bufr_shelves.proofs.ShelvedLemmas.{entries-are}
use Rattle.bufr_shelves.proofs.sorted_shelf.SortedShelf.into_octets.Goals as goal

joined-unkeyed : (us : List (List ℕ × ℕ))
    → flat_map (λ (e : Entry). e.bytes) (map without_key us) ≡ flat_map (λ (q : List ℕ × ℕ). q.0) us
joined-unkeyed [] = refl
joined-unkeyed (u ∷ us) = ap (λ rest. u.0 ++ rest) (joined-unkeyed us)

joined-all : (ks : List (Key × Rank)) (us : List (List ℕ × ℕ))
    → flat_map (λ (e : Entry). e.bytes) (shelved ks us)
    ≡ flat_map (λ (p : Key × Rank). p.1.bytes) ks ++ flat_map (λ (q : List ℕ × ℕ). q.0) us
joined-all [] us = joined-unkeyed us
joined-all (k ∷ ks) us =
    ap (λ rest. k.1.bytes ++ rest) (joined-all ks us)
    ∙ sym (append_assoc k.1.bytes (flat_map (λ (p : Key × Rank). p.1.bytes) ks)
    (flat_map (λ (q : List ℕ × ℕ). q.0) us))

pub returns : goal.returns
returns c =
    let ks = c.self.inside.keyed.items in let us = c.self.inside.unkeyed.items in
    let keyed = flat_map (λ (p : Key × Rank). p.1.bytes) ks in
    let unkeyed = flat_map (λ (q : List ℕ × ℕ). q.0) us in
    c.in_ok-push_unkeyed.ensures
    ∙ ap (λ (out : List ℕ). out ++ unkeyed)
    (c.in_ok-push_keyed.ensures ∙ ap (λ (out : List ℕ). out ++ keyed) c.new-out.ensures.items)
    ∙ sym (joined-all ks us)
    ∙ ap (flat_map (λ (e : Entry). e.bytes))
    (sym (entries-are c.args.self _ c.self.view_is c.self.invariant))

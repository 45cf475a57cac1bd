-- A shelf with one more entry among its pairs: for `Shelf::put` of both shelves.
use Rattle.std.proofs.Common.{◌≡◌, ℕ, Bool, Option, Some, None, Result, OnOk, OnErr, IfOk, List, []}
use Rattle.std.proofs.Common.{◌∷◌, ◌++◌, sym, ap, ◌∙◌}
use Rattle.std.specs.Ordering.{nat_cmp}
use Rattle.std.specs.Cmp.Lexicographic.{slice_cmp}
use Rattle.bufr_entries.specs.Keeping.{changes_by}
use Rattle.bufr_entries.specs.Entries.{kept, changes}
use Rattle.bufr_entries.specs.DerivedOrders.{key_order}
use Rattle.bufr_shelves.specs.Ranks.{rank_order}
use Rattle.bufr_shelves.specs.Pairs.{by_key, by_value, shelved, with_key, without_key}
use Rattle.bufr_entries.specs.declared.key.Key.{Key}
use Rattle.bufr_shelves.specs.declared.rank.Rank.{Rank}
use Rattle.bufr_entries.specs.declared.entry.Entry.{Entry}
use Rattle.bufr_entries.specs.ChangeLaws.{changes-kept}
use Rattle.bufr_shelves.proofs.PairLemmas.{from_result, on_ok, if_ok}
use Rattle.bufr_shelves.proofs.ShelvedLemmas.{IsKept, put_keyed, put_unkeyed, changes-keyed}
use Rattle.bufr_shelves.proofs.ShelvedLemmas.{changes-unkeyed, shelved-keyed, shelved-unkeyed}
use Rattle.bufr_shelves.proofs.ShelvedLemmas.{kept-of, entries-put}

-- the entry put in
abbrev pub given : Option Key → ℕ → List ℕ → Entry
given key update bytes = record { key = key; update = update; bytes = bytes }

module _ {A E : Type 0} (r : Result A E) (ks : List (Key × Rank)) (us : List (List ℕ × ℕ)) where
  pub keyed-stays : (new : List (Key × Rank)) (p : Key × Rank) → IsKept ks us
      → OnOk r (new ≡ put_keyed p ks) → OnErr r (new ≡ ks) → IsKept new us
  keyed-stays new p h ok err =
      from_result r _ _ _
      (λ e. kept-of (shelved new us) (shelved ks us ++ with_key p ∷ [])
      (ap (λ ls. shelved ls us) e ∙ shelved-keyed p ks us h))
      (λ e. ap (λ ls. kept (shelved ls us)) e ∙ h ∙ sym (ap (λ ls. shelved ls us) e))
      ok err

  pub unkeyed-stays : (new : List (List ℕ × ℕ)) (q : List ℕ × ℕ) → IsKept ks us
      → OnOk r (new ≡ put_unkeyed q us) → OnErr r (new ≡ us) → IsKept ks new
  unkeyed-stays new q h ok err =
      from_result r _ _ _
      (λ e. kept-of (shelved ks new) (shelved ks us ++ without_key q ∷ [])
      (ap (shelved ks) e ∙ shelved-unkeyed q ks us h))
      (λ e. ap (λ ls. kept (shelved ks ls)) e ∙ h ∙ sym (ap (shelved ks) e))
      ok err

  module _ (now : List Entry) (is : shelved ks us ≡ now) (key : Option Key) where
    pub keyed-put : (new : List (Key × Rank)) (p : Key × Rank) → IsKept ks us → key ≡ Some p.0
        → OnOk r (new ≡ put_keyed p ks)
        → OnOk r (kept (shelved new us) ≡ kept (kept now ++ given key p.1.update p.1.bytes ∷ []))
    keyed-put new p h k =
        on_ok r _ _
        (λ e. entries-put now (shelved ks us) (shelved new us) (with_key p) is
        (ap (λ ls. shelved ls us) e ∙ shelved-keyed p ks us h)
        ∙ ap (λ o. kept (kept now ++ given o p.1.update p.1.bytes ∷ [])) (sym k))

    pub unkeyed-put : (new : List (List ℕ × ℕ)) (q : List ℕ × ℕ) → IsKept ks us → key ≡ None
        → OnOk r (new ≡ put_unkeyed q us)
        → OnOk r (kept (shelved ks new) ≡ kept (kept now ++ given key q.1 q.0 ∷ []))
    unkeyed-put new q h k =
        on_ok r _ _
        (λ e. entries-put now (shelved ks us) (shelved ks new) (without_key q) is
        (ap (shelved ks) e ∙ shelved-unkeyed q ks us h)
        ∙ ap (λ o. kept (kept now ++ given o q.1 q.0 ∷ [])) (sym k))

module _ {E : Type 0} (r : Result Bool E) (ks : List (Key × Rank)) (us : List (List ℕ × ℕ))
    (now : List Entry) (is : shelved ks us ≡ now) (key : Option Key) where
  pub keyed-changes : (p : Key × Rank) → key ≡ Some p.0
      → IfOk r (λ b. b ≡ changes_by (by_key key_order) (by_value rank_order) ks p)
      → IfOk r (λ b. b ≡ changes (kept now) (given key p.1.update p.1.bytes))
  keyed-changes p k =
      if_ok r _ _
      (λ b e. e ∙ changes-keyed p ks us
      ∙ ap (λ es. changes es (with_key p)) is
      ∙ ap (λ o. changes now (given o p.1.update p.1.bytes)) (sym k)
      ∙ sym (changes-kept now (given key p.1.update p.1.bytes)))

  pub unkeyed-changes : (q : List ℕ × ℕ) → key ≡ None
      → IfOk r (λ b. b ≡ changes_by (by_key (slice_cmp nat_cmp)) (by_value nat_cmp) us q)
      → IfOk r (λ b. b ≡ changes (kept now) (given key q.1 q.0))
  unkeyed-changes q k =
      if_ok r _ _
      (λ b e. e ∙ changes-unkeyed q ks us
      ∙ ap (λ es. changes es (without_key q)) is
      ∙ ap (λ o. changes now (given o q.1 q.0)) (sym k)
      ∙ sym (changes-kept now (given key q.1 q.0)))

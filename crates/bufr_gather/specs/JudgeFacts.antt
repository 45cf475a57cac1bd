-- Reading takes exactly the right entries, and stops at the first wrong one: for `Archive::read`.
use Rattle.std.proofs.Common.{◌≡◌, ◌⊎◌, inl, inr, ℕ, zero, suc, ◌+◌, ◌-◌, ◌<◌, ◌≤◌, ◌^◌, true, List}
use Rattle.std.proofs.Common.{[], ◌∷◌, ◌++◌, length, drop, Option, Some, None, Result, Ok, Err}
use Rattle.std.proofs.Common.{refl, sym, ap, subst, ◌∙◌, arith, append_assoc, length-append}
use Rattle.std.specs.List.{AllByRecursion}
use Rattle.std.proofs.lemmas.List.{drop_at}
use Rattle.std.proofs.lemmas.List.Elements.{All-from_recursion}
use Rattle.bufr_base.specs.Answers.{result_map}
use Rattle.bufr_entries.specs.declared.entry.Entry.{Entry}
use Rattle.bufr_gather.specs.Texts.{text, comes_after, right_entry, entry_then, summary}
use Rattle.bufr_gather.specs.EntryLaws.{HasEntryLaws}
use Rattle.bufr_gather.specs.EntryFacts as facts

-- all numbers are octets, by recursion
abbrev pub EachOctet : List ℕ → Type 0
EachOctet xs = AllByRecursion (λ x. x < 2 ^ 8) xs

-- the last entry, or the one before
abbrev pub last_of : Option Entry → List Entry → Option Entry
last_of before [] = before
last_of before (e ∷ es) = last_of (Some e) es

-- what reading returns
abbrev pub Answer : Type 0
Answer = Result (List Entry) ℕ

map_none : (x : Answer) → result_map (λ es. [] ++ es) x ≡ x
map_none (Ok es) = refl
map_none (Err p) = refl

map_more : (e : Entry) (es : List Entry) (x : Answer)
    → result_map (λ fs. e ∷ fs) (result_map (λ fs. es ++ fs) x)
    ≡ result_map (λ fs. (e ∷ es) ++ fs) x
map_more e es (Ok fs) = refl
map_more e es (Err p) = refl

map_done : (f : List Entry → List Entry) (x : Answer) (es : List Entry) → result_map f x ≡ Ok es
    → (fs : List Entry) × (x ≡ Ok fs) × (f fs ≡ es)
map_done f (Ok fs) es h = (fs, refl, cc)
map_done f (Err p) es h = absurd cc

pub map_failed : (f : List Entry → List Entry) (x : Answer) (p : ℕ) → result_map f x ≡ Err p
    → x ≡ Err p
map_failed f (Ok fs) p h = absurd cc
map_failed f (Err q) p h = ap Err cc

then_ok : (x : Option Entry) (place : ℕ) (more : Entry → Answer) (es : List Entry)
    → entry_then x place more ≡ Ok es
    → (e : Entry) × (fs : List Entry) × (x ≡ Some e) × (more e ≡ Ok fs) × (e ∷ fs ≡ es)
then_ok None place more es h = absurd cc
then_ok (Some e) place more es h =
    let m = map_done (λ fs. e ∷ fs) (more e) es h in (e, m.0, refl, m.1, m.2)

then_err : (x : Option Entry) (place : ℕ) (more : Entry → Answer) (stop : ℕ)
    → entry_then x place more ≡ Err stop
    → (place ≡ stop) ⊎ ((e : Entry) × (x ≡ Some e) × (more e ≡ Err stop))
then_err None place more stop h = inl cc
then_err (Some e) place more stop h = inr (e, refl, map_failed (λ fs. e ∷ fs) (more e) stop h)

drop_rest : (x : ℕ) (xs b more : List ℕ) → 0 < length b → x ∷ xs ≡ b ++ more
    → drop (length b - 1) xs ≡ more
drop_rest x xs [] more long is = absurd (omega arith)
drop_rest x xs (y ∷ b) more long is =
    let same : xs ≡ b ++ more = ap (drop 1) is in
    ap (λ k. drop k xs) (let n : suc (length b) - 1 ≡ length b = omega arith in n)
    ∙ ap (drop (length b)) same ∙ drop_at b more (length b) refl

-- entries that each come after the one before
abbrev pub IsRun : (Entry → Type 0) → Option Entry → List Entry → Type 0
IsRun is_entry before [] = Unit {0}
IsRun is_entry before (e ∷ es) =
    is_entry e × (comes_after before e ≡ true) × IsRun is_entry (Some e) es

module _ (is_entry : Entry → Type 0) (entry_in : List ℕ → Option Entry)
    (laws : HasEntryLaws is_entry entry_in) where
  -- octets begin with an entry
  abbrev Takes : Option Entry → List ℕ → Entry → Type 0
  Takes before octets e = facts.Takes is_entry entry_in laws before octets e

  -- ---- right entries are taken

  judged_skip : (before : Option Entry) (xs ys : List ℕ) (place : ℕ)
      → summary entry_in before place (length xs) (xs ++ ys)
      ≡ summary entry_in before (place + length xs) 0 ys
  unfolding summary
  judged_skip before [] ys place =
      ap (λ p. summary entry_in before p 0 ys) (let e : place ≡ place + 0 = omega arith in e)
  judged_skip before (x ∷ xs) ys place =
      judged_skip before xs ys (place + 1)
      ∙ ap (λ p. summary entry_in before p 0 ys)
      (let e : place + 1 + length xs ≡ place + suc (length xs) = omega arith in e)

  judged_right : (before : Option Entry) (place : ℕ) (e : Entry) (b more : List ℕ) → e.bytes ≡ b
      → 0 < length b → right_entry entry_in before (b ++ more) ≡ Some e
      → summary entry_in before place 0 (b ++ more)
      ≡ result_map (λ es. e ∷ es) (summary entry_in (Some e) (place + length b) 0 more)
  unfolding summary
  judged_right before place e [] more same long right = absurd (omega arith)
  judged_right before place e (x ∷ b) more same long right =
      let size : length e.bytes - 1 ≡ length b =
      ap (λ (b : List ℕ). length b - 1) same
      ∙ (let n : suc (length b) - 1 ≡ length b = omega arith in n) in
      let on : place + 1 + length b ≡ place + suc (length b) = omega arith in
      let next : summary entry_in (Some e) (place + 1) (length b) (b ++ more)
      ≡ summary entry_in (Some e) (place + suc (length b)) 0 more =
      judged_skip (Some e) b more (place + 1)
      ∙ ap (λ p. summary entry_in (Some e) p 0 more) on in
      ap (λ (x : Option Entry). entry_then x place
      (λ e. summary entry_in (Some e) (place + 1) (length e.bytes - 1) (b ++ more))) right
      ∙ ap (λ k. result_map (λ es. e ∷ es) (summary entry_in (Some e) (place + 1) k
      (b ++ more))) size
      ∙ ap (result_map (λ es. e ∷ es)) next

  pub long_entry : (e : Entry) → is_entry e → 12 ≤ length e.bytes
  long_entry e is = (laws.frame e is).long

  pub judged_past : (before : Option Entry) (place : ℕ) (es : List Entry) (more : List ℕ)
      → IsRun is_entry before es
      → summary entry_in before place 0 (text es ++ more)
      ≡ result_map (λ fs. es ++ fs) (summary entry_in (last_of before es)
      (place + length (text es)) 0 more)
  judged_past before place [] more run =
      ap (λ p. summary entry_in before p 0 more) (let e : place ≡ place + 0 = omega arith in e)
      ∙ sym (map_none (summary entry_in before (place + 0) 0 more))
  judged_past before place (e ∷ es) more run =
      let long = long_entry e run.0 in
      let right = facts.right_is is_entry entry_in laws before e (text es ++ more) run.0 run.1 in
      let step = judged_right before place e e.bytes (text es ++ more) refl (omega arith) right in
      let rest = judged_past (Some e) (place + length e.bytes) es more run.2 in
      let there : place + length e.bytes + length (text es) ≡ place + length (text (e ∷ es)) =
      omega (arith, length-append e.bytes (text es)) in
      ap (summary entry_in before place 0) (append_assoc e.bytes (text es) more)
      ∙ step ∙ ap (result_map (λ fs. e ∷ fs)) rest
      ∙ map_more e es (summary entry_in (last_of (Some e) es)
      (place + length e.bytes + length (text es)) 0 more)
      ∙ ap (λ p. result_map (λ fs. (e ∷ es) ++ fs)
      (summary entry_in (last_of (Some e) es) p 0 more)) there

  -- ---- taken entries are right

  pub judged_takes : (before : Option Entry) (place skip : ℕ) (xs : List ℕ) (es : List Entry)
      → EachOctet xs → summary entry_in before place skip xs ≡ Ok es
      → IsRun is_entry before es × (drop skip xs ≡ text es)
  unfolding summary
  judged_takes before place zero [] es a h =
      let none : [] ≡ es = cc in (subst (IsRun is_entry before) none tt, ap text none)
  judged_takes before place (suc skip) [] es a h =
      let none : [] ≡ es = cc in (subst (IsRun is_entry before) none tt, ap text none)
  judged_takes before place (suc skip) (x ∷ xs) es a h =
      judged_takes before (place + 1) skip xs es a.1 h
  judged_takes before place zero (x ∷ xs) es a h =
      let t = then_ok (right_entry entry_in before (x ∷ xs)) place
      (λ e. summary entry_in (Some e) (place + 1) (length e.bytes - 1) xs) es h in
      let k = facts.right_takes is_entry entry_in laws before (x ∷ xs) t.0
      (All-from_recursion (λ x. x < 2 ^ 8) (x ∷ xs) a) t.2 in
      let rest = judged_takes (Some t.0) (place + 1) (length t.0.bytes - 1) xs t.1 a.1 t.3 in
      let long = long_entry t.0 k.entry in
      let behind = drop_rest x xs t.0.bytes k.more (omega arith) k.is in (
        subst (IsRun is_entry before) t.4 (k.entry, k.after, rest.0),
        k.is ∙ ap (λ (m : List ℕ). t.0.bytes ++ m) (sym behind ∙ rest.1) ∙ ap text t.4,
      )

  -- ---- where reading stops

  -- after these entries no right entry begins
  pub record Stops (before : Option Entry) (octets : List ℕ) (place stop : ℕ) : Type 0 where
    pub taken : List Entry
    pub run : IsRun is_entry before taken
    pub more : List ℕ
    pub is : octets ≡ text taken ++ more
    pub some : 0 < length more
    pub there : stop ≡ place + length (text taken)

  none_taken : (before : Option Entry) (x : ℕ) (xs : List ℕ) (place stop : ℕ) → place ≡ stop
      → Stops before (x ∷ xs) place stop
  none_taken before x xs place stop e = record {
    taken = [];
    run = tt;
    more = x ∷ xs;
    is = refl;
    some = omega arith;
    there = sym e ∙ (let z : place ≡ place + 0 = omega arith in z);
  }

  one_taken : (before : Option Entry) (x : ℕ) (xs : List ℕ) (place stop : ℕ) (e : Entry)
      → Takes before (x ∷ xs) e
      → Stops (Some e) (drop (length e.bytes - 1) xs) (place + 1 + (length e.bytes - 1)) stop
      → Stops before (x ∷ xs) place stop
  one_taken before x xs place stop e k s =
      let long = long_entry e k.entry in
      let behind = drop_rest x xs e.bytes k.more (omega arith) k.is in
      let on : place + 1 + (length e.bytes - 1) + length (text s.taken)
      ≡ place + length (text (e ∷ s.taken)) =
      omega (arith, length-append e.bytes (text s.taken)) in
      record {
        taken = e ∷ s.taken;
        run = (k.entry, k.after, s.run);
        more = s.more;
        is = k.is ∙ ap (λ (m : List ℕ). e.bytes ++ m) (sym behind ∙ s.is)
            ∙ sym (append_assoc e.bytes (text s.taken) s.more);
        some = s.some;
        there = s.there ∙ on;
      }

  pub judged_stops : (before : Option Entry) (place skip : ℕ) (xs : List ℕ) (stop : ℕ)
      → EachOctet xs → summary entry_in before place skip xs ≡ Err stop
      → Stops before (drop skip xs) (place + skip) stop
  unfolding summary
  judged_stops before place zero [] stop a h = absurd cc
  judged_stops before place (suc skip) [] stop a h = absurd cc
  judged_stops before place (suc skip) (x ∷ xs) stop a h =
      subst (λ p. Stops before (drop skip xs) p stop)
      (let n : place + 1 + skip ≡ place + suc skip = omega arith in n)
      (judged_stops before (place + 1) skip xs stop a.1 h)
  judged_stops before place zero (x ∷ xs) stop a h =
      let zero_on : place ≡ place + 0 = omega arith in
      subst (λ p. Stops before (x ∷ xs) p stop) zero_on
      (elim (then_err (right_entry entry_in before (x ∷ xs)) place
      (λ e. summary entry_in (Some e) (place + 1) (length e.bytes - 1) xs) stop h) [
        | inl e ↦ none_taken before x xs place stop e
        | inr t ↦ one_taken before x xs place stop t.0
            (facts.right_takes is_entry entry_in laws before (x ∷ xs) t.0
            (All-from_recursion (λ x. x < 2 ^ 8) (x ∷ xs) a) t.1)
            (judged_stops (Some t.0) (place + 1) (length t.0.bytes - 1) xs stop a.1 t.2)
      ])

-- An entry at the beginning of octets: for `Archive::read`.
use Rattle.std.proofs.Common.{◌≡◌, ℕ, ◌*◌, ◌+◌, ◌-◌, ◌^◌, ◌<◌, ◌≤◌, cond, true, List, [], ◌∷◌, ◌++◌, length}
use Rattle.std.proofs.Common.{take, drop, get_or, Option, Some, None, refl, sym, ap, subst, ◌∙◌}
use Rattle.std.proofs.Common.{arith, take-append-drop}
use Rattle.std.specs.Prelude.{option_map}
use Rattle.std.proofs.lemmas.List.{take_at, take_all, length-drop}
use Rattle.std.proofs.lemmas.Option.{cond_some}
use Rattle.std.proofs.lemmas.List.Elements.{All-take, All-from_get_or}
use Rattle.bufr_frame.specs.Starts.{announced}
use Rattle.bufr_frame.specs.Cuts.{IsOneFrame}
use Rattle.bufr_entries.specs.declared.entry.Entry.{Entry}
use Rattle.bufr_sections.specs.Sections.{AreOctets}
use Rattle.bufr_report_keys.specs.Usable.{◌>>=◌}
use Rattle.bufr_gather.specs.MergedOctets.{octets_or_none, first_octets, octets_after_first}
use Rattle.bufr_gather.specs.Texts.{comes_after, front_of, right_entry}
use Rattle.bufr_gather.specs.EntryLaws.{HasEntryLaws}

-- ---- octets by their total length

announced_more : (b more : List ℕ) (l : ℕ) → announced b ≡ Some l → announced (b ++ more) ≡ Some l
announced_more [] more l e = absurd cc
announced_more (_ ∷ []) more l e = absurd cc
announced_more (_ ∷ _ ∷ []) more l e = absurd cc
announced_more (_ ∷ _ ∷ _ ∷ []) more l e = absurd cc
announced_more (_ ∷ _ ∷ _ ∷ _ ∷ []) more l e = absurd cc
announced_more (_ ∷ _ ∷ _ ∷ _ ∷ _ ∷ []) more l e = absurd cc
announced_more (_ ∷ _ ∷ _ ∷ _ ∷ _ ∷ _ ∷ []) more l e = absurd cc
announced_more (_ ∷ _ ∷ _ ∷ _ ∷ x ∷ y ∷ z ∷ rest) more l e = e

pub front_is : (octets more : List ℕ) → IsOneFrame octets → front_of (octets ++ more) ≡ Some octets
front_is octets more f =
    ap (option_map (λ l. take l (octets ++ more)))
    (announced_more octets more (length octets) f.told)
    ∙ ap Some (take_at octets more (length octets) refl)

pub none_first : (xs : List ℕ) → length xs < 7 → first_octets xs ≡ []
none_first [] less = refl
none_first (a ∷ []) less = refl
none_first (a ∷ b ∷ []) less = refl
none_first (a ∷ b ∷ c ∷ []) less = refl
none_first (a ∷ b ∷ c ∷ d ∷ []) less = refl
none_first (a ∷ b ∷ c ∷ d ∷ x ∷ []) less = refl
none_first (a ∷ b ∷ c ∷ d ∷ x ∷ y ∷ []) less = refl
none_first (a ∷ b ∷ c ∷ d ∷ x ∷ y ∷ z ∷ rest) less = absurd (omega arith)

pub some_first : (xs : List ℕ) → 7 ≤ length xs
    → first_octets xs ≡ take (65536 * get_or xs 4 0 + 256 * get_or xs 5 0 + get_or xs 6 0) xs
some_first [] long = absurd (omega arith)
some_first (a ∷ []) long = absurd (omega arith)
some_first (a ∷ b ∷ []) long = absurd (omega arith)
some_first (a ∷ b ∷ c ∷ []) long = absurd (omega arith)
some_first (a ∷ b ∷ c ∷ d ∷ []) long = absurd (omega arith)
some_first (a ∷ b ∷ c ∷ d ∷ x ∷ []) long = absurd (omega arith)
some_first (a ∷ b ∷ c ∷ d ∷ x ∷ y ∷ []) long = absurd (omega arith)
some_first (a ∷ b ∷ c ∷ d ∷ x ∷ y ∷ z ∷ rest) long = refl

pub whole_first : (xs : List ℕ) → 7 ≤ length xs
    → length xs < 65536 * get_or xs 4 0 + 256 * get_or xs 5 0 + get_or xs 6 0
    → first_octets xs ≡ xs
whole_first xs long less =
    some_first xs long
    ∙ take_all (65536 * get_or xs 4 0 + 256 * get_or xs 5 0 + get_or xs 6 0) xs (omega arith)

pub from_on : (xs : List ℕ) (n : ℕ) → take (length xs - n) (drop n xs) ≡ drop n xs
from_on xs n =
    let size = length-drop n xs in take_all (length xs - n) (drop n xs) (omega arith)

pub behind_them : (xs front : List ℕ) → first_octets xs ≡ front
    → drop (length front) xs ≡ octets_after_first xs
behind_them xs front is = ap (λ (f : List ℕ). drop (length f) xs) (sym is)

-- ---- steps of a chain

pub bind_some : {A B : Type 0} (x : Option A) (f : A → Option B) (y : B) → (x >>= f) ≡ Some y
    → (a : A) × (x ≡ Some a) × (f a ≡ Some y)
bind_some (Some a) f y e = (a, refl, e)
bind_some None f y e = absurd cc

pub mapped_some : {A B : Type 0} (f : A → B) (x : Option A) (y : B) → option_map f x ≡ Some y
    → (a : A) × (y ≡ f a)
mapped_some f (Some a) y e = (a, cc)
mapped_some f None y e = absurd cc

-- ---- right entries

module _ (is_entry : Entry → Type 0) (entry_in : List ℕ → Option Entry)
    (laws : HasEntryLaws is_entry entry_in) where
  pub right_is : (before : Option Entry) (e : Entry) (more : List ℕ) → is_entry e
      → comes_after before e ≡ true → right_entry entry_in before (e.bytes ++ more) ≡ Some e
  right_is before e more is after =
      let front = front_is e.bytes more (laws.frame e is) in
      let found : entry_in e.bytes ≡ Some e = laws.found e is in
      rw (front, found, after) refl

  -- octets begin with an entry that comes after the entry before
  pub record Takes (before : Option Entry) (octets : List ℕ) (e : Entry) : Type 0 where
    pub entry : is_entry e
    pub after : comes_after before e ≡ true
    pub more : List ℕ
    pub is : octets ≡ e.bytes ++ more

  pub right_takes : (before : Option Entry) (octets : List ℕ) (e : Entry) → AreOctets octets
      → right_entry entry_in before octets ≡ Some e → Takes before octets e
  right_takes before octets e all found =
      let f = bind_some (front_of octets) _ e found in
      let l = mapped_some (λ l. take l octets) (announced octets) f.0 f.1 in
      let g = bind_some (entry_in f.0) _ e f.2 in
      let t = cond_some (comes_after before g.0) g.0 e g.2 in
      let front : AreOctets f.0 =
      subst AreOctets (sym l.1) (All-take (λ x. x < 2 ^ 8) l.0 octets all) in
      let own = laws.own f.0 g.0 front g.1 in
      let parts : octets ≡ g.0.bytes ++ drop l.0 octets =
      sym (take-append-drop l.0 octets)
      ∙ ap (λ (b : List ℕ). b ++ drop l.0 octets) (sym (own ∙ l.1)) in
      subst (Takes before octets) t.1 (record {
        entry = laws.is f.0 g.0 front g.1;
        after = t.0;
        more = drop l.0 octets;
        is = parts;
      })

  no_octets : entry_in [] ≡ None
  no_octets = by (entry_in []) refl
    where
      by : (x : Option Entry) → entry_in [] ≡ x → entry_in [] ≡ None
      by None found = found
      by (Some e) found =
          let none_are : AreOctets [] =
          All-from_get_or (λ (x : ℕ). x < 2 ^ 8) [] 0 (λ i below. absurd (omega arith)) in
          let own : announced e.bytes ≡ None = ap announced (laws.own [] e none_are found) in
          let told = (laws.frame e (laws.is [] e none_are found)).told in
          absurd cc

  -- an entry, if it comes after the entry before
  abbrev after : Option Entry → Entry → Option Entry
  after before e = cond (comes_after before e) (Some e) None

  pub right_by_first : (before : Option Entry) (octets : List ℕ) (found : Option Entry)
      → found ≡ entry_in (first_octets octets)
      → (found >>= after before) ≡ right_entry entry_in before octets
  right_by_first before octets found is =
      ap (λ (o : Option Entry). o >>= after before) is ∙ by (front_of octets)
    where
      by : (x : Option (List ℕ)) → (entry_in (octets_or_none x) >>= after before)
          ≡ (x >>= (λ front. entry_in front >>= after before))
      by None = ap (λ (o : Option Entry). o >>= after before) no_octets
      by (Some front) = refl

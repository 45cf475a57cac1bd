-- What is kept is a run of entries, its text is read, and a fault breaks where reading stops: for
-- `Archive::read`.
use Rattle.std.proofs.Common.{◌≡◌, ℕ, ◌+◌, ◌<◌, ◌≤◌, ◌^◌, true, List, [], ◌∷◌, ◌++◌, length, take}
use Rattle.std.proofs.Common.{drop, Option, Some, None, Ok, Err, refl, sym, ap, subst, ◌∙◌, inl}
use Rattle.std.proofs.Common.{inr, arith, length-append, take-append-drop}
use Rattle.std.specs.Ordering.{is_lt}
use Rattle.std.specs.declared.cmp.Ordering.{Ordering}
use Rattle.std.specs.declared.cmp.Ordering.TheVariants.{Less, Equal, Greater}
use Rattle.std.specs.List.{AllByRecursion}
use Rattle.std.specs.List.Sorted.{IsStrictlySortedBy}
use Rattle.std.proofs.lemmas.List.{append-nil, take_at, length-take-le}
use Rattle.std.proofs.lemmas.List.Elements.{recursion_from_All, All-drop}
use Rattle.bufr_entries.specs.declared.entry.Entry.{Entry}
use Rattle.bufr_entries.specs.Entries.{slot_cmp, kept}
use Rattle.bufr_entries.specs.Keeping.{Has}
use Rattle.bufr_entries.specs.Orders.{slots_total, kept-are, kept-sorted}
use Rattle.bufr_sections.specs.Sections.{AreOctets}
use Rattle.bufr_gather.specs.Texts.{text, IsEntryText, comes_after, summary, entries_read}
use Rattle.bufr_gather.specs.EntryLaws.{HasEntryLaws}
use Rattle.bufr_gather.specs.TextLaws.{TextsAreRead, ReadAreTexts, RefusedBreakThere}
use Rattle.bufr_gather.specs.JudgeFacts.{last_of, map_failed}
use Rattle.bufr_gather.specs.JudgeFacts as judging

pub has_each : {A : Type 0} (P : A → Type 0) (xs : List A) (x : A) → AllByRecursion P xs → Has xs x
    → P x
has_each P [] x a h = absurd h
has_each P (y ∷ xs) x a (inl e) = subst P (sym e) a.0
has_each P (y ∷ xs) x a (inr h) = has_each P xs x a.1 h

each_has : (P : Entry → Type 0) (es : List Entry) → ((e : Entry) → Has es e → P e)
    → AllByRecursion P es
each_has P [] h = tt
each_has P (e ∷ es) h = (h e (inl refl), each_has P es (λ f m. h f (inr m)))

pub each_so : (P Q : Entry → Type 0) → ((e : Entry) → P e → Q e) → (es : List Entry)
    → AllByRecursion P es → AllByRecursion Q es
each_so P Q f [] a = tt
each_so P Q f (e ∷ es) a = (f e a.0, each_so P Q f es a.1)

pub kept_each : (P : Entry → Type 0) (es : List Entry) → AllByRecursion P es
    → AllByRecursion P (kept es)
kept_each P es a =
    each_has P (kept es) (λ e m. has_each P es e a ((kept-are es).only_best e m).member)

lt_is : (o : Ordering) → is_lt o ≡ true → o ≡ Less
lt_is Less h = refl
lt_is Equal h = absurd cc
lt_is Greater h = absurd cc

module _ (is_entry : Entry → Type 0) (entry_in : List ℕ → Option Entry)
    (laws : HasEntryLaws is_entry entry_in) where
  -- entries that each come after the one before
  abbrev IsRun : Option Entry → List Entry → Type 0
  IsRun before es = judging.IsRun is_entry before es

  -- ---- runs are in order

  run_of_sorted : (before : Option Entry) (es : List Entry) → IsStrictlySortedBy slot_cmp es
      → AllByRecursion is_entry es → AllByRecursion (λ y. comes_after before y ≡ true) es
      → IsRun before es
  unfolding IsStrictlySortedBy
  run_of_sorted before [] s each after = tt
  run_of_sorted before (e ∷ es) s each after =
      let all_after = each_so (λ y. slot_cmp e y ≡ Less) (λ y. comes_after (Some e) y ≡ true)
      (λ y less. ap is_lt less) es s.0 in
      (each.0, after.0, run_of_sorted (Some e) es s.1 each.1 all_after)

  run_below : (e : Entry) (es : List Entry) → IsRun (Some e) es
      → AllByRecursion (λ y. slot_cmp e y ≡ Less) es
  run_below e [] run = tt
  run_below e (f ∷ fs) run =
      let less = lt_is (slot_cmp e f) run.1 in (
        less,
        each_so (λ y. slot_cmp f y ≡ Less) (λ y. slot_cmp e y ≡ Less)
            (λ y next. slots_total.trans e f y less next) fs (run_below f fs run.2),
      )

  pub run_sorted : (before : Option Entry) (es : List Entry) → IsRun before es
      → IsStrictlySortedBy slot_cmp es
  unfolding IsStrictlySortedBy
  run_sorted before [] run = tt
  run_sorted before (e ∷ es) run = (run_below e es run.2, run_sorted (Some e) es run.2)

  run_each : (before : Option Entry) (es : List Entry) → IsRun before es
      → AllByRecursion is_entry es
  run_each before [] run = tt
  run_each before (e ∷ es) run = (run.0, run_each (Some e) es run.2)

  pub kept_of_run : (before : Option Entry) (es : List Entry) → IsRun before es → kept es ≡ es
  kept_of_run before es run = kept-sorted es (run_sorted before es run)

  run_of_kept : (es : List Entry) → AllByRecursion is_entry es → IsRun None (kept es)
  run_of_kept es a =
      run_of_sorted None (kept es) (kept-are es).ordered (kept_each is_entry es a)
      (each_has (λ y. comes_after None y ≡ true) (kept es) (λ e m. refl))

  text_of_run : (octets : List ℕ) (es : List Entry) → IsRun None es → octets ≡ text es
      → IsEntryText is_entry octets
  text_of_run octets es run is = record {
    entries = es;
    each = run_each None es run;
    says = is ∙ ap text (sym (kept_of_run None es run));
  }

  -- ---- what is read

  pub texts_are_read : TextsAreRead is_entry entry_in
  unfolding summary
  texts_are_read es a =
      let ks = kept es in
      ap (summary entry_in None 0 0) (sym (append-nil (text ks)))
      ∙ judging.judged_past is_entry entry_in laws None 0 ks [] (run_of_kept es a)
      ∙ ap Ok (append-nil ks)

  pub read_are_texts : ReadAreTexts is_entry entry_in
  read_are_texts octets es all ok =
      let each = recursion_from_All (λ x. x < 2 ^ 8) octets all in
      let t = judging.judged_takes is_entry entry_in laws None 0 0 octets es each ok in
      (run_each None es t.0, t.1, kept_of_run None es t.0)

  stops_behind : (octets : List ℕ) (place n : ℕ) → AreOctets octets
      → entries_read entry_in octets ≡ Err place → place < n → n ≤ length octets
      → IsEntryText is_entry (take n octets) → ⊥
  stops_behind octets place n all err before within t =
      let es = kept t.entries in
      let run = run_of_kept t.entries t.each in
      let parts : octets ≡ text es ++ drop n octets =
      sym (take-append-drop n octets) ∙ ap (λ (f : List ℕ). f ++ drop n octets) t.says in
      let past = judging.judged_past is_entry entry_in laws None 0 es (drop n octets) run in
      let inner = map_failed (λ fs. es ++ fs)
      (summary entry_in (last_of None es) (0 + length (text es)) 0 (drop n octets)) place
      (sym past ∙ ap (summary entry_in None 0 0) (sym parts) ∙ err) in
      let each = recursion_from_All (λ x. x < 2 ^ 8) (drop n octets)
      (All-drop (λ x. x < 2 ^ 8) n octets all) in
      let stop = judging.judged_stops is_entry entry_in laws (last_of None es)
      (0 + length (text es)) 0 (drop n octets) place each inner in
      let size : length (text es) ≡ n = ap length (sym t.says) ∙ length-take-le n octets within in
      let there = stop.there in
      absurd (omega arith)

  pub refused_break_there : RefusedBreakThere is_entry entry_in
  refused_break_there octets place all err =
      let each = recursion_from_All (λ x. x < 2 ^ 8) octets all in
      let stop = judging.judged_stops is_entry entry_in laws None 0 0 octets place each err in
      let there : place ≡ length (text stop.taken) =
      stop.there
      ∙ (let z : 0 + 0 + length (text stop.taken) ≡ length (text stop.taken) =
      omega arith in z) in
      let front : take place octets ≡ text stop.taken =
      ap (take place) stop.is ∙ take_at (text stop.taken) stop.more place (sym there) in
      let size : length octets ≡ length (text stop.taken) + length stop.more =
      ap length stop.is ∙ length-append (text stop.taken) stop.more in
      let some = stop.some in
      record {
        front = text_of_run (take place octets) stop.taken stop.run front;
        proper = omega arith;
        longest = λ n before within t. stops_behind octets place n all err before within t;
      }

-- What is kept of two lists in order of slots, entry by entry: for `take_first`.
use Rattle.std.proofs.Common.{◌≡◌, List, [], ◌∷◌, ◌++◌, cond, refl, sym, ap, ◌∙◌}
use Rattle.std.specs.Ordering.{is_gt}
use Rattle.std.specs.List.{AllByRecursion}
use Rattle.std.specs.List.Sorted.{IsStrictlySortedBy}
use Rattle.std.specs.declared.cmp.Ordering.TheVariants.{Less, Equal}
use Rattle.bufr_entries.specs.declared.entry.Entry.{Entry}
use Rattle.bufr_entries.specs.Entries.{slot_cmp, rank_cmp, kept}
use Rattle.bufr_entries.specs.Keeping.{put_by}
use Rattle.bufr_entries.specs.KeepingLaws.{put_less, put_equal}
use Rattle.bufr_entries.specs.Orders.{slots_total, kept-swap}
use Rattle.bufr_gather.specs.TextFacts.{each_so, kept_each}

-- all entries of a list come after an entry
abbrev pub AreAfter : Entry → List Entry → Type 0
AreAfter e es = AllByRecursion (λ y. slot_cmp e y ≡ Less) es

after_both : (e : Entry) (es fs : List Entry) → AreAfter e es → AreAfter e fs
    → AreAfter e (es ++ fs)
after_both e [] fs a b = b
after_both e (f ∷ es) fs a b = (a.0, after_both e es fs a.1 b)

put_front : (e : Entry) (ks : List Entry) → AreAfter e ks
    → put_by slot_cmp rank_cmp e ks ≡ e ∷ ks
put_front e [] a = refl
put_front e (f ∷ fs) a = put_less slot_cmp rank_cmp e f fs a.0

kept_front : (e : Entry) (es : List Entry) → AreAfter e es → kept (e ∷ es) ≡ e ∷ kept es
kept_front e es a = put_front e (kept es) (kept_each (λ y. slot_cmp e y ≡ Less) es a)

pub kept_left : (e : Entry) (es fs : List Entry) → AreAfter e es → AreAfter e fs
    → kept ((e ∷ es) ++ fs) ≡ e ∷ kept (es ++ fs)
kept_left e es fs a b = kept_front e (es ++ fs) (after_both e es fs a b)

pub kept_right : (f : Entry) (es fs : List Entry) → AreAfter f es → AreAfter f fs
    → kept (es ++ f ∷ fs) ≡ f ∷ kept (es ++ fs)
kept_right f es fs a b =
    kept-swap es (f ∷ fs) ∙ kept_left f fs es b a
    ∙ ap (λ (ks : List Entry). f ∷ ks) (kept-swap fs es)

pub kept_both_first : (e f : Entry) (es fs : List Entry) → slot_cmp e f ≡ Equal → AreAfter e es
    → AreAfter f fs
    → kept ((e ∷ es) ++ f ∷ fs) ≡ cond (is_gt (rank_cmp e f)) e f ∷ kept (es ++ fs)
kept_both_first e f es fs same a b =
    let a_too : AreAfter f es =
    each_so (λ y. slot_cmp e y ≡ Less) (λ y. slot_cmp f y ≡ Less)
    (λ y less. sym (slots_total.congr e f y same) ∙ less) es a in
    ap (put_by slot_cmp rank_cmp e) (kept_right f es fs a_too b)
    ∙ put_equal slot_cmp rank_cmp e f (kept (es ++ fs)) same

pub after_all : (e f : Entry) (fs : List Entry) → slot_cmp e f ≡ Less
    → IsStrictlySortedBy slot_cmp (f ∷ fs) → AreAfter e (f ∷ fs)
unfolding IsStrictlySortedBy
after_all e f fs less s = (
  less,
  each_so (λ y. slot_cmp f y ≡ Less) (λ y. slot_cmp e y ≡ Less)
      (λ y next. slots_total.trans e f y less next) fs s.0,
)

pub after_first : (e : Entry) (es : List Entry) → IsStrictlySortedBy slot_cmp (e ∷ es)
    → AreAfter e es
unfolding IsStrictlySortedBy
after_first e es s = s.0

pub order_behind : (e : Entry) (es : List Entry) → IsStrictlySortedBy slot_cmp (e ∷ es)
    → IsStrictlySortedBy slot_cmp es
unfolding IsStrictlySortedBy
order_behind e es s = s.1

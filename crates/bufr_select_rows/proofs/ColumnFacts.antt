-- The columns that a text names, word by word: the contracts of `from_word` and `columns_of`.
use Rattle.std.proofs.Common.{◌≡◌, ◌≢◌, ℕ, ◌<◌, Bool, true, false, ◌||◌, List, [], ◌∷◌, ◌++◌, ◌==◌, map}
use Rattle.std.proofs.Common.{◌≤◌, arith, get_or, length, refl, sym, ap, ◌∙◌, subst, lit<, Ok, Err, append_assoc}
use Rattle.std.proofs.Common.{Result, IsErrAnd}
use Rattle.std.specs.List.{AllByRecursion, IsDistinct, after_first, before_first, list_any}
use Rattle.std.specs.List.{position_or_len}
use Rattle.std.proofs.lemmas.List.Splits.{slice_split_first, slice_split_none}
use Rattle.std.proofs.lemmas.List.Sums.{fails_before_first}
use Rattle.std.specs.Str.{bytes_eq}
use Rattle.std.proofs.lemmas.List.{append-nil, map-append}
use Rattle.std.proofs.lemmas.Slice.Eq.{bytes_eq-Decides}
use Rattle.std.proofs.lemmas.Str.Pattern.{IsSplitOnceResult, split_once_first}
use Rattle.std.proofs.Common.{Bor, Option, Some, None, MatchOption}
use Rattle.bufr_select_rows.specs.Columns.{IsColumn, IsNoColumn, IsNoToldWord, RefusesColumns, all_told}
use Rattle.bufr_select_rows.specs.Columns.{told_word, word, words_of}
use Rattle.bufr_select_rows.specs.ColumnSteps.{AddsColumn}
use Rattle.bufr_select_rows.specs.declared.column.Column.{Column}
use Rattle.bufr_select_rows.specs.declared.fact.Fact.{Fact}
use Rattle.bufr_select_rows.specs.declared.fact.Fact.TheVariants as facts
use Rattle.bufr_select_rows.specs.declared.column_words.ColumnsFault.{ColumnsFault}
use Rattle.bufr_select_rows.specs.declared.column_words.ColumnsFault.TheVariants as faults

-- ---- all facts

-- a fact is one of all
pub among_all : (fact : Fact) → (k : ℕ) × (k < length all_told) × (get_or all_told k facts.Input ≡ fact)
unfolding all_told
among_all facts.Input = (0, lit< tt, refl)
among_all facts.Message = (1, lit< tt, refl)
among_all facts.Place = (2, lit< tt, refl)
among_all facts.Subset = (3, lit< tt, refl)
among_all facts.Centre = (4, lit< tt, refl)
among_all facts.SubCentre = (5, lit< tt, refl)
among_all facts.Update = (6, lit< tt, refl)
among_all facts.Category = (7, lit< tt, refl)
among_all facts.International = (8, lit< tt, refl)
among_all facts.LocalCategory = (9, lit< tt, refl)
among_all facts.MasterVersion = (10, lit< tt, refl)
among_all facts.LocalVersion = (11, lit< tt, refl)
among_all facts.Year = (12, lit< tt, refl)
among_all facts.Month = (13, lit< tt, refl)
among_all facts.Day = (14, lit< tt, refl)
among_all facts.Hour = (15, lit< tt, refl)
among_all facts.Minute = (16, lit< tt, refl)
among_all facts.Second = (17, lit< tt, refl)
among_all facts.Observed = (18, lit< tt, refl)
among_all facts.Compressed = (19, lit< tt, refl)

-- what is the word of none of all facts is no fact's
pub none_of_all : (text : List ℕ) (all : List Fact) (i : ℕ) → all ≡ all_told → length all ≤ i
    → ((k : ℕ) → k < i → told_word (get_or all k facts.Input) ≢ text) → IsNoToldWord text
none_of_all text all i is ends none fact =
    let at = among_all fact in
    let inside : at.0 < i = omega (arith, at.1, ap length is, ends) in
    let here : get_or all at.0 facts.Input ≡ fact =
    ap (λ cs. get_or cs at.0 facts.Input) is ∙ at.2 in
    subst (λ c. told_word c ≢ text) here (none at.0 inside)

-- two texts that a test tells apart
pub other_word : (a b : List ℕ) → bytes_eq a b ≡ false → a ≢ b
other_word a b differ e = let same = (bytes_eq-Decides a b).1 e in cc

-- an error that is passed up as it is
pub passed_on : {A F : Type 0} (P : Result A F → Type 0) (r : Result A F) (e : F)
    → IsErrAnd r (λ y. y ≡ e) → P (Err e) → P r
passed_on P (Ok x) e is p = absurd is
passed_on P (Err y) e is p = subst (λ z. P (Err z)) (sym is) p

-- ---- distinct words

-- what holds of all and of one more
all_more : {A : Type 0} (P : A → Type 0) (xs : List A) (x : A) → AllByRecursion P xs → P x
    → AllByRecursion P (xs ++ x ∷ [])
all_more P [] x all here = (here, tt)
all_more P (y ∷ xs) x all here = (all.0, all_more P xs x all.1 here)

-- one more that none of them equals
pub distinct_more : {A : Type 0} (e : A → A → Bool) (xs : List A) (x : A) → IsDistinct e xs
    → AllByRecursion (λ y. e y x ≡ false) xs → IsDistinct e (xs ++ x ∷ [])
unfolding IsDistinct
distinct_more e [] x distinct none = (tt, tt)
distinct_more e (y ∷ xs) x distinct none =
    (all_more (λ z. e y z ≡ false) xs x distinct.0 none.0, distinct_more e xs x distinct.1 none.1)

-- a test that no element passes
none_any : (test : Column → Bool) (b rest : Bool) → (b || rest) ≡ false → (b ≡ false) × (rest ≡ false)
none_any test false rest h = (refl, h)
none_any test true rest h = cc

-- none of the columns has this word
none_has : (cs : List Column) (here : List ℕ)
    → list_any (λ c. bytes_eq (word c) here) cs ≡ false
    → AllByRecursion (λ t. bytes_eq t here ≡ false) (map word cs)
none_has [] here none = tt
none_has (c ∷ cs) here none =
    let both = none_any (λ x. true) (bytes_eq (word c) here)
    (list_any (λ x. bytes_eq (word x) here) cs) none in
    (both.0, none_has cs here both.1)

-- ---- word by word

-- the words of the columns so far, none of them twice, and those that are left are all words
pub record HasNamed (text rest : List ℕ) (cs : List Column) : Type 0 where
  pub parted : words_of text ≡ map word cs ++ words_of rest
  pub distinct : IsDistinct bytes_eq (map word cs)
  pub can_be : AllByRecursion IsColumn cs

-- at the first word
pub named_none : (text : List ℕ) → HasNamed text text []
unfolding IsDistinct
named_none text = record { parted = refl; distinct = tt; can_be = tt }

-- one more word, of a column that is not there yet
words_more : (text here after : List ℕ) (cs cs' : List Column) (rest : List (List ℕ))
    (done : Unit {0}) → words_of text ≡ map word cs ++ here ∷ rest
    → (a : AddsColumn cs cs' here (Ok done)) → words_of text ≡ map word cs' ++ rest
words_more text here after cs cs' rest done is a =
    let front = ap (map word) a.2 ∙ map-append word cs (a.0 ∷ []) in
    is ∙ ap (λ w. map word cs ++ w ∷ rest) (sym a.3)
    ∙ sym (append_assoc (map word cs) (word a.0 ∷ []) rest)
    ∙ ap (λ ws. ws ++ rest) (sym front)

-- and none is there twice
distinct_next : (here : List ℕ) (cs cs' : List Column) (done : Unit {0})
    → IsDistinct bytes_eq (map word cs) → AddsColumn cs cs' here (Ok done)
    → IsDistinct bytes_eq (map word cs')
distinct_next here cs cs' done distinct a =
    let front = ap (map word) a.2 ∙ map-append word cs (a.0 ∷ []) in
    subst (IsDistinct bytes_eq) (sym front)
    (distinct_more bytes_eq (map word cs) (word a.0) distinct
    (subst (λ t. AllByRecursion (λ u. bytes_eq u t ≡ false) (map word cs)) (sym a.3)
    (none_has cs here a.4)))

-- each can be a column
can_be_next : (here : List ℕ) (cs cs' : List Column) (done : Unit {0}) → AllByRecursion IsColumn cs
    → AddsColumn cs cs' here (Ok done) → AllByRecursion IsColumn cs'
can_be_next here cs cs' done all a =
    subst (AllByRecursion IsColumn) (sym a.2) (all_more IsColumn cs a.0 all a.1)

-- a word before a comma
pub named_more : (text rest here after : List ℕ) (cs cs' : List Column) (done : Unit {0})
    → HasNamed text rest cs → words_of rest ≡ here ∷ words_of after
    → AddsColumn cs cs' here (Ok done) → HasNamed text after cs'
named_more text rest here after cs cs' done h is a = record {
  parted = words_more text here after cs cs' (words_of after) done
      (h.parted ∙ ap (λ ws. map word cs ++ ws) is) a;
  distinct = distinct_next here cs cs' done h.distinct a;
  can_be = can_be_next here cs cs' done h.can_be a;
}

-- the last word
pub named_all : (text rest : List ℕ) (cs cs' : List Column) (done : Unit {0})
    → HasNamed text rest cs → words_of rest ≡ rest ∷ [] → AddsColumn cs cs' rest (Ok done)
    → (map word cs' ≡ words_of text) × IsDistinct bytes_eq (words_of text)
    × AllByRecursion IsColumn cs'
named_all text rest cs cs' done h is a =
    let all = words_more text rest rest cs cs' [] done
    (h.parted ∙ ap (λ ws. map word cs ++ ws) is) a ∙ append-nil (map word cs') in (
      sym all,
      subst (IsDistinct bytes_eq) (sym all) (distinct_next rest cs cs' done h.distinct a),
      can_be_next rest cs cs' done h.can_be a,
    )

-- the test of words and of columns
any_word : (cs : List Column) (here : List ℕ)
    → list_any (λ c. bytes_eq (word c) here) cs ≡ list_any (λ w. bytes_eq w here) (map word cs)
any_word [] here = refl
any_word (c ∷ cs) here = ap (λ b. bytes_eq (word c) here || b) (any_word cs here)

-- a word that is refused
pub named_refused : (text rest here : List ℕ) (cs cs' : List Column) (after : List (List ℕ))
    (fault : ColumnsFault) → HasNamed text rest cs → words_of rest ≡ here ∷ after
    → AddsColumn cs cs' here (Err fault) → RefusesColumns text fault
named_refused text rest here cs cs' after (faults.NoColumn said) h is a = (
  record {
    columns = cs;
    after = after;
    parted = h.parted ∙ ap (λ ws. map word cs ++ ws) (is ∙ ap (λ w. w ∷ after) (sym a.0));
    distinct = h.distinct;
  },
  subst IsNoColumn (sym a.0) a.1,
)
named_refused text rest here cs cs' after (faults.Twice said) h is a = (
  record {
    columns = cs;
    after = after;
    parted = h.parted ∙ ap (λ ws. map word cs ++ ws) (is ∙ ap (λ w. w ∷ after) (sym a.0));
    distinct = h.distinct;
  },
  subst (λ (w : List ℕ). list_any (λ b. bytes_eq b w) (map word cs) ≡ true) (sym a.0)
      (sym (any_word cs here) ∙ a.1),
)
named_refused text rest here cs cs' after faults.OutOfMemory h is a = tt

-- ---- cutting at commas

-- a text with a comma: its first word, and the words after it
pub words_cut : (text here after : List ℕ) → position_or_len (λ c. c == 44) text < length text
    → here ≡ before_first (λ c. c == 44) text → after ≡ after_first (λ c. c == 44) text
    → words_of text ≡ here ∷ words_of after
words_cut text here after inside one two =
    slice_split_first (λ c. c == 44) text 0 inside
    ∙ ap (λ w. w ∷ words_of (after_first (λ c. c == 44) text)) (sym one)
    ∙ ap (λ t. here ∷ words_of t) (sym two)

-- a text without
pub words_whole : (text : List ℕ) → position_or_len (λ c. c == 44) text ≡ length text
    → words_of text ≡ text ∷ []
words_whole text none =
    slice_split_none (λ c. c == 44) text
    (λ k d lt. fails_before_first (λ c. c == 44) text k d (omega arith))

-- a text that was cut at its first comma
pub cut_once : (text : List ℕ) (r : Option (Bor (List ℕ) × Bor (List ℕ))) (here after : Bor (List ℕ))
    → IsSplitOnceResult 44 text r → r ≡ Some (here, after)
    → words_of text ≡ here.now ∷ words_of after.now
cut_once text r here after cut is =
    let at = subst (λ o. MatchOption o (position_or_len (λ c. c == 44) text ≡ length text)
    (λ x. (position_or_len (λ c. c == 44) text < length text)
    × (x.0.now ≡ before_first (λ c. c == 44) text) × (x.1.now ≡ after_first (λ c. c == 44) text))) is
    (split_once_first 44 text r cut (lit< tt)) in
    words_cut text here.now after.now at.0 at.1 at.2

-- a text without a comma, by the search
pub not_cut : (text : List ℕ) (r : Option (Bor (List ℕ) × Bor (List ℕ)))
    → IsSplitOnceResult 44 text r → r ≡ None → words_of text ≡ text ∷ []
not_cut text r cut is =
    words_whole text
    (subst (λ o. MatchOption o (position_or_len (λ c. c == 44) text ≡ length text)
    (λ x. (position_or_len (λ c. c == 44) text < length text)
    × (x.0.now ≡ before_first (λ c. c == 44) text) × (x.1.now ≡ after_first (λ c. c == 44) text))) is
    (split_once_first 44 text r cut (lit< tt)))

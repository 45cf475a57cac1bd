-- The words of a line in turn: for the cursor over words.
use Rattle.std.proofs.Common.{◌≡◌, ℕ, ◌+◌, ◌≤◌, Bool, true, false, cond, Bor, List}
use Rattle.std.proofs.Common.{[], ◌∷◌, ◌++◌, append_assoc, length, take, drop, refl, sym}
use Rattle.std.proofs.Common.{ap, ◌∙◌, subst, arith}
use Rattle.std.specs.Prelude.{◌==◌, not, Option, Some, None, IfNone, IfSome, option_map, nat_lt}
use Rattle.std.specs.Option.{is_some}
use Rattle.std.specs.List.{position, position_or_len}
use Rattle.std.proofs.lemmas.Bool.{ltb-true}
use Rattle.std.proofs.lemmas.Bool.Decides.{nat_tests}
use Rattle.std.proofs.lemmas.List.{append-nil, drop_all}
use Rattle.std.proofs.lemmas.Option.{same_Some}
use Rattle.std.proofs.lemmas.List.Sums.{fails_before_first}
use Rattle.std.proofs.lemmas.List.Elements.{All-from_get_or}
use Rattle.std.proofs.lemmas.List.Splits.{slice_split_none, slice_split_first, length-slice_split}
use Rattle.bufr_tables.specs.Descriptors.{of_text}
use Rattle.bufr_listing_reader.specs.Lines.{words_of}
use Rattle.bufr_listing_reader.specs.Words.{number_below, onto, numbers_of, descriptors_of}

-- the index of the first space
abbrev pub space_in : List ℕ → Option ℕ
space_in text = position (λ c. c == 32) text

abbrev end_of : List ℕ → ℕ
end_of text = position_or_len (λ c. c == 32) text

none_by : (b : Bool) (text : List ℕ) → nat_lt (end_of text) (length text) ≡ b
    → cond b (Some (end_of text)) None ≡ None → words_of text ≡ text ∷ []
none_by true text e h = absurd cc
none_by false text e h =
    slice_split_none (λ c. c == 32) text (All-from_get_or (λ c. (c == 32) ≡ false) text 0
    (λ i lt. fails_before_first (λ c. c == 32) text i 0 (grind (arith, nat_tests))))

pub no_space : (text : List ℕ) → space_in text ≡ None → words_of text ≡ text ∷ []
no_space text h = none_by (nat_lt (end_of text) (length text)) text refl h

some_by : (b : Bool) (text : List ℕ) (k : ℕ) → nat_lt (end_of text) (length text) ≡ b
    → cond b (Some (end_of text)) None ≡ Some k → words_of text ≡ take k text ∷ words_of
    (drop (k + 1) text)
some_by true text k e h =
    subst (λ n. words_of text ≡ take n text ∷ words_of (drop (n + 1) text))
    (same_Some (end_of text) k h)
    (slice_split_first (λ c. c == 32) text 0 (ltb-true (end_of text) (length text) e))
some_by false text k e h = absurd cc

pub at_space : (text : List ℕ) (k : ℕ) → space_in text ≡ Some k
    → words_of text ≡ take k text ∷ words_of (drop (k + 1) text)
at_space text k h = some_by (nat_lt (end_of text) (length text)) text k refl h

-- ---- results in turn

-- these, and then those of the words left
abbrev pub behind : List ℕ → Option (List ℕ) → Option (List ℕ)
behind xs o = option_map (λ ys. xs ++ ys) o

pub behind_none : (o : Option (List ℕ)) → o ≡ behind [] o
behind_none None = refl
behind_none (Some ys) = refl

pub behind_more : (xs grown : List ℕ) (n : ℕ) (o : Option (List ℕ)) → grown ≡ xs ++ n ∷ []
    → behind xs (onto (Some n) o) ≡ behind grown o
behind_more xs grown n None e = refl
behind_more xs grown n (Some ys) e =
    ap Some (sym (append_assoc xs (n ∷ []) ys) ∙ ap (λ zs. zs ++ ys) (sym e))

pub one_number : (limits : List ℕ) (limit n : ℕ) (w : List ℕ) (ws : List (List ℕ))
    → number_below limit w ≡ Some n → numbers_of (limit ∷ limits) (w ∷ ws) ≡ onto (Some n)
    (numbers_of limits ws)
unfolding numbers_of
one_number limits limit n w ws h = ap (λ o. onto o (numbers_of limits ws)) h

pub bad_number : (limits : List ℕ) (limit : ℕ) (w : List ℕ) (ws : List (List ℕ))
    → number_below limit w ≡ None → numbers_of (limit ∷ limits) (w ∷ ws) ≡ None
unfolding numbers_of
bad_number limits limit w ws h = ap (λ o. onto o (numbers_of limits ws)) h

pub too_few : (limits : List ℕ) (limit : ℕ) → numbers_of (limit ∷ limits) [] ≡ None
unfolding numbers_of
too_few limits limit = refl

pub too_many : (w : List ℕ) (ws : List (List ℕ)) → numbers_of [] (w ∷ ws) ≡ None
unfolding numbers_of
too_many w ws = refl

pub just_enough : numbers_of [] [] ≡ Some []
unfolding numbers_of
just_enough = refl

pub one_descriptor : (d : ℕ) (w : List ℕ) (ws : List (List ℕ)) → of_text w ≡ Some d
    → descriptors_of (w ∷ ws) ≡ onto (Some d) (descriptors_of ws)
unfolding descriptors_of
one_descriptor d w ws h = ap (λ o. onto o (descriptors_of ws)) h

pub bad_descriptor : (w : List ℕ) (ws : List (List ℕ)) → of_text w ≡ None
    → descriptors_of (w ∷ ws) ≡ None
unfolding descriptors_of
bad_descriptor w ws h = ap (λ o. onto o (descriptors_of ws)) h

pub no_descriptors : descriptors_of [] ≡ Some []
unfolding descriptors_of
no_descriptors = refl

pub behind_end : (xs : List ℕ) → behind xs (Some []) ≡ Some xs
behind_end xs = ap Some (append-nil xs)

pub some_word : {P : Type 0} (text : List ℕ) → words_of text ≡ [] → P
some_word text h = let count = length-slice_split (λ c. c == 32) text in let none = ap length h in
    absurd (omega (arith, count, none))

pub word_ended : (o : Option (Bor (List ℕ))) (b : Bool) (ws : List (List ℕ)) → is_some o ≡ not b
    → b ≡ true → IfNone o (ws ≡ []) → ws ≡ []
word_ended None b ws e is h = h
word_ended (Some w) true ws e is h = absurd cc
word_ended (Some w) false ws e is h = absurd cc

pub word_more : (o : Option (Bor (List ℕ))) (b : Bool) (ws after : List (List ℕ))
    → is_some o ≡ not b → b ≡ false → IfSome o (λ w. ws ≡ w.now ∷ after)
    → (w : List ℕ) × (ws ≡ w ∷ after)
word_more None true ws after e is h = absurd cc
word_more None false ws after e is h = absurd cc
word_more (Some w) b ws after e is h = (w.now, h)

pub numbers_end : (limits xs : List ℕ) (i : ℕ) (ws : List (List ℕ)) → length limits ≤ i → ws ≡ []
    → behind xs (numbers_of (drop i limits) ws) ≡ Some xs
numbers_end limits xs i ws all none =
    let last = drop_all i limits all in
    ap (behind xs) ((λ j. numbers_of (last j) (none j)) ∙ just_enough) ∙ behind_end xs

pub numbers_over : (limits xs : List ℕ) (i : ℕ) (ws rest : List (List ℕ)) (w : List ℕ)
    → length limits ≤ i → ws ≡ w ∷ rest → behind xs (numbers_of (drop i limits) ws) ≡ None
numbers_over limits xs i ws rest w all more =
    let last = drop_all i limits all in
    ap (behind xs) ((λ j. numbers_of (last j) (more j)) ∙ too_many w rest)

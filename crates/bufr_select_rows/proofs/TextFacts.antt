-- The texts of values: the contracts of `trimmed`, `push_text` and `push_octet`.
use Rattle.std.proofs.Common.{◌≡◌, ℕ, ◌&&◌, Bool, true, false, List, [], ◌∷◌, ◌++◌, refl, sym, ap, ◌∙◌}
use Rattle.std.proofs.Common.{cond, Result, Ok, Err, OnOk, is_ok, take, get_or, length, ◌-◌, ◌+◌, ◌≤◌, ◌<◌, arith}
use Rattle.std.proofs.lemmas.List.{take_all, take_more}
use Rattle.std.specs.Prelude.{if◌then◌else◌, ◌||◌, not}
use Rattle.std.specs.List.{list_all}
use Rattle.csv.specs.Writing.{default_writer, needs_byte, needs_quotes}
use Rattle.bufr_select_rows.specs.TextCells.{is_plain}
use Rattle.bufr_select_rows.specs.Values.{is_padding, is_shown_as_itself, shown_text}
use Rattle.bufr_select_rows.specs.Values.{trimmed}

-- ---- padding

-- a test of a list and of one more
all_more : (front : List ℕ) (c : ℕ) (is : Bool) → is_padding c ≡ is
    → list_all is_padding (front ++ c ∷ []) ≡ (list_all is_padding front && is)
all_more [] c true same = ap (λ b. b && true) same
all_more [] c false same = ap (λ b. b && true) same
all_more (x ∷ front) c is same = by (is_padding x) (all_more front c is same)
  where
    by : (b : Bool) → list_all is_padding (front ++ c ∷ []) ≡ (list_all is_padding front && is)
        → (b && list_all is_padding (front ++ c ∷ [])) ≡ ((b && list_all is_padding front) && is)
    by true more = more
    by false more = refl

-- both parts of a test
and_true : (b : Bool) → (b && true) ≡ b
and_true true = refl
and_true false = refl

and_false : (b : Bool) → (b && false) ≡ false
and_false true = refl
and_false false = refl

-- padding at the end is cut off
pub trimmed_padded : (front : List ℕ) (c : ℕ) → is_padding c ≡ true
    → trimmed (front ++ c ∷ []) ≡ trimmed front
unfolding trimmed
trimmed_padded [] c pads = rw pads refl
trimmed_padded (x ∷ front) c pads =
    rw (all_more (x ∷ front) c true pads, and_true (list_all is_padding (x ∷ front)))
    (ap (λ (t : List ℕ). cond (list_all is_padding (x ∷ front)) [] (x ∷ t))
    (trimmed_padded front c pads))

-- another octet stays, with all before it
pub trimmed_other : (front : List ℕ) (c : ℕ) → is_padding c ≡ false
    → trimmed (front ++ c ∷ []) ≡ front ++ c ∷ []
unfolding trimmed
trimmed_other [] c pads = rw pads refl
trimmed_other (x ∷ front) c pads =
    rw (all_more (x ∷ front) c false pads, and_false (list_all is_padding (x ∷ front)))
    (ap (λ (t : List ℕ). x ∷ t) (trimmed_other front c pads))

-- ---- octets

-- octets that are shown as themselves
pub shown_themselves : (octets : List ℕ) → list_all is_shown_as_itself octets ≡ true
    → shown_text octets ≡ octets
shown_themselves [] all = refl
shown_themselves (c ∷ octets) all =
    by (is_shown_as_itself c) refl all (λ rest. shown_themselves octets rest)
  where
    by : (b : Bool) → is_shown_as_itself c ≡ b → (b && list_all is_shown_as_itself octets) ≡ true
        → (list_all is_shown_as_itself octets ≡ true → shown_text octets ≡ octets)
        → shown_text (c ∷ octets) ≡ c ∷ octets
    by true one rest more = rw one (ap (λ (t : List ℕ). c ∷ t) (more rest))
    by false one rest more = absurd cc

-- plain octets are shown as themselves
pub plain_themselves : (octets : List ℕ) → list_all is_plain octets ≡ true
    → list_all is_shown_as_itself octets ≡ true
plain_themselves [] all = refl
plain_themselves (c ∷ octets) all =
    by (is_shown_as_itself c) (not (needs_byte default_writer c)) refl all
    (λ rest. plain_themselves octets rest)
  where
    by : (a b : Bool) → is_shown_as_itself c ≡ a → ((a && b) && list_all is_plain octets) ≡ true
        → (list_all is_plain octets ≡ true → list_all is_shown_as_itself octets ≡ true)
        → (is_shown_as_itself c && list_all is_shown_as_itself octets) ≡ true
    by true true one rest more = rw one (more rest)
    by true false one rest more = absurd cc
    by false b one rest more = absurd cc

-- a field of plain octets needs no quotes
pub plain_bare : (octets : List ℕ) → list_all is_plain octets ≡ true
    → needs_quotes default_writer octets ≡ false
plain_bare [] all = refl
plain_bare (c ∷ octets) all =
    by (is_shown_as_itself c) (needs_byte default_writer c) refl all
    (λ rest. plain_bare octets rest)
  where
    by : (a b : Bool) → needs_byte default_writer c ≡ b
        → ((a && not b) && list_all is_plain octets) ≡ true
        → (list_all is_plain octets ≡ true → needs_quotes default_writer octets ≡ false)
        → (needs_byte default_writer c || needs_quotes default_writer octets) ≡ false
    by true false one rest more = rw one (more rest)
    by true true one rest more = absurd cc
    by false b one rest more = absurd cc

-- ---- the end of a text

-- a text by its last octet
by_last : (xs : List ℕ) → 1 ≤ length xs
    → xs ≡ take (length xs - 1) xs ++ get_or xs (length xs - 1) 0 ∷ []
by_last xs some =
    let at : (length xs - 1) + 1 ≡ length xs = omega (arith, some) in
    sym (take_all (length xs) xs (omega arith)) ∙ ap (λ n. take n xs) (sym at)
    ∙ take_more xs (length xs - 1) 0 (omega (arith, some))

-- its last octet is no padding
pub last_stays : (left octets : List ℕ) (is : Bool) → 1 ≤ length left
    → is ≡ is_padding (get_or left (length left - 1) 0) → is ≡ false
    → trimmed left ≡ trimmed octets → left ≡ trimmed octets
last_stays left octets is some pads no_pad same =
    let cut = by_last left some in
    cut ∙ sym (trimmed_other (take (length left - 1) left) _ (sym pads ∙ no_pad))
    ∙ ap trimmed (sym cut) ∙ same

-- it is padding
pub last_goes : (left octets : List ℕ) (is : Bool) → 1 ≤ length left
    → is ≡ is_padding (get_or left (length left - 1) 0) → is ≡ true
    → trimmed left ≡ trimmed octets → trimmed (take (length left - 1) left) ≡ trimmed octets
last_goes left octets is some pads pad same =
    let cut = by_last left some in
    sym (trimmed_padded (take (length left - 1) left) _ (sym pads ∙ pad)) ∙ ap trimmed (sym cut) ∙ same

-- no octet is left
pub none_stays : (left octets : List ℕ) → length left < 1 → trimmed left ≡ trimmed octets
    → left ≡ trimmed octets
unfolding trimmed
none_stays [] octets none same = same
none_stays (x ∷ left) octets none same = absurd (omega (arith, none))

-- a result of the addition of octets
pub on_ok_same : {A E : Type 0} (r : Result A E) (new a b c : List ℕ)
    → new ≡ (if is_ok r then a else b) → a ≡ c → OnOk r (new ≡ c)
on_ok_same (Ok x) new a b c e f = e ∙ f
on_ok_same (Err x) new a b c e f = tt

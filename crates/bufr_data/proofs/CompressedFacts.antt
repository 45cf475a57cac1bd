-- What is read from bits are exactly the values of a column.
use Rattle.std.proofs.Common.{◌≡◌, ℕ, zero, suc, ◌+◌, ◌-◌, ◌/◌, ◌^◌, ◌<◌, ◌≤◌, Bool, true, false}
use Rattle.std.proofs.Common.{cond, ltb, List, [], ◌∷◌, ◌++◌, length, map, replicate, Option, Some}
use Rattle.std.proofs.Common.{None, Result, Ok, Err, refl, sym, ap, subst, ◌∙◌, arith, append_assoc}
use Rattle.std.specs.Prelude.{◌==◌, nat_lt}
use Rattle.std.specs.List.{AllByRecursion, flat_map, list_all}
use Rattle.std.proofs.lemmas.Bool.{and_parts, le-ltb, lt-ltb, ltb-true, eqb-true, eqb-false, eq-eqb}
use Rattle.std.proofs.lemmas.Bool.{ltb-false, ne_eqb}
use Rattle.std.proofs.Math.Arith.{lt_of_le-ne}
use Rattle.std.proofs.lemmas.List.{length-replicate, length-map}
use Rattle.bufr_base.specs.AnswerLaws.{bind_ok, guard_ok, ok_is}
use Rattle.bufr_bits.specs.Bits.{bin, bits, number_at, numbers_at, octets_at}
use Rattle.bufr_bits.specs.BitLaws.{some_is, number_at-bin, number_at_is}
use Rattle.bufr_bits.specs.NumberLaws.{numbers_at_again, numbers_at_found}
use Rattle.bufr_expand.specs.declared.operators.Spec.{Spec}
use Rattle.bufr_fields.specs.declared.field.Raw.{Raw}
use Rattle.bufr_fields.specs.declared.field.Raw.TheVariants.{Number, Text}
use Rattle.bufr_fields.specs.declared.fault.DataFault.{DataFault}
use Rattle.bufr_data.specs.Plain.{raw_bits, raw_at}
use Rattle.bufr_data.specs.Compressed.{Pairwise, HasIncrement, HasText, IsColumn, equal}
use Rattle.bufr_data.specs.Compressed.{numbers as number_column, texts as text_column, above, missing}
use Rattle.bufr_data.specs.Compressed.{filled as is_filled, ones as ones_text}
use Rattle.bufr_fields.specs.Increments.{raised}
use Rattle.bufr_data.specs.Compressed.Reading.{or_ends, value_then, all_raised, filled}
use Rattle.bufr_data.specs.Compressed.Reading.{text_then, texts_then, texts_at, values_at, column_at}
use Rattle.bufr_data.specs.Compressed.Causes.{Heads}
use Rattle.bufr_fields.specs.FormLaws.{form_passes, form_is}
use Rattle.bufr_data.proofs.ListFacts.{all_replicated}
use Rattle.bufr_data.proofs.PlainFacts.{raw_again, raw_read}
pub mod Best
pub mod Chosen
pub mod Courses
pub mod Increments
pub mod Indexed
pub mod Lent
pub mod Misfits
pub mod Packed
pub mod PackedMisfits
pub mod Passed
pub mod Places
pub mod Puts
pub mod Ranges
pub mod Refusals
pub mod Rows
pub mod Shown
pub mod Values
pub mod Walks
pub mod Writable
pub mod Written

pub raised_again : (width minimum k x : ℕ) (v : Raw) → HasIncrement width minimum k x v
    → raised width minimum k x ≡ Some v
raised_again width minimum k x v (above below room is) =
    let some : x + 1 == 2 ^ k ≡ false = ne_eqb (x + 1) (2 ^ k) (λ e. omega (arith, below, e)) in
    rw (some, lt-ltb (minimum + x) (2 ^ width) room) (ap (λ r. Some r) (sym is))
raised_again width minimum k x v (missing ones is) =
    rw (eq-eqb (x + 1) (2 ^ k) ones) (ap (λ r. Some r) (sym is))

raised_by : (width minimum k x : ℕ) (v : Raw) → x < 2 ^ k → (ones : Bool) (room : Bool)
    → (x + 1 == 2 ^ k) ≡ ones → nat_lt (minimum + x) (2 ^ width) ≡ room
    → cond ones (Some (Number (2 ^ width - 1))) (cond room (Some (Number (minimum + x))) None)
    ≡ Some v → HasIncrement width minimum k x v
raised_by width minimum k x v below true room o r e =
    missing (eqb-true (x + 1) (2 ^ k) o) (sym (some_is _ _ e))
raised_by width minimum k x v below false true o r e =
    let le : x + 1 ≤ 2 ^ k = omega (arith, below) in
    above (lt_of_le-ne le (eqb-false (x + 1) (2 ^ k) o)) (ltb-true (minimum + x) (2 ^ width) r)
    (sym (some_is _ _ e))
raised_by width minimum k x v below false false o r e = absurd cc

raised_found : (width minimum k x : ℕ) (v : Raw) → x < 2 ^ k → raised width minimum k x ≡ Some v
    → HasIncrement width minimum k x v
raised_found width minimum k x v below e = raised_by width minimum k x v below _ _ refl refl e

all_raised_again : (j i width minimum k : ℕ) (xs : List ℕ) (vs : List Raw)
    → Pairwise (HasIncrement width minimum k) xs vs → all_raised j i width minimum k xs ≡ Ok vs
all_raised_again j i width minimum k [] [] h = refl
all_raised_again j i width minimum k (x ∷ xs) (v ∷ vs) h =
    rw (
      raised_again width minimum k x v h.0,
      all_raised_again (j + 1) i width minimum k xs vs h.1,
    ) refl
all_raised_again j i width minimum k [] (v ∷ vs) h = absurd h
all_raised_again j i width minimum k (x ∷ xs) [] h = absurd h

value_then_found : (j i : ℕ) (o : Option Raw) (others : Result (List Raw) DataFault) (vs : List Raw)
    → value_then j i o others ≡ Ok vs
    → (v : Raw) × (ws : List Raw) × (o ≡ Some v) × (others ≡ Ok ws) × (v ∷ ws ≡ vs)
value_then_found j i None others vs e = absurd cc
value_then_found j i (Some v) (Ok ws) vs e = (v, ws, refl, refl, ok_is _ _ e)
value_then_found j i (Some v) (Err f) vs e = absurd cc

all_raised_found : (j i width minimum k : ℕ) (xs : List ℕ) (vs : List Raw)
    → AllByRecursion (λ x. x < 2 ^ k) xs → all_raised j i width minimum k xs ≡ Ok vs
    → Pairwise (HasIncrement width minimum k) xs vs
all_raised_found j i width minimum k [] [] all e = tt
all_raised_found j i width minimum k [] (v ∷ vs) all e = absurd cc
all_raised_found j i width minimum k (x ∷ xs) vs all e =
    let h =
    value_then_found j i (raised width minimum k x)
    (all_raised (j + 1) i width minimum k xs) vs e in
    subst (λ us. Pairwise (HasIncrement width minimum k) (x ∷ xs) us) h.4 (
      raised_found width minimum k x h.0 all.0 h.2,
      all_raised_found (j + 1) i width minimum k xs h.1 all.1 h.3,
    )

pub ones_of : (own : List ℕ) → list_all (λ x. x == 255) own ≡ true
    → own ≡ replicate (length own) 255
ones_of [] e = refl
ones_of (x ∷ own) e =
    let p = and_parts (x == 255) (list_all (λ x. x == 255) own) e in
    let first : x ≡ 255 = eqb-true x 255 p.0 in
    let others = ones_of own p.1 in
    λ i. first i ∷ others i

pub all_ones_of : (k : ℕ) → list_all (λ x. x == 255) (replicate k 255) ≡ true
all_ones_of zero = refl
all_ones_of (suc k) = all_ones_of k

filled_by : (octets k : ℕ) (own : List ℕ) (b : Bool) → length own ≡ k
    → list_all (λ x. x == 255) own ≡ b → (own ≡ replicate k 255 → ⊥)
    → cond b (Text (replicate octets 255)) (Text (own ++ replicate (octets - length own) 32))
    ≡ Text (own ++ replicate (octets - k) 32)
filled_by octets k own true size e other =
    absurd (other (ones_of own e ∙ ap (λ n. replicate n 255) size))
filled_by octets k own false size e other = ap (λ n. Text (own ++ replicate (octets - n) 32)) size

pub filled_again : (octets k : ℕ) (own : List ℕ) (v : Raw) → HasText octets k own v
    → filled octets own ≡ v
filled_again octets k own v (is_filled size all other is) =
    filled_by octets k own _ size refl other ∙ sym is
filled_again octets k own v (ones_text is value) =
    rw (is, all_ones_of k) (sym value)

pub text_octets : (octets k : ℕ) (own : List ℕ) (v : Raw) → HasText octets k own v
    → (length own ≡ k) × AllByRecursion (λ x. x < 256) own
text_octets octets k own v (is_filled size all other is) = (size, all)
text_octets octets k own v (ones_text is value) =
    let ones = all_replicated (λ x. x < 256) k 255 (omega arith) in
    (ap length is ∙ length-replicate k 255, subst (AllByRecursion (λ x. x < 256)) (sym is) ones)

filled_found_by : (octets k : ℕ) (own : List ℕ) (b : Bool) → length own ≡ k
    → AllByRecursion (λ x. x < 256) own → list_all (λ x. x == 255) own ≡ b
    → HasText octets k own
    (cond b (Text (replicate octets 255)) (Text (own ++ replicate (octets - length own) 32)))
filled_found_by octets k own true size all e =
    ones_text (ones_of own e ∙ ap (λ n. replicate n 255) size) refl
filled_found_by octets k own false size all e =
    is_filled size all
    (λ is. let ones : list_all (λ x. x == 255) own ≡ true = ap (list_all (λ x. x == 255)) is
    ∙ all_ones_of k in let no = sym ones ∙ e in cc)
    (ap (λ n. Text (own ++ replicate (octets - n) 32)) size)

filled_found : (octets k : ℕ) (own : List ℕ) → length own ≡ k → AllByRecursion (λ x. x < 256) own
    → HasText octets k own (filled octets own)
filled_found octets k own size all = filled_found_by octets k own _ size all refl

all_filled_again : (octets k : ℕ) (own : List (List ℕ)) (vs : List Raw)
    → Pairwise (HasText octets k) own vs → map (filled octets) own ≡ vs
all_filled_again octets k [] [] h = refl
all_filled_again octets k (x ∷ own) (v ∷ vs) h =
    let first = filled_again octets k x v h.0 in
    let others = all_filled_again octets k own vs h.1 in
    λ i. first i ∷ others i
all_filled_again octets k [] (v ∷ vs) h = absurd h
all_filled_again octets k (x ∷ own) [] h = absurd h

pub texts_again : (k : ℕ) (own : List (List ℕ)) (rest : List Bool)
    → AllByRecursion (λ t. (length t ≡ k) × AllByRecursion (λ x. x < 256) t) own
    → texts_at (length own) k (flat_map bits own ++ rest) ≡ Some (own, rest)
texts_again k [] rest all = refl
texts_again k (t ∷ own) rest all =
    let e : flat_map bits (t ∷ own) ++ rest ≡ bits t ++ (flat_map bits own ++ rest) =
    append_assoc (bits t) (flat_map bits own) rest in
    rw (
      e,
      numbers_at_again 8 k t (flat_map bits own ++ rest) all.0.0 all.0.1,
      texts_again k own
          rest all.1,
    ) refl

-- the bits begin with n texts of k octets
abbrev AreTexts : ℕ → ℕ → List Bool → List (List ℕ) × List Bool → Type 0
AreTexts n k front x =
    (length x.0 ≡ n)
    × AllByRecursion (λ own. (length own ≡ k) × AllByRecursion (λ x. x < 256) own) x.0
    × (front ≡ flat_map bits x.0 ++ x.1)

text_behind : (n k : ℕ) (front : List Bool) (y : List ℕ × List Bool)
    (o : Option (List (List ℕ) × List Bool)) (x : List (List ℕ) × List Bool)
    → (length y.0 ≡ k) × AllByRecursion (λ x. x < 256) y.0 × (front ≡ bits y.0 ++ y.1)
    → ((z : List (List ℕ) × List Bool) → o ≡ Some z → AreTexts n k y.1 z) → text_then o y.0 ≡ Some x
    → AreTexts (suc n) k front x
text_behind n k front y None x own behind e = absurd cc
text_behind n k front y (Some z) x own behind e =
    let is = behind z refl in
    let spelt : front ≡ flat_map bits (y.0 ∷ z.0) ++ z.1 =
    own.2 ∙ ap (λ os. bits y.0 ++ os) is.2
    ∙ sym (append_assoc (bits y.0) (flat_map bits z.0) z.1) in
    subst (λ p. AreTexts (suc n) k front p) (some_is _ _ e)
    (ap suc is.0, ((own.0, own.1), is.1), spelt)

texts_joined : (n k : ℕ) (front : List Bool) (o : Option (List ℕ × List Bool))
    (others : List Bool → Option (List (List ℕ) × List Bool)) (x : List (List ℕ) × List Bool)
    → ((y : List ℕ × List Bool) → o ≡ Some y
    → (length y.0 ≡ k) × AllByRecursion (λ x. x < 256) y.0 × (front ≡ bits y.0 ++ y.1))
    → ((rest : List Bool) (z : List (List ℕ) × List Bool) → others rest ≡ Some z
    → AreTexts n k rest z)
    → texts_then o others ≡ Some x → AreTexts (suc n) k front x
texts_joined n k front None others x first behind e = absurd cc
texts_joined n k front (Some y) others x first behind e =
    text_behind n k front y (others y.1) x (first y refl) (λ z h. behind y.1 z h) e

pub texts_at_found : (n k : ℕ) (front : List Bool) (x : List (List ℕ) × List Bool)
    → texts_at n k front ≡ Some x → AreTexts n k front x
texts_at_found zero k front x e = subst (λ p. AreTexts 0 k front p) (some_is _ _ e) (refl, tt, refl)
texts_at_found (suc n) k front x e =
    texts_joined n k front (octets_at k front) (λ rest. texts_at n k rest) x
    (λ y h. numbers_at_found k 8 front y h) (λ rest z h. texts_at_found n k rest z h) e

all_filled_found : (octets k : ℕ) (own : List (List ℕ))
    → AllByRecursion (λ x. (length x ≡ k) × AllByRecursion (λ y. y < 256) x) own
    → Pairwise (HasText octets k) own (map (filled octets) own)
all_filled_found octets k [] all = tt
all_filled_found octets k (x ∷ own) all =
    (filled_found octets k x all.0.0 all.0.1, all_filled_found octets k own all.1)

pub pairwise_length : {A B : Type 0} (Belong : A → B → Type 0) (xs : List A) (ys : List B)
    → Pairwise Belong xs ys → length xs ≡ length ys
pairwise_length Belong [] [] h = refl
pairwise_length Belong (x ∷ xs) (y ∷ ys) h = ap suc (pairwise_length Belong xs ys h.1)
pairwise_length Belong [] (y ∷ ys) h = absurd h
pairwise_length Belong (x ∷ xs) [] h = absurd h

pub pairwise_each : {A B : Type 0} (Belong : A → B → Type 0) (P : A → Type 0)
    → ((x : A) (y : B) → Belong x y → P x) → (xs : List A) (ys : List B) → Pairwise Belong xs ys
    → AllByRecursion P xs
pairwise_each Belong P each [] ys h = tt
pairwise_each Belong P each (x ∷ xs) [] h = absurd h
pairwise_each Belong P each (x ∷ xs) (y ∷ ys) h =
    (each x y h.0, pairwise_each Belong P each xs ys h.1)

pub pairwise_other : {A B : Type 0} (Belong : A → B → Type 0) (P : B → Type 0)
    → ((x : A) (y : B) → Belong x y → P y) → (xs : List A) (ys : List B) → Pairwise Belong xs ys
    → AllByRecursion P ys
pairwise_other Belong P each xs [] h = tt
pairwise_other Belong P each [] (y ∷ ys) h = absurd h
pairwise_other Belong P each (x ∷ xs) (y ∷ ys) h =
    (each x y h.0, pairwise_other Belong P each xs ys h.1)

pub increment_fits : (width minimum k x : ℕ) (v : Raw) → HasIncrement width minimum k x v
    → x < 2 ^ k
increment_fits width minimum k x v (above below room is) = omega (arith, below)
increment_fits width minimum k x v (missing ones is) = omega (arith, ones)

pub increments_fit : (width minimum k : ℕ) (xs : List ℕ) (vs : List Raw)
    → Pairwise (HasIncrement width minimum k) xs vs → AllByRecursion (λ x. x < 2 ^ k) xs
increments_fit width minimum k xs vs h =
    pairwise_each (HasIncrement width minimum k) (λ x. x < 2 ^ k) (increment_fits width minimum k)
    xs vs h

pub replicated : (v : Raw) (vs : List Raw) → AllByRecursion (λ w. w ≡ v) vs
    → replicate (length vs) v ≡ vs
replicated v [] all = refl
replicated v (w ∷ vs) all =
    let others = replicated v vs all.1 in
    λ i. sym all.0 i ∷ others i

pub head_read : (spec : Spec) (front : List Bool) (minimum : Raw) (k : ℕ) (rest : List Bool)
    → Heads spec front minimum k rest → raw_at spec front ≡ Some (minimum, bin 6 k ++ rest)
head_read spec front minimum k rest h =
    ap (raw_at spec) h.spelt
    ∙ raw_again spec.kind spec.width minimum (bin 6 k ++ rest) (form_passes spec minimum h.form)

pub head_at : (n i : ℕ) (spec : Spec) (front : List Bool) (minimum : Raw) (k : ℕ) (rest : List Bool)
    → Heads spec front minimum k rest → column_at n i spec front ≡ values_at n i spec minimum k rest
head_at n i spec front minimum k rest h =
    rw (head_read spec front minimum k rest h, number_at-bin 6 k rest h.few) refl

pub regrouped : (a b c rest : List Bool) → (a ++ b ++ c) ++ rest ≡ a ++ (b ++ (c ++ rest))
regrouped a b c rest = append_assoc (a ++ b) c rest ∙ append_assoc a b (c ++ rest)

pub column_again : (n i : ℕ) (spec : Spec) (values : List Raw) (column rest : List Bool)
    → length values ≡ n → IsColumn spec values column
    → column_at n i spec (column ++ rest) ≡ Ok (values, rest)
column_again n i spec values column rest many (equal minimum form same is) =
    let front : column ++ rest ≡ raw_bits spec.width minimum ++ (bin 6 0 ++ rest) =
    ap (λ xs. xs ++ rest) is ∙ append_assoc (raw_bits spec.width minimum) (bin 6 0) rest in
    let all : replicate n minimum ≡ values =
    ap (λ k. replicate k minimum) (sym many) ∙ replicated minimum values same in
    head_at n i spec (column ++ rest) minimum 0 rest
    (record { form = form; few = omega arith; spelt = front }) ∙ ap (λ vs. Ok (vs, rest)) all
column_again n i spec values column rest many
    (number_column minimum zero increments form some few each is) = absurd (omega (arith, some))
column_again n i spec values column rest many
    (number_column minimum (suc k) increments form some few each is) =
    let front : column ++ rest ≡ bin spec.width minimum
    ++ (bin 6 (suc k) ++ (flat_map (bin (suc k)) increments ++ rest)) =
    ap (λ xs. xs ++ rest) is
    ∙ regrouped (bin spec.width minimum) (bin 6 (suc k))
    (flat_map (bin (suc k)) increments) rest in
    let size : length increments ≡ n = pairwise_length _ increments values each ∙ many in
    head_at n i spec (column ++ rest) (Number minimum) (suc k)
    (flat_map (bin (suc k)) increments ++ rest)
    (record { form = form; few = few; spelt = front })
    ∙ rw (
      numbers_at_again (suc k) n increments rest size
          (increments_fit spec.width minimum (suc k) increments values each),
      all_raised_again 1 i spec.width minimum (suc k) increments values each,
    ) refl
column_again n i spec values column rest many
    (text_column ignored zero own form some few short each is) = absurd (omega (arith, some))
column_again n i spec values column rest many
    (text_column ignored (suc k) own form some few short each is) =
    let front : column ++ rest ≡ bits ignored ++ (bin 6 (suc k) ++ (flat_map bits own ++ rest)) =
    ap (λ xs. xs ++ rest) is ∙ regrouped (bits ignored) (bin 6 (suc k)) (flat_map bits own) rest in
    let size : n ≡ length own = sym many ∙ sym (pairwise_length _ own values each) in
    let room : ltb (spec.width / 8) (suc k) ≡ false = le-ltb _ _ short in
    let octets = pairwise_each (HasText (spec.width / 8) (suc k))
    (λ t. (length t ≡ suc k) × AllByRecursion (λ x. x < 256) t)
    (text_octets (spec.width / 8) (suc k)) own values each in
    head_at n i spec (column ++ rest) (Text ignored) (suc k) (flat_map bits own ++ rest)
    (record { form = form; few = few; spelt = front })
    ∙ rw (
      room,
      size,
      texts_again (suc k) own rest octets,
      all_filled_again (spec.width / 8)
          (suc k) own values each,
    ) refl

pub or_ends_ok : {A : Type 0} (i : ℕ) (o : Option A) (x : A) → or_ends i o ≡ Ok x → o ≡ Some x
or_ends_ok i None x e = absurd cc
or_ends_ok i (Some y) x e = ap (λ z. Some z) (ok_is _ _ e)

-- n values, and the bits of their column
abbrev pub ColumnFound : ℕ → Spec → List Bool → List Raw × List Bool → Type 0
ColumnFound n spec front x =
    (column : List Bool) × (length x.0 ≡ n) × IsColumn spec x.0 column × (front ≡ column ++ x.1)

ungrouped : (front a b c rest : List Bool) → front ≡ a ++ (b ++ (c ++ rest))
    → front ≡ (a ++ b ++ c) ++ rest
ungrouped front a b c rest e = e ∙ sym (regrouped a b c rest)

values_found : (n i : ℕ) (spec : Spec) (front : List Bool) (minimum : Raw) (k : ℕ)
    (rest : List Bool) (x : List Raw × List Bool) → Heads spec front minimum k rest
    → values_at n i spec minimum k rest ≡ Ok x → ColumnFound n spec front x
values_found n i spec front minimum zero rest x h e =
    let all = all_replicated (λ v. v ≡ minimum) n minimum refl in
    let spelt : front ≡ (raw_bits spec.width minimum ++ bin 6 0) ++ rest =
    h.spelt ∙ sym (append_assoc (raw_bits spec.width minimum) (bin 6 0) rest) in
    subst (λ p. ColumnFound n spec front p) (ok_is _ _ e) (
      raw_bits spec.width minimum ++ bin 6 0,
      length-replicate n minimum,
      equal minimum h.form all refl,
      spelt,
    )
values_found n i spec front (Number minimum) (suc k) rest x h e =
    let a = bind_ok (or_ends i (numbers_at n (suc k) rest)) _ x e in
    let increments = a.0 in
    let b = bind_ok (all_raised 1 i spec.width minimum (suc k) increments.0) _ x a.2 in
    let is =
    numbers_at_found n (suc k) rest increments
    (or_ends_ok i (numbers_at n (suc k) rest) increments a.1) in
    let each = all_raised_found 1 i spec.width minimum (suc k) increments.0 b.0 is.1 b.1 in
    let column = bin spec.width minimum ++ bin 6 (suc k) ++ flat_map (bin (suc k)) increments.0 in
    let spelt : front ≡ column ++ increments.1 =
    ungrouped front (bin spec.width minimum) (bin 6 (suc k))
    (flat_map (bin (suc k)) increments.0) increments.1
    (h.spelt ∙ ap (λ xs. bin spec.width minimum ++ (bin 6 (suc k) ++ xs)) is.2) in
    subst (λ p. ColumnFound n spec front p) (ok_is _ _ b.2) (
      column,
      sym (pairwise_length _ increments.0 b.0 each) ∙ is.0,
      number_column minimum (suc k) increments.0 h.form (omega arith) h.few each refl,
      spelt,
    )
values_found n i spec front (Text ignored) (suc k) rest x h e =
    let g = guard_ok (nat_lt (spec.width / 8) (suc k)) _ _ x e in
    let a = bind_ok (or_ends i (texts_at n (suc k) rest)) _ x g.1 in
    let own = a.0 in
    let is = texts_at_found n (suc k) rest own (or_ends_ok i (texts_at n (suc k) rest) own a.1) in
    let each = all_filled_found (spec.width / 8) (suc k) own.0 is.1 in
    let column = bits ignored ++ bin 6 (suc k) ++ flat_map bits own.0 in
    let spelt : front ≡ column ++ own.1 =
    ungrouped front (bits ignored) (bin 6 (suc k)) (flat_map bits own.0) own.1
    (h.spelt ∙ ap (λ xs. bits ignored ++ (bin 6 (suc k) ++ xs)) is.2) in
    subst (λ p. ColumnFound n spec front p) (ok_is _ _ a.2) (
      column,
      length-map own.0 (filled (spec.width / 8)) ∙ is.0,
      text_column ignored (suc k) own.0 h.form (omega arith) h.few (ltb-false _ _ g.0) each refl,
      spelt,
    )

pub heads_found : (spec : Spec) (front : List Bool) (x : Raw × List Bool) (y : ℕ × List Bool)
    → raw_at spec front ≡ Some x → number_at 6 x.1 ≡ Some y → Heads spec front x.0 y.0 y.1
heads_found spec front x y first second =
    let a = raw_read spec.kind spec.width front x first in
    let b = number_at_is 6 y.0 x.1 y.1 second in
    record {
      form = form_is spec x.0 a.0;
      few = b.1;
      spelt = a.1 ∙ ap (λ xs. raw_bits spec.width x.0 ++ xs) b.0;
    }

pub column_found : (n i : ℕ) (spec : Spec) (front : List Bool) (x : List Raw × List Bool)
    → column_at n i spec front ≡ Ok x → ColumnFound n spec front x
column_found n i spec front x e =
    let a = bind_ok (or_ends i (raw_at spec front)) _ x e in
    let b = bind_ok (or_ends i (number_at 6 a.0.1)) _ x a.2 in
    let head = heads_found spec front a.0 b.0 (or_ends_ok i (raw_at spec front) a.0 a.1)
    (or_ends_ok i (number_at 6 a.0.1) b.0 b.1) in
    values_found n i spec front a.0.0 b.0.0 b.0.1 x head b.2

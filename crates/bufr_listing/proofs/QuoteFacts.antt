-- Words for values, and octets that appear as themselves between quotes: for `push_value` and
-- `push_quoted`.
use Rattle.std.proofs.Common.{◌≡◌, ℕ, List, [], ◌∷◌, ◌++◌, refl, ap, sym, ◌∙◌, Result, Ok, Err, OnOk}
use Rattle.std.proofs.Common.{codes, append_assoc}
use Rattle.std.specs.Prelude.{Bool, true, false, ◌&&◌, if◌then◌else◌, is_ok, Option, Some, None}
use Rattle.std.specs.List.{flat_map, list_all}
use Rattle.bufr_tables.specs.declared.element.Kind.{Kind}
use Rattle.bufr_tables.specs.declared.element.Kind.TheVariants as kinds
use Rattle.bufr_fields.specs.declared.field.Raw.{Raw}
use Rattle.bufr_fields.specs.declared.field.Raw.TheVariants.{Number, Text}
use Rattle.bufr_fields.specs.declared.field.Field.{Field}
use Rattle.bufr_fields.specs.declared.field.Decimal.{Decimal}
use Rattle.bufr_fields.specs.Values.{is_missing, value, value_by, text_of}
use Rattle.bufr_listing.specs.Listings.{is_literal, quoted_octet, number_word, raw_word}
use Rattle.bufr_listing.specs.Listings.{value_word}

-- ---- the value of a number

not_missing : (b : Bool) (x : Option Decimal) (d : Decimal)
    → (if b then None else x) ≡ Some d → b ≡ false
not_missing true x d e = absurd cc
not_missing false x d e = refl

second : (b : Bool) (a w : List ℕ) → b ≡ false → (if b then a else w) ≡ w
second true a w h = absurd cc
second false a w h = refl

word_by : (kind : Kind) (raw : Raw) (f : Field) (d : Decimal) → value_by kind raw f ≡ Some d
    → value f ≡ Some d → (if is_missing f then codes "missing" else raw_word f raw) ≡ text_of d
word_by kinds.Text raw f d e v = absurd cc
word_by kinds.Code (Text os) f d e v = absurd cc
word_by kinds.Flag (Text os) f d e v = absurd cc
word_by kinds.Quantity (Text os) f d e v = absurd cc
word_by kinds.Count (Text os) f d e v = absurd cc
word_by kinds.Code (Number n) f d e v =
    second (is_missing f) (codes "missing") (number_word (value f))
    (not_missing (is_missing f) _ d e) ∙ ap number_word v
word_by kinds.Flag (Number n) f d e v =
    second (is_missing f) (codes "missing") (number_word (value f))
    (not_missing (is_missing f) _ d e) ∙ ap number_word v
word_by kinds.Quantity (Number n) f d e v =
    second (is_missing f) (codes "missing") (number_word (value f))
    (not_missing (is_missing f) _ d e) ∙ ap number_word v
word_by kinds.Count (Number n) f d e v =
    second (is_missing f) (codes "missing") (number_word (value f))
    (not_missing (is_missing f) _ d e) ∙ ap number_word v

-- the word for a field with a value is the value's digits
pub word_of_value : (f : Field) (d : Decimal) → value f ≡ Some d → value_word f ≡ text_of d
word_of_value f d e = word_by f.spec.kind f.raw f d e e

-- ---- characters

both_first : (a b : Bool) → (a && b) ≡ true → a ≡ true
both_first true b h = refl
both_first false b h = absurd cc

both_second : (a b : Bool) → (a && b) ≡ true → b ≡ true
both_second true b h = h
both_second false b h = absurd cc

printed_itself : (c : ℕ) → is_literal c ≡ true → quoted_octet c ≡ c ∷ []
printed_itself c h = rw h refl

-- octets that all appear as themselves need no change
pub printed_themselves : (octets : List ℕ) → list_all is_literal octets ≡ true
    → flat_map quoted_octet octets ≡ octets
printed_themselves [] h = refl
printed_themselves (c ∷ cs) h =
    let first = both_first (is_literal c) (list_all is_literal cs) h in
    let rest = both_second (is_literal c) (list_all is_literal cs) h in
    (λ i. printed_itself c first i ++ printed_themselves cs rest i)

pub between_quotes : (old first mid octets printed : List ℕ) → octets ≡ printed
    → first ≡ old ++ 34 ∷ [] → mid ≡ first ++ octets
    → mid ++ 34 ∷ 10 ∷ [] ≡ old ++ ((34 ∷ printed ++ 34 ∷ []) ++ 10 ∷ [])
between_quotes old first mid octets printed same p q =
    (λ i. (q ∙ (λ j. p j ++ same j)) i ++ 34 ∷ 10 ∷ [])
    ∙ append_assoc (old ++ 34 ∷ []) printed (34 ∷ 10 ∷ [])
    ∙ append_assoc old (34 ∷ []) (printed ++ 34 ∷ 10 ∷ [])
    ∙ ap (λ z. old ++ 34 ∷ z) (sym (append_assoc printed (34 ∷ []) (10 ∷ [])))

pub on_ok_same : {A E : Type 0} (r : Result A E) (new a b c : List ℕ)
    → new ≡ (if is_ok r then a else b) → a ≡ c → OnOk r (new ≡ c)
on_ok_same (Ok x) new a b c e f = e ∙ f
on_ok_same (Err x) new a b c e f = tt

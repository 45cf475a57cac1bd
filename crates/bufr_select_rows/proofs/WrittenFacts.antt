-- Digits and octets written from their end: the contracts of `written`.
use Rattle.std.proofs.Common.{◌≡◌, ℕ, List, [], ◌++◌}
use Rattle.bufr_listing.specs.DecimalLaws.{value_other}
use Rattle.std.proofs.Common.{Option, Some, None, IfSome, drop, sym, ap, ◌∙◌}
use Rattle.std.proofs.Common.{cond, subst}
use Rattle.std.specs.Prelude.{◌+ℤ◌, pos, Bool, true, false, refl}
use Rattle.bufr_fields.specs.Values.{as_field, decimal_within, is_missing, value}
use Rattle.bufr_fields.specs.declared.field.NumberField.{NumberField}
use Rattle.bufr_listing.specs.Listings.{number_word}
use Rattle.bufr_select_rows.specs.Values.{shown_value}
use Rattle.bufr_tables.specs.declared.element.Kind.TheVariants as kinds

-- what holds of an index holds of a text that is the same
pub some_then : {A : Type 0} (found : Option A) (P Q : A → Type 0) → ((x : A) → P x → Q x)
    → IfSome found P → IfSome found Q
some_then (Some x) P Q next known = next x known
some_then None P Q next known = tt

pub text_same : (found : Option ℕ) (row a b after : List ℕ) → a ≡ b
    → IfSome found (λ start. drop start row ≡ a ++ after)
    → IfSome found (λ start. drop start row ≡ b ++ after)
text_same found row a b after same known =
    subst (λ (t : List ℕ). IfSome found (λ start. drop start row ≡ t ++ after)) same known

-- a number that is there
pub number_shown : (f : NumberField) → (f.spec.kind ≡ kinds.Text → ⊥)
    → is_missing (as_field f) ≡ false
    → number_word (decimal_within (pos f.number +ℤ f.spec.reference) f.spec.scale)
    ≡ shown_value (as_field f)
number_shown f other there =
    ap number_word (sym (value_other f.spec.kind f.number (as_field f) other there))
    ∙ ap (λ b. cond b [] (number_word (value (as_field f)))) (sym there)

-- a number of a text has no value
pub none_shown : (f : NumberField) → f.spec.kind ≡ kinds.Text → shown_value (as_field f) ≡ []
none_shown f is = by (is_missing (as_field f))
  where
    by : (b : Bool) → cond b [] (number_word (value (as_field f))) ≡ []
    by true = refl
    by false = rw is refl

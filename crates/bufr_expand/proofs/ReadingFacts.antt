-- The meaning of a descriptor, or its fault, as facts in place of tests.
use Rattle.std.proofs.Common.{◌≡◌, ◌≢◌, inl, inr, ℕ, zero, suc, ◌+◌, ◌<◌, ◌≤◌, Bool, true, eqb}
use Rattle.std.proofs.Common.{ltb, leb, ◌==◌, ◌&&◌, ◌||◌, not, List, [], ◌∷◌, length, take, Option}
use Rattle.std.proofs.Common.{Some, None, Ok, Err, pos, negsuc, ℤ, refl, ap, subst, ◌∙◌, arith}
use Rattle.std.specs.Bool.{Decides}
use Rattle.std.proofs.lemmas.Bool.{ltb-true, ltb-false, leb-true, le-leb, eqb-true, eqb-false}
use Rattle.std.proofs.lemmas.Bool.{or_cases, not-true, not-false, both_ways, cond_both}
use Rattle.std.proofs.lemmas.Bool.Decides.{Decides-and, Decides-not, Decides-like, not_from_Decides}
use Rattle.bufr_tables.specs.declared.element.Element.{Element}
use Rattle.bufr_tables.specs.declared.element.Kind.{Kind}
use Rattle.bufr_tables.specs.declared.element.Kind.TheVariants as kinds
use Rattle.bufr_tables.specs.Descriptors.{f_of, x_of, y_of, descriptor}
use Rattle.bufr_tables.specs.Elements.{same_kind, same_integer}
use Rattle.bufr_tables.specs.Entries.{Entries, element, sequence}
use Rattle.bufr_expand.specs.Limits.{most_factor_bits, most_number_bits}
use Rattle.bufr_expand.specs.declared.node.Node.TheVariants as nodes
use Rattle.bufr_expand.specs.declared.node.Repetitions.TheVariants as repetitions
use Rattle.bufr_expand.specs.declared.node.TemplateFault.{TemplateFault}
use Rattle.bufr_expand.specs.Expansion.{Part, single, inner, replication, FirstPart, Finding}
use Rattle.bufr_expand.specs.Expansion.{found_at, found_by, element_found, sequence_found}
use Rattle.bufr_expand.specs.Expansion.{repeated_found, is_factor_row, factor_found, delayed_found}
use Rattle.bufr_expand.specs.Expansion.{replication_found, text_of_characters, number_found}
use Rattle.bufr_expand.specs.Expansion.{local_found, width_found, stays_in_force, operator_found}
use Rattle.bufr_expand.specs.Flat.{StaysInForce, IsFactor, IsCountRow, ReadAt, by_row, as_number}
use Rattle.bufr_expand.specs.FirstFaults.{HasNoCase, unknown_element, unknown_sequence}
use Rattle.bufr_expand.specs.FirstFaults.{unsupported_operator, replicates_none, without_factor}
use Rattle.bufr_expand.specs.FirstFaults.{not_a_factor, factor_without_row, factor_without_count}
use Rattle.bufr_expand.specs.FirstFaults.{too_few_left, too_few_behind_factor, no_text, no_width}
use Rattle.bufr_expand.specs.FirstFaults.{width_of_nothing, width_of_no_element, too_wide}

-- the meaning of a descriptor by cases, and the number of descriptors that it takes
pub data IsRead : Entries → ℕ → List ℕ → Part → ℕ → Type 0 where
  an_element : {tables : Entries} {d : ℕ} {behind : List ℕ} {e : Element} → f_of d ≡ 0
      → element tables d ≡ Some e → IsRead tables d behind (single (nodes.Element d e)) 0
  an_operator : {tables : Entries} {d : ℕ} {behind : List ℕ} → f_of d ≡ 2 → StaysInForce (x_of d)
      → IsRead tables d behind (single (nodes.Operator d)) 0
  a_text : {tables : Entries} {d : ℕ} {behind : List ℕ} → f_of d ≡ 2 → x_of d ≡ 5 → 0 < y_of d
      → IsRead tables d behind (single (nodes.Untouched d (text_of_characters (y_of d)))) 0
  a_width : {tables : Entries} {d local : ℕ} {behind : List ℕ} {e : Element} → f_of d ≡ 2
      → x_of d ≡ 6 → 0 < y_of d → f_of local ≡ 0 → ReadAt tables local (y_of d) e
      → IsRead tables d (local ∷ behind) (single (nodes.Untouched local e)) 1
  a_sequence : {tables : Entries} {d : ℕ} {behind list : List ℕ} → 3 ≤ f_of d
      → sequence tables d ≡ Some list → IsRead tables d behind (inner list) 0
  a_repeated : {tables : Entries} {d : ℕ} {behind : List ℕ} → f_of d ≡ 1 → 0 < x_of d → 0 < y_of d
      → x_of d ≤ length behind → IsRead tables d behind
      (replication (repetitions.Times (y_of d)) (take (x_of d) behind)) (x_of d)
  a_delayed : {tables : Entries} {d factor : ℕ} {behind : List ℕ} {e : Element} → f_of d ≡ 1
      → 0 < x_of d → y_of d ≡ 0 → IsFactor factor → element tables factor ≡ Some e → IsCountRow e
      → x_of d ≤ length behind → IsRead tables d (factor ∷ behind)
      (replication (repetitions.Factor factor e) (take (x_of d) behind)) (x_of d + 1)

decides_text : (k : Kind) → Decides (same_kind k kinds.Text) (k ≡ kinds.Text)
decides_text kinds.Text = (λ h. refl, λ e. refl)
decides_text _ = (λ h. cc, λ e. cc)

decides_zero : (z : ℤ) → Decides (same_integer z (pos 0)) (z ≡ pos 0)
decides_zero (pos n) = (λ h. ap pos (eqb-true n 0 h), λ e. ap (λ z. same_integer z (pos 0)) e)
decides_zero (negsuc n) = (λ h. cc, λ e. cc)

pub decides_count : (e : Element) → Decides (is_factor_row e) (IsCountRow e)
decides_count e =
    Decides-like (is_factor_row e) (λ h. (h.0.0.0.0, h.0.0.0.1, h.0.0.1, h.0.1, h.1))
    (λ h. ((((h.0, h.1), h.2), h.3), h.4))
    (Decides-and _ _ (Decides-and _ _ (Decides-and _ _
    (Decides-and _ _ (Decides-not _ (decides_text e.kind)) (decides_zero e.scale))
    (decides_zero e.reference)) (leb-true 1 e.width, le-leb 1 e.width))
    (leb-true e.width most_factor_bits, le-leb e.width most_factor_bits))

-- the test of a factor
unfoldable pub is_factor : ℕ → Bool
is_factor factor = leb (descriptor 0 31 0) factor && leb factor (descriptor 0 31 2)

pub decides_factor : (factor : ℕ) → Decides (is_factor factor) (IsFactor factor)
unfolding is_factor
decides_factor factor = Decides-and _ _ (leb-true _ _, le-leb _ _) (leb-true _ _, le-leb _ _)

pub stays_is : (x : ℕ) → stays_in_force x ≡ true → StaysInForce x
stays_is x h =
    elim (or_cases ((x == 1 || x == 2) || x == 7) (x == 8) h) [
      | inl a ↦ elim (or_cases (x == 1 || x == 2) (x == 7) a) [
        | inl b ↦ elim (or_cases (x == 1) (x == 2) b)
            [ inl c ↦ inl (eqb-true x 1 c) | inr c ↦ inr (inl (eqb-true x 2 c)) ]
        | inr b ↦ inr (inr (inl (eqb-true x 7 b)))
      ]
      | inr a ↦ inr (inr (inr (eqb-true x 8 a)))
    ]

pub stays_tells : (x : ℕ) → StaysInForce x → stays_in_force x ≡ true
stays_tells x (inl e) = ap stays_in_force e
stays_tells x (inr (inl e)) = ap stays_in_force e
stays_tells x (inr (inr (inl e))) = ap stays_in_force e
stays_tells x (inr (inr (inr e))) = ap stays_in_force e

IsRight : Entries → ℕ → List ℕ → Finding → Type 0
IsRight tables d behind (Ok next) = IsRead tables d behind next.part next.taken
IsRight tables d behind (Err f) = HasNoCase tables d behind f

right_element : (tables : Entries) (d : ℕ) (behind : List ℕ) (o : Option Element) → f_of d ≡ 0
    → element tables d ≡ o → IsRight tables d behind (element_found d o)
unfolding IsRight
right_element tables d behind None h k = unknown_element h k
right_element tables d behind (Some e) h k = an_element h k

right_sequence : (tables : Entries) (d : ℕ) (behind : List ℕ) (o : Option (List ℕ)) → 3 ≤ f_of d
    → sequence tables d ≡ o → IsRight tables d behind (sequence_found d o)
unfolding IsRight
right_sequence tables d behind None h k = unknown_sequence h k
right_sequence tables d behind (Some list) h k = a_sequence h k

right_repeated : (tables : Entries) (d : ℕ) (behind : List ℕ) → f_of d ≡ 1 → 0 < x_of d
    → 0 < y_of d → IsRight tables d behind (repeated_found d behind)
unfolding IsRight
right_repeated tables d behind f x y =
    cond_both (ltb (length behind) (x_of d)) _ _ (IsRight tables d behind)
    (λ h. too_few_left f y (ltb-true _ _ h)) (λ h. a_repeated f x y (ltb-false _ _ h))

right_delayed : (tables : Entries) (d factor : ℕ) (behind : List ℕ) (o : Option Element)
    → f_of d ≡ 1 → 0 < x_of d → y_of d ≡ 0 → IsFactor factor → element tables factor ≡ o
    → IsRight tables d (factor ∷ behind) (factor_found d factor behind o)
unfolding IsRight
right_delayed tables d factor behind None f x y i k = factor_without_row f x y k
right_delayed tables d factor behind (Some e) f x y i k =
    let row = is_factor_row e in
    cond_both (not row) _ _ (IsRight tables d (factor ∷ behind))
    (λ h. factor_without_count f x y k (not_from_Decides row (decides_count e) (not-true row h)))
    (λ h. let count = (decides_count e).0 (not-false row h) in
    cond_both (ltb (length behind) (x_of d)) _ _ (IsRight tables d (factor ∷ behind))
    (λ g. too_few_behind_factor f y i k count (ltb-true _ _ g))
    (λ g. a_delayed f x y i k count (ltb-false _ _ g)))

right_factor : (tables : Entries) (d : ℕ) (behind : List ℕ) → f_of d ≡ 1 → 0 < x_of d → y_of d ≡ 0
    → IsRight tables d behind (delayed_found tables d behind)
unfolding IsRight is_factor
right_factor tables d [] f x y = without_factor f y
right_factor tables d (factor ∷ behind) f x y =
    cond_both (is_factor factor) (element tables factor) None
    (λ (o : Option Element). IsRight tables d (factor ∷ behind) (factor_found d factor behind o))
    (λ h. right_delayed tables d factor behind (element tables factor) f x y
    ((decides_factor factor).0 h) refl)
    (λ h. not_a_factor f x y (not_from_Decides (is_factor factor) (decides_factor factor) h))

right_replication : (tables : Entries) (d : ℕ) (behind : List ℕ) → f_of d ≡ 1
    → IsRight tables d behind (replication_found tables d behind)
unfolding IsRight
right_replication tables d behind f =
    cond_both (eqb (x_of d) 0) _ _ (IsRight tables d behind)
    (λ h. replicates_none f (eqb-true (x_of d) 0 h))
    (λ h. let x : x_of d ≢ 0 = eqb-false (x_of d) 0 h in
    cond_both (eqb (y_of d) 0) _ _ (IsRight tables d behind)
    (λ g. right_factor tables d behind f (omega arith) (eqb-true (y_of d) 0 g))
    (λ g. let y : y_of d ≢ 0 = eqb-false (y_of d) 0 g in
    right_repeated tables d behind f (omega arith) (omega arith)))

right_number : (tables : Entries) (d local : ℕ) (behind : List ℕ) → f_of d ≡ 2 → x_of d ≡ 6
    → 0 < y_of d → f_of local ≡ 0
    → ((e : Element) → element tables local ≡ Some e → e.width ≢ y_of d)
    → IsRight tables d (local ∷ behind) (number_found d local)
unfolding IsRight
right_number tables d local behind f x y l other =
    cond_both (ltb most_number_bits (y_of d)) _ _ (IsRight tables d (local ∷ behind))
    (λ h. too_wide f x (ltb-true _ _ h) l other)
    (λ h. a_width f x y l (as_number other (ltb-false _ _ h)))

right_local : (tables : Entries) (d local : ℕ) (behind : List ℕ) (o : Option Element) → f_of d ≡ 2
    → x_of d ≡ 6 → 0 < y_of d → f_of local ≡ 0 → element tables local ≡ o
    → IsRight tables d (local ∷ behind) (local_found d local o)
unfolding IsRight
right_local tables d local behind None f x y l k =
    right_number tables d local behind f x y l (λ e h. absurd (cc))
right_local tables d local behind (Some e) f x y l k =
    cond_both (eqb e.width (y_of d)) _ _ (IsRight tables d (local ∷ behind))
    (λ h. a_width f x y l (by_row k (eqb-true e.width (y_of d) h)))
    (λ h. right_number tables d local behind f x y l
    (λ g q w. let same : e ≡ g = cc in
    eqb-false e.width (y_of d) h (ap (λ (a : Element). a.width) same ∙ w)))

right_width : (tables : Entries) (d : ℕ) (behind : List ℕ) → f_of d ≡ 2 → x_of d ≡ 6 → 0 < y_of d
    → IsRight tables d behind (width_found tables d behind)
unfolding IsRight
right_width tables d [] f x y = width_of_nothing f x y
right_width tables d (local ∷ behind) f x y =
    cond_both (eqb (f_of local) 0) _ _ (IsRight tables d (local ∷ behind))
    (λ h. right_local tables d local behind (element tables local) f x y
    (eqb-true (f_of local) 0 h) refl)
    (λ h. width_of_no_element f x y (eqb-false (f_of local) 0 h))

right_operator : (tables : Entries) (d : ℕ) (behind : List ℕ) → f_of d ≡ 2
    → IsRight tables d behind (operator_found tables d behind)
unfolding IsRight
right_operator tables d behind f =
    let P : Finding → Type 0 = IsRight tables d behind in
    cond_both (stays_in_force (x_of d)) _ _ P (λ h. an_operator f (stays_is (x_of d) h))
    (λ h. cond_both (eqb (x_of d) 5) _ _ P
    (λ g. cond_both (eqb (y_of d) 0) _ _ P
    (λ k. no_text f (eqb-true (x_of d) 5 g) (eqb-true (y_of d) 0 k))
    (λ k. let y : y_of d ≢ 0 = eqb-false (y_of d) 0 k in
    a_text f (eqb-true (x_of d) 5 g) (omega arith)))
    (λ g. cond_both (eqb (x_of d) 6) _ _ P
    (λ q. cond_both (eqb (y_of d) 0) _ _ P
    (λ k. no_width f (eqb-true (x_of d) 6 q) (eqb-true (y_of d) 0 k))
    (λ k. let y : y_of d ≢ 0 = eqb-false (y_of d) 0 k in
    right_width tables d behind f (eqb-true (x_of d) 6 q) (omega arith)))
    (λ q. unsupported_operator f (λ s. both_ways (stays_in_force (x_of d)) h
    (stays_tells (x_of d) s)) (eqb-false (x_of d) 5 g) (eqb-false (x_of d) 6 q))))

right_by : (f : ℕ) (tables : Entries) (d : ℕ) (behind : List ℕ) → f_of d ≡ f
    → IsRight tables d behind (found_by f tables d behind)
right_by zero tables d behind h = right_element tables d behind (element tables d) h refl
right_by (suc zero) tables d behind h = right_replication tables d behind h
right_by (suc (suc zero)) tables d behind h = right_operator tables d behind h
right_by (suc (suc (suc f))) tables d behind h =
    right_sequence tables d behind (sequence tables d) (omega arith) refl

pub reads : (tables : Entries) (d : ℕ) (behind : List ℕ) (next : FirstPart)
    → found_at tables d behind ≡ Ok next → IsRead tables d behind next.part next.taken
unfolding IsRight
reads tables d behind next e = subst (IsRight tables d behind) e
    (right_by (f_of d) tables d behind refl)

pub has_no_case : (tables : Entries) (d : ℕ) (behind : List ℕ) (f : TemplateFault)
    → found_at tables d behind ≡ Err f → HasNoCase tables d behind f
unfolding IsRight
has_no_case tables d behind f e = subst (IsRight tables d behind) e
    (right_by (f_of d) tables d behind refl)

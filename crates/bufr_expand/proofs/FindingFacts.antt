-- `found_at` finds what `IsRead` says, and a fault exactly if the list begins no tree.
use Rattle.std.proofs.Common.{◌≡◌, ◌≢◌, ℕ, suc, ◌+◌, ◌-◌, ◌<◌, ◌≤◌, false, cond, eqb, ltb, not}
use Rattle.std.proofs.Common.{List, [], ◌∷◌, length, take, Option, Some, None, Err, refl, ap}
use Rattle.std.proofs.Common.{◌∙◌, arith}
use Rattle.std.proofs.lemmas.Bool.{lt-ltb, le-ltb, eq-eqb, ne_eqb, not_from_false, not_from_true}
use Rattle.std.proofs.lemmas.Bool.{false_from_ne_true, cond_both, cond-true, cond-false}
use Rattle.bufr_tables.specs.declared.element.Element.{Element}
use Rattle.bufr_tables.specs.Descriptors.{f_of, x_of, y_of}
use Rattle.bufr_tables.specs.Entries.{Entries, element, sequence}
use Rattle.bufr_expand.specs.Limits.{most_number_bits}
use Rattle.bufr_expand.specs.declared.node.Node.TheVariants as nodes
use Rattle.bufr_expand.specs.declared.node.Repetitions.TheVariants as repetitions
use Rattle.bufr_expand.specs.declared.node.TemplateFault.{TemplateFault}
use Rattle.bufr_expand.specs.declared.node.TemplateFault.TheVariants.{UnsupportedOperator}
use Rattle.bufr_expand.specs.declared.node.TemplateFault.TheVariants.{BadReplication, BadFactor}
use Rattle.bufr_expand.specs.declared.node.TemplateFault.TheVariants.{BadOperand}
use Rattle.bufr_expand.specs.Expansion.{Part, single, replication, Finding, found, found_at}
use Rattle.bufr_expand.specs.Expansion.{found_by, element_found, sequence_found, repeated_found}
use Rattle.bufr_expand.specs.Expansion.{is_factor_row, factor_found, delayed_found}
use Rattle.bufr_expand.specs.Expansion.{number_found, local_found, width_found, text_found}
use Rattle.bufr_expand.specs.Expansion.{stays_in_force, with_operand}
use Rattle.bufr_expand.specs.Flat.{IsFactor, IsCountRow, ReadAt, by_row, as_number}
use Rattle.bufr_expand.specs.FirstFaults.{HasNoCase, unknown_element, unknown_sequence}
use Rattle.bufr_expand.specs.FirstFaults.{unsupported_operator, replicates_none, without_factor}
use Rattle.bufr_expand.specs.FirstFaults.{not_a_factor, factor_without_row, factor_without_count}
use Rattle.bufr_expand.specs.FirstFaults.{too_few_left, too_few_behind_factor, no_text, no_width}
use Rattle.bufr_expand.specs.FirstFaults.{width_of_nothing, width_of_no_element, too_wide}
use Rattle.bufr_expand.proofs.ReadingFacts.{IsRead, an_element, an_operator, a_text, a_width}
use Rattle.bufr_expand.proofs.ReadingFacts.{a_sequence, a_repeated, a_delayed, decides_count}
use Rattle.bufr_expand.proofs.ReadingFacts.{is_factor, decides_factor, stays_is, stays_tells}

element_is : (tables : Entries) (d : ℕ) (behind : List ℕ) (o : Option Element) → f_of d ≡ 0
    → element tables d ≡ o → found_at tables d behind ≡ element_found d o
element_is tables d behind o f k =
    ap (λ (n : ℕ). found_by n tables d behind) f ∙ ap (element_found d) k

sequence_is : (tables : Entries) (d : ℕ) (behind : List ℕ) (o : Option (List ℕ)) → 3 ≤ f_of d
    → sequence tables d ≡ o → found_at tables d behind ≡ sequence_found d o
sequence_is tables d behind o f k =
    let three : f_of d ≡ suc (suc (suc (f_of d - 3))) = omega arith in
    ap (λ (n : ℕ). found_by n tables d behind) three ∙ ap (sequence_found d) k

-- an operator by its X
abbrev operator_by : Entries → ℕ → List ℕ → ℕ → Finding
operator_by tables d behind x =
    cond (stays_in_force x) (found (single (nodes.Operator d)) 0)
    (cond (eqb x 5) (with_operand d (text_found d))
    (cond (eqb x 6) (with_operand d (width_found tables d behind)) (Err (UnsupportedOperator d))))

operator_is : (tables : Entries) (d x : ℕ) (behind : List ℕ) → f_of d ≡ 2 → x_of d ≡ x
    → found_at tables d behind ≡ operator_by tables d behind x
operator_is tables d x behind f e = ap (λ (n : ℕ). found_by n tables d behind) f
    ∙ ap (operator_by tables d behind) e

with_some : (d : ℕ) (m : Finding) → 0 < y_of d → with_operand d m ≡ m
with_some d m y = cond-false (eqb (y_of d) 0) _ _ (ne_eqb (y_of d) 0 (λ e. omega arith))

with_none : (d : ℕ) (m : Finding) → y_of d ≡ 0 → with_operand d m ≡ Err (BadOperand d)
with_none d m y = cond-true (eqb (y_of d) 0) _ _ (eq-eqb (y_of d) 0 y)

width_is : (tables : Entries) (d : ℕ) (behind : List ℕ) → f_of d ≡ 2 → x_of d ≡ 6 → 0 < y_of d
    → found_at tables d behind ≡ width_found tables d behind
width_is tables d behind f x y = operator_is tables d 6 behind f x ∙ with_some d _ y

local_is : (tables : Entries) (d local : ℕ) (behind : List ℕ) → f_of d ≡ 2 → x_of d ≡ 6
    → 0 < y_of d → f_of local ≡ 0
    → found_at tables d (local ∷ behind) ≡ local_found d local (element tables local)
local_is tables d local behind f x y l =
    width_is tables d (local ∷ behind) f x y
    ∙ cond-true (eqb (f_of local) 0) _ _ (eq-eqb (f_of local) 0 l)

number_is : (d local : ℕ) (o : Option Element) → ((e : Element) → o ≡ Some e → e.width ≢ y_of d)
    → local_found d local o ≡ number_found d local
number_is d local None h = refl
number_is d local (Some e) h =
    cond-false (eqb e.width (y_of d)) _ _ (ne_eqb e.width (y_of d) (h e refl))

replication_is : (tables : Entries) (d : ℕ) (behind : List ℕ) → f_of d ≡ 1 → 0 < x_of d
    → found_at tables d behind
    ≡ cond (eqb (y_of d) 0) (delayed_found tables d behind) (repeated_found d behind)
replication_is tables d behind f x =
    ap (λ (n : ℕ). found_by n tables d behind) f
    ∙ cond-false (eqb (x_of d) 0) _ _ (ne_eqb (x_of d) 0 (λ e. omega arith))

repeated_is : (tables : Entries) (d : ℕ) (behind : List ℕ) → f_of d ≡ 1 → 0 < x_of d → 0 < y_of d
    → found_at tables d behind ≡ repeated_found d behind
repeated_is tables d behind f x y =
    replication_is tables d behind f x
    ∙ cond-false (eqb (y_of d) 0) _ _ (ne_eqb (y_of d) 0 (λ e. omega arith))

delayed_is : (tables : Entries) (d factor : ℕ) (behind : List ℕ) → f_of d ≡ 1 → 0 < x_of d
    → y_of d ≡ 0 → found_at tables d (factor ∷ behind) ≡ delayed_found tables d (factor ∷ behind)
delayed_is tables d factor behind f x y =
    replication_is tables d (factor ∷ behind) f x
    ∙ cond-true (eqb (y_of d) 0) _ _ (eq-eqb (y_of d) 0 y)

row_is : (tables : Entries) (d factor : ℕ) (behind : List ℕ) (o : Option Element) → IsFactor factor
    → element tables factor ≡ o
    → delayed_found tables d (factor ∷ behind) ≡ factor_found d factor behind o
unfolding is_factor
row_is tables d factor behind o i k =
    ap (factor_found d factor behind) (cond-true (is_factor factor) (element tables factor) None
    ((decides_factor factor).1 i) ∙ k)

count_is : (d factor : ℕ) (e : Element) (behind : List ℕ) → IsCountRow e
    → factor_found d factor behind (Some e)
    ≡ cond (ltb (length behind) (x_of d)) (Err (BadReplication d))
    (found (replication (repetitions.Factor factor e) (take (x_of d) behind)) (x_of d + 1))
count_is d factor e behind c =
    cond-false (not (is_factor_row e)) _ _ (not_from_true (is_factor_row e) ((decides_count e).1 c))

element_behind : (tables : Entries) (d local : ℕ) (e : Element) → ReadAt tables local (y_of d) e
    → local_found d local (element tables local) ≡ found (single (nodes.Untouched local e)) 1
element_behind tables d local e (by_row k w) =
    ap (local_found d local) k ∙ cond-true (eqb e.width (y_of d)) _ _ (eq-eqb e.width (y_of d) w)
element_behind tables d local e (as_number h small) =
    number_is d local (element tables local) h
    ∙ cond-false (ltb most_number_bits (y_of d)) _ _ (le-ltb most_number_bits (y_of d) small)

pub found_is : (tables : Entries) (d : ℕ) (behind : List ℕ) (part : Part) (taken : ℕ)
    → IsRead tables d behind part taken → found_at tables d behind ≡ found part taken
found_is tables d behind part taken (an_element {e} f k) = element_is tables d behind (Some e) f k
found_is tables d behind part taken (an_operator f x) =
    operator_is tables d (x_of d) behind f refl
    ∙ cond-true (stays_in_force (x_of d)) _ _ (stays_tells (x_of d) x)
found_is tables d behind part taken (a_text f x y) =
    operator_is tables d 5 behind f x ∙ with_some d (text_found d) y
found_is tables d (local ∷ behind) part taken (a_width f x y l k) =
    local_is tables d local behind f x y l ∙ element_behind tables d local _ k
found_is tables d behind part taken (a_sequence {list} f k) =
    sequence_is tables d behind (Some list) f k
found_is tables d behind part taken (a_repeated f x y long) =
    repeated_is tables d behind f x y
    ∙ cond-false (ltb (length behind) (x_of d)) _ _ (le-ltb (length behind) (x_of d) long)
found_is tables d (factor ∷ behind) part taken (a_delayed {e} f x y i k c long) =
    delayed_is tables d factor behind f x y ∙ row_is tables d factor behind (Some e) i k
    ∙ count_is d factor e behind c
    ∙ cond-false (ltb (length behind) (x_of d)) _ _ (le-ltb (length behind) (x_of d) long)

no_factor : (tables : Entries) (d factor : ℕ) (behind : List ℕ) → is_factor factor ≡ false
    → delayed_found tables d (factor ∷ behind) ≡ Err (BadFactor factor)
unfolding is_factor
no_factor tables d factor behind h =
    ap (factor_found d factor behind) (cond-false (is_factor factor) (element tables factor) None h)

bad_factor : (tables : Entries) (d factor : ℕ) (behind : List ℕ) (o : Option Element)
    → element tables factor ≡ o → factor_found d factor behind o ≡ Err (BadFactor factor)
    → delayed_found tables d (factor ∷ behind) ≡ Err (BadFactor factor)
unfolding is_factor
bad_factor tables d factor behind o k bad =
    cond_both (is_factor factor) (element tables factor) None
    (λ (o : Option Element). factor_found d factor behind o ≡ Err (BadFactor factor))
    (λ h. ap (factor_found d factor behind) k ∙ bad) (λ h. refl)

pub fault_found : (tables : Entries) (d : ℕ) (behind : List ℕ) (f : TemplateFault)
    → HasNoCase tables d behind f → found_at tables d behind ≡ Err f
fault_found tables d behind fault (unknown_element f k) = element_is tables d behind None f k
fault_found tables d behind fault (unknown_sequence f k) = sequence_is tables d behind None f k
fault_found tables d behind fault (unsupported_operator f s five six) =
    operator_is tables d (x_of d) behind f refl
    ∙ cond-false (stays_in_force (x_of d)) _ _ (false_from_ne_true (stays_in_force (x_of d))
    (λ h. s (stays_is (x_of d) h)))
    ∙ cond-false (eqb (x_of d) 5) _ _ (ne_eqb (x_of d) 5 five)
    ∙ cond-false (eqb (x_of d) 6) _ _ (ne_eqb (x_of d) 6 six)
fault_found tables d behind fault (replicates_none f x) =
    ap (λ (n : ℕ). found_by n tables d behind) f
    ∙ cond-true (eqb (x_of d) 0) _ _ (eq-eqb (x_of d) 0 x)
fault_found tables d [] fault (without_factor f y) =
    ap (λ (n : ℕ). found_by n tables d []) f
    ∙ cond_both (eqb (x_of d) 0) _ _ (λ (m : Finding). m ≡ Err (BadReplication d)) (λ h. refl)
    (λ h. cond-true (eqb (y_of d) 0) _ _ (eq-eqb (y_of d) 0 y))
fault_found tables d (factor ∷ behind) fault (not_a_factor f x y i) =
    delayed_is tables d factor behind f x y
    ∙ no_factor tables d factor behind
    (false_from_ne_true (is_factor factor) (λ h. i ((decides_factor factor).0 h)))
fault_found tables d (factor ∷ behind) fault (factor_without_row f x y k) =
    delayed_is tables d factor behind f x y ∙ bad_factor tables d factor behind None k refl
fault_found tables d (factor ∷ behind) fault (factor_without_count {row = e} f x y k c) =
    delayed_is tables d factor behind f x y
    ∙ bad_factor tables d factor behind (Some e) k
    (cond-true (not (is_factor_row e)) _ _ (not_from_false (is_factor_row e)
    (false_from_ne_true (is_factor_row e) (λ h. c ((decides_count e).0 h)))))
fault_found tables d behind fault (too_few_left f y few) =
    repeated_is tables d behind f (omega arith) y
    ∙ cond-true (ltb (length behind) (x_of d)) _ _ (lt-ltb (length behind) (x_of d) few)
fault_found tables d (factor ∷ behind) fault (too_few_behind_factor {row = e} f y i k c few) =
    delayed_is tables d factor behind f (omega arith) y ∙ row_is tables d factor behind (Some e) i k
    ∙ count_is d factor e behind c
    ∙ cond-true (ltb (length behind) (x_of d)) _ _ (lt-ltb (length behind) (x_of d) few)
fault_found tables d behind fault (no_text f x y) =
    operator_is tables d 5 behind f x ∙ with_none d (text_found d) y
fault_found tables d behind fault (no_width f x y) =
    operator_is tables d 6 behind f x ∙ with_none d (width_found tables d behind) y
fault_found tables d [] fault (width_of_nothing f x y) = width_is tables d [] f x y
fault_found tables d (local ∷ behind) fault (width_of_no_element f x y l) =
    width_is tables d (local ∷ behind) f x y
    ∙ cond-false (eqb (f_of local) 0) _ _ (ne_eqb (f_of local) 0 l)
fault_found tables d (local ∷ behind) fault (too_wide f x wide l other) =
    local_is tables d local behind f x (omega arith) l
    ∙ number_is d local (element tables local) other
    ∙ cond-true (ltb most_number_bits (y_of d)) _ _ (lt-ltb most_number_bits (y_of d) wide)

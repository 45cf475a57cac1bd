-- Every field of a course has a spec within the limits: at most 127 of the scale come from the
-- table, 127 from 202 and 255 from 207.
use Rattle.std.proofs.Common.{◌≡◌, ℕ, zero, suc, ◌+◌, ◌<◌, ◌≤◌, Bool, true, false, cond, ltb}
use Rattle.std.proofs.Common.{List, ℤ, pos, negsuc, ◌+ℤ◌, Option, Some, None, refl, sym, ◌∙◌, subst}
use Rattle.std.proofs.Common.{arith}
use Rattle.std.specs.Prelude.{◌-ℤ◌, ◌==◌, IfSome}
use Rattle.std.specs.Int.RustNames.{unsigned_abs}
use Rattle.std.proofs.lemmas.Bool.{cond_both}
use Rattle.std.proofs.lemmas.Int.{ints}
use Rattle.bufr_tables.specs.declared.element.Element.{Element}
use Rattle.bufr_tables.specs.declared.element.Kind.TheVariants as kinds
use Rattle.bufr_tables.specs.Descriptors.{x_of, y_of}
use Rattle.bufr_tables.specs.Entries.{Entries}
use Rattle.bufr_expand.specs.declared.operators.Operators.{Operators}
use Rattle.bufr_expand.specs.declared.operators.Spec.{Spec}
use Rattle.bufr_expand.specs.declared.walk.WalkFault.TheVariants.{TooLarge}
use Rattle.bufr_expand.specs.Limits.{most_items, most_sequence_levels, most_replication_levels}
use Rattle.bufr_expand.specs.OperatorsInForce.{none_in_force, operand, in_force_after, effective}
use Rattle.bufr_expand.specs.OperatorsInForce.{untouched, factor_spec}
use Rattle.bufr_expand.specs.Effects.{IsTextSpec, IsAsRow, AsInTable, text, number, Adds}
use Rattle.bufr_expand.specs.Effects.{Increases, IsChanged, Effective, of_text, changed, unchanged}
use Rattle.bufr_expand.specs.Effects.{IsInRange, CanBeAsked}
use Rattle.bufr_expand.specs.Flat.{Flat, nothing, element_first, operator_first, text_first}
use Rattle.bufr_expand.specs.Flat.{width_first, sequence_first, repeated_first, delayed_first}
use Rattle.bufr_expand.specs.Flat.{followed_by, IsCountRow, IsTreeOf}
use Rattle.bufr_expand.specs.Trees as trees
use Rattle.bufr_expand.specs.Courses.{Course, stops, Then, item, asks_if, turns}
use Rattle.bufr_expand.specs.Courses.{course_then, course}
use Rattle.bufr_expand.specs.Steady.{EachAsked}
use Rattle.bufr_expand.proofs.SpecFacts.{in_table, effective_found}

-- the operands of 202 and 207 are octets
record AreSmall (q : Operators) : Type 0 where
  scale : IfSome q.add_scale (λ y. y < 256)
  increase : IfSome q.increase (λ y. y < 256)

operand_by : (zero_or_not : Bool) (y : ℕ) → y < 256
    → IfSome (cond zero_or_not None (Some y)) (λ y. y < 256)
operand_by true y small = tt
operand_by false y small = small

small_operand : (d : ℕ) → IfSome (operand (y_of d)) (λ y. y < 256)
small_operand d = operand_by (y_of d == 0) (y_of d) (omega arith)

small_by : (a b c : Bool) (q : Operators) (d : ℕ) → AreSmall q
    → AreSmall (cond a (record q { add_width = operand (y_of d) })
    (cond b (record q { add_scale = operand (y_of d) })
    (cond c (record q { increase = operand (y_of d) })
    (record q { characters = operand (y_of d) }))))
small_by true b c q d small = record { scale = small.scale; increase = small.increase }
small_by false true c q d small = record { scale = small_operand d; increase = small.increase }
small_by false false true q d small = record { scale = small.scale; increase = small_operand d }
small_by false false false q d small = record { scale = small.scale; increase = small.increase }

small_after : (q : Operators) (d : ℕ) → AreSmall q → AreSmall (in_force_after q d)
small_after q d small = small_by (x_of d == 1) (x_of d == 2) (x_of d == 7) q d small

abs_sum : (a b : ℤ) → unsigned_abs (a +ℤ b) ≤ unsigned_abs a + unsigned_abs b
abs_sum (pos a) (pos b) = grind (arith, ints)
abs_sum (pos a) (negsuc b) = grind (arith, ints)
abs_sum (negsuc a) (pos b) = grind (arith, ints)
abs_sum (negsuc a) (negsuc b) = grind (arith, ints)

abs_shift : (y : ℕ) → y < 256 → unsigned_abs (pos y -ℤ pos 128) ≤ 128
abs_shift y small = grind (arith, ints)

abs_added : (o : Option ℕ) (more : ℤ) → IfSome o (λ y. y < 256) → Adds o more
    → unsigned_abs more ≤ 128
abs_added None more small h = subst (λ z. unsigned_abs z ≤ 128) (sym h) (omega arith)
abs_added (Some y) more small h = subst (λ z. unsigned_abs z ≤ 128) (sym h) (abs_shift y small)

increase_small : (o : Option ℕ) (increase : ℕ) → IfSome o (λ y. y < 256) → Increases o increase
    → increase < 256
increase_small None increase small h = omega (arith, h)
increase_small (Some y) increase small h = omega (arith, h, small)

text_asked : (spec : Spec) → IsTextSpec spec → CanBeAsked spec
text_asked spec h = record {
  in_range = record {
    scale_within = rw h.no_scale (omega arith);
    reference_within = rw h.no_reference (omega arith);
  };
  octets = λ is. h;
  some_bit = λ not. absurd (not h.is_text);
  few_bits = λ not. absurd (not h.is_text);
}

row_asked : (e : Element) (spec : Spec) → (e.kind ≡ kinds.Text → ⊥) → IsAsRow e spec
    → CanBeAsked spec
row_asked e spec not h =
    let scale : unsigned_abs e.scale ≤ 127 = h.within.scale_in_table in
    record {
      in_range = record {
        scale_within = rw h.scale_is (omega (arith, scale));
        reference_within = h.within.reference_within;
      };
      octets = λ is. absurd (not (sym h.kind_is ∙ is));
      some_bit = λ other. h.within.some_bit;
      few_bits = λ other. h.within.few_bits;
    }

in_row : (e : Element) (spec : Spec) → AsInTable e spec → CanBeAsked spec
in_row e spec (text is same h) = text_asked spec h
in_row e spec (number not h) = row_asked e spec not h

changed_asked : (e : Element) (q : Operators) (spec : Spec) → AreSmall q → IsChanged e q spec
    → CanBeAsked spec
changed_asked e q spec small h =
    let one = abs_sum e.scale h.finer in
    let two = abs_sum (e.scale +ℤ h.finer) (pos h.increase) in
    let bound = abs_added q.add_scale h.finer small.scale h.change_scale in
    let few = increase_small q.increase h.increase small.increase h.increases in
    let scale : unsigned_abs e.scale ≤ 127 = h.within.scale_in_table in
    let quantity : spec.kind ≡ kinds.Quantity = h.kind_is in
    record {
      in_range = record {
        scale_within = rw h.scale_is (omega (arith, one, two, bound, few, scale));
        reference_within = h.within.reference_within;
      };
      octets = λ is. let no : kinds.Quantity ≡ kinds.Text = sym quantity ∙ is in absurd cc;
      some_bit = λ other. h.within.some_bit;
      few_bits = λ other. h.within.few_bits;
    }

effective_asked : (d : ℕ) (e : Element) (q : Operators) (spec : Spec) → AreSmall q
    → Effective d e q spec → CanBeAsked spec
effective_asked d e q spec small (of_text is bits h) = text_asked spec h
effective_asked d e q spec small (changed is class h) = changed_asked e q spec small h
effective_asked d e q spec small (unchanged not class h) = row_asked e spec not h

factor_in_range : (e : Element) → IsInRange (factor_spec e)
factor_in_range e = record { scale_within = omega arith; reference_within = omega arith }

factor_asked : (e : Element) → IsCountRow e → CanBeAsked (factor_spec e)
factor_asked e (kind, scale, reference, low, high) = record {
  in_range = factor_in_range e;
  octets = λ is. absurd cc;
  some_bit = λ other. low;
  few_bits = λ other. omega (arith, high);
}

-- every factor has such a spec
unfoldable FactorsHave : (Spec → Type 0) → trees.Tree → Type 0
FactorsHave Has trees.done = Unit {0}
FactorsHave Has (trees.element d e rest) = FactorsHave Has rest
FactorsHave Has (trees.untouched d e rest) = FactorsHave Has rest
FactorsHave Has (trees.operator d rest) = FactorsHave Has rest
FactorsHave Has (trees.repeated times body rest) = FactorsHave Has body × FactorsHave Has rest
FactorsHave Has (trees.delayed d e body rest) =
    Has (factor_spec e) × FactorsHave Has body × FactorsHave Has rest

factors_in_range : (t : trees.Tree) → FactorsHave IsInRange t
unfolding FactorsHave
factors_in_range trees.done = tt
factors_in_range (trees.element d e rest) = factors_in_range rest
factors_in_range (trees.untouched d e rest) = factors_in_range rest
factors_in_range (trees.operator d rest) = factors_in_range rest
factors_in_range (trees.repeated times body rest) = (factors_in_range body, factors_in_range rest)
factors_in_range (trees.delayed d e body rest) =
    (factor_in_range e, factors_in_range body, factors_in_range rest)

factors_behind : (Has : Spec → Type 0) (a b : trees.Tree) → FactorsHave Has a → FactorsHave Has b
    → FactorsHave Has (followed_by a b)
unfolding FactorsHave followed_by
factors_behind Has trees.done b h g = g
factors_behind Has (trees.element d e rest) b h g = factors_behind Has rest b h g
factors_behind Has (trees.untouched d e rest) b h g = factors_behind Has rest b h g
factors_behind Has (trees.operator d rest) b h g = factors_behind Has rest b h g
factors_behind Has (trees.repeated times body rest) b h g =
    (h.0, factors_behind Has rest b h.1 g)
factors_behind Has (trees.delayed d e body rest) b h g =
    (h.0, h.1, factors_behind Has rest b h.2 g)

factors_asked : (tables : Entries) (s r : ℕ) (list : List ℕ) (t : trees.Tree)
    → Flat tables s r list t → FactorsHave CanBeAsked t
unfolding FactorsHave
factors_asked tables s r list t nothing = tt
factors_asked tables s r list t (element_first {rest} f k behind) =
    factors_asked tables s r _ rest behind
factors_asked tables s r list t (operator_first {rest} f k behind) =
    factors_asked tables s r _ rest behind
factors_asked tables s r list t (text_first {rest} f x y behind) =
    factors_asked tables s r _ rest behind
factors_asked tables s r list t (width_first {rest} f x y l h behind) =
    factors_asked tables s r _ rest behind
factors_asked tables s r list t
    (sequence_first {sequences = below} {inner} {rest} f k first behind) =
    factors_behind CanBeAsked inner rest (factors_asked tables below r _ inner first)
    (factors_asked tables s r _ rest behind)
factors_asked tables s r list t (repeated_first {replications = below} {inner}
    {rest} f x y size first behind) =
    (factors_asked tables s below _ inner first, factors_asked tables s r _ rest behind)
factors_asked tables s r list t
    (delayed_first {replications = below} {row = e} {inner} {rest} f x y i k count size first
    behind) = (
      factor_asked e count,
      factors_asked tables s below _ inner first,
      factors_asked tables s r _ rest behind,
    )

-- such specs come after some nodes
abbrev HaveThen : (Spec → Type 0) → Then → Type 0
HaveThen Has after = (q : Operators) (used : ℕ) → AreSmall q → EachAsked Has (after q used)

at_item : (Has : Spec → Type 0) (used : ℕ) (c : Course) → EachAsked Has c
    → EachAsked Has (item used c)
unfolding EachAsked
at_item Has used c h =
    cond_both (ltb used most_items) c (stops used TooLarge) (EachAsked Has) (λ e. h) (λ e. tt)

at_field : (Has : Spec → Type 0) (spec : Option Spec) (met d : ℕ) (more : ℕ → Course)
    → ((s : Spec) → spec ≡ Some s → Has s) → ((n : ℕ) → EachAsked Has (more n))
    → EachAsked Has (asks_if spec met d more)
unfolding EachAsked
at_field Has None met d more fit h = tt
at_field Has (Some spec) met d more fit h = (fit spec refl, h)

-- such specs come from a part under operands that are octets
abbrev HaveAll : (Spec → Type 0) → (Operators → ℕ → Then → Course) → Type 0
HaveAll Has body = (q : Operators) (used : ℕ) (after : Then) → AreSmall q → HaveThen Has after
    → EachAsked Has (body q used after)

at_turns : (Has : Spec → Type 0) (n : ℕ) (body : Operators → ℕ → Then → Course)
    → HaveAll Has body → HaveAll Has (turns n body)
unfolding turns
at_turns Has zero body each q used after small h = h q used small
at_turns Has (suc n) body each q used after small h =
    at_item Has used _ (each q (used + 1) _ small
    (λ q used small. at_turns Has n body each q used after small h))

at_tree : (Has : Spec → Type 0) → ((s : Spec) → CanBeAsked s → Has s)
    → (t : trees.Tree) → FactorsHave Has t → HaveAll Has (course_then t)
unfolding course_then EachAsked FactorsHave
at_tree Has fit trees.done factors q used after small h = h q used small
at_tree Has fit (trees.operator d rest) factors q used after small h =
    at_item Has used _ (at_tree Has fit rest factors (in_force_after q d) (used + 1) after
    (small_after q d small) h)
at_tree Has fit (trees.element d e rest) factors q used after small h =
    at_item Has used _ (at_field Has (effective d e q) (used + 1) d _
    (λ s is. fit s (effective_asked d e q s small (effective_found d e q s is)))
    (λ n. at_tree Has fit rest factors q (used + 1) after small h))
at_tree Has fit (trees.untouched d e rest) factors q used after small h =
    at_item Has used _ (at_field Has (untouched e) (used + 1) d _
    (λ s is. fit s (in_row e s (in_table e s is)))
    (λ n. at_tree Has fit rest factors q (used + 1) after small h))
at_tree Has fit (trees.repeated times body rest) factors q used after small h =
    at_item Has used _ (at_turns Has times (course_then body)
    (λ q used after small h. at_tree Has fit body factors.0 q used after small h)
    q (used + 1) _ small
    (λ q used small. at_tree Has fit rest factors.1 q used after small h))
at_tree Has fit (trees.delayed d e body rest) factors q used after small h =
    at_item Has used _ (
      factors.0,
      λ n. at_turns Has n (course_then body)
          (λ q used after small h. at_tree Has fit body factors.1 q used after small h)
          q (used + 1) _ small
          (λ q used small. at_tree Has fit rest factors.2 q used after small h),
    )

none_small : AreSmall none_in_force
none_small = record { scale = tt; increase = tt }

pub course_in_range : (tree : trees.Tree) (used : ℕ) → EachAsked IsInRange (course tree used)
unfolding EachAsked
course_in_range tree used =
    at_tree IsInRange (λ s h. h.in_range) tree (factors_in_range tree) none_in_force used _
    none_small (λ q n small. tt)

pub course_asked : (tables : Entries) (list : List ℕ) (tree : trees.Tree) (used : ℕ)
    → IsTreeOf tables list tree → EachAsked CanBeAsked (course tree used)
unfolding EachAsked
course_asked tables list tree used h =
    at_tree CanBeAsked (λ s is. is) tree
    (factors_asked tables most_sequence_levels most_replication_levels list tree h.0)
    none_in_force used _
    none_small (λ q n small. tt)

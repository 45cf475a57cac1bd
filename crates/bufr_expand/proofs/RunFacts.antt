-- How runs join, and which nodes and turns are runs.
use Rattle.std.proofs.Common.{◌≡◌, ℕ, zero, suc, ◌+◌, ◌*◌, ◌<◌, ◌≤◌, false, List, [], ◌∷◌, ◌++◌}
use Rattle.std.proofs.Common.{length, map, drop, take, min, Option, Some, refl, sym, ap, ◌∙◌, subst}
use Rattle.std.proofs.Common.{length-append, inl, inr, arith}
use Rattle.std.proofs.lemmas.List.{take_all, drop_all, take_more, map-append}
use Rattle.std.specs.List.{AllByRecursion}
use Rattle.std.proofs.lemmas.Option.{get_or_from_slice_get, slice_get_within}
use Rattle.std.specs.List.{slice_get}
use Rattle.std.proofs.Common.{◌-◌}
use Rattle.std.proofs.lemmas.Bool.{cases_lt}
use Rattle.bufr_tables.specs.declared.element.Element.{Element}
use Rattle.bufr_tables.specs.declared.element.Kind.{Kind}
use Rattle.bufr_tables.specs.declared.element.Kind.TheVariants as kinds
use Rattle.bufr_tables.specs.Elements.{same_kind}
use Rattle.bufr_expand.specs.declared.node.Node.{Node}
use Rattle.bufr_expand.specs.declared.node.Node.TheVariants as nodes
use Rattle.bufr_expand.specs.declared.operators.Operators.{Operators}
use Rattle.bufr_expand.specs.declared.operators.Spec.{Spec}
use Rattle.bufr_expand.specs.declared.run.Run.{Run}
use Rattle.bufr_expand.specs.Limits.{most_items}
use Rattle.bufr_expand.specs.OperatorsInForce.{effective, untouched}
use Rattle.bufr_expand.specs.Effects.{IsTextSpec, IsAsRow, AsInTable, text, number}
use Rattle.bufr_expand.specs.Effects.{Effective, of_text, changed, unchanged}
use Rattle.bufr_expand.specs.Courses.{Course, ends, asks, Then, item, asks_if, turns}
use Rattle.bufr_expand.specs.Courses.{course_then}
use Rattle.bufr_expand.specs.Trees as trees
use Rattle.bufr_expand.specs.Trees.{Tree, tree_of, tree_within}
use Rattle.bufr_expand.specs.Unrolling.{NumberedField, After}
use Rattle.bufr_expand.specs.Runs.{HasWidth, AddUp, Leads, no_run, joined_runs, turned_run}
use Rattle.bufr_expand.specs.Runs.{behind_item, IsFieldRun, BeginsRun, TurnsRun, PassesRun}
use Rattle.bufr_expand.specs.Runs.{IsInnermost, HasLeft, after_joined}
use Rattle.bufr_expand.specs.declared.even_turns.CommonField.{CommonField}
use Rattle.bufr_expand.specs.declared.even_turns.EvenTurns.{EvenTurns}
use Rattle.bufr_expand.specs.EvenTurns.{told, HaveNoCount, repeated, BeginsFields, PassesTurns}
use Rattle.bufr_expand.specs.declared.walk_state.Open.{Open}
use Rattle.bufr_expand.specs.declared.walk_state.State.TheVariants.{Going}
use Rattle.bufr_expand.specs.declared.walk.Walk.{Walk}
use Rattle.bufr_expand.specs.Steady.{IsSteady, steady_turns, steady_then}
use Rattle.bufr_expand.specs.Walks.{tree_between, rest_then, turns_then, behind, behind_all, going}
use Rattle.bufr_expand.specs.Walks.{left, is_waiting, waits, items_met}
use Rattle.bufr_expand.proofs.Between.{tree_of-repeated}
use Rattle.bufr_expand.proofs.PassFacts.{item-below, left_going, entered}
use Rattle.bufr_expand.proofs.SpecFacts.{in_table, effective_found}

pub no_count : (kind : Kind) → (kind ≡ kinds.Count → ⊥) → same_kind kind kinds.Count ≡ false
no_count kinds.Text not = refl
no_count kinds.Code not = refl
no_count kinds.Flag not = refl
no_count kinds.Quantity not = refl
no_count kinds.Count not = absurd (not refl)

bits_joined : (xs ys : List NumberedField) (a b c : ℕ) → c ≡ a + b → AddUp xs a → AddUp ys b
    → AddUp (xs ++ ys) c
unfolding AddUp
bits_joined [] ys a b c sum h g = let same : b ≡ c = omega (arith, sum, h) in subst (AddUp ys) same g
bits_joined (x ∷ xs) ys a b c sum h g =
    (h.0 + b, h.1, bits_joined xs ys h.0 b (h.0 + b) refl h.2 g, omega (arith, sum, h.3))

pub leads_joined : (c d e : Course) (r s t : Run) → t.fields ≡ r.fields + s.fields
    → t.bits ≡ r.bits + s.bits → Leads c r d → Leads d s e → Leads c t e
leads_joined c d e r s t fields bits h g = record {
  fields = h.fields ++ g.fields;
  asked = after_joined c d e h.fields g.fields h.asked g.asked;
  fields_are =
      omega (arith, length-append h.fields g.fields, h.fields_are, g.fields_are, fields);
  bits_are = bits_joined h.fields g.fields r.bits s.bits t.bits bits h.bits_are g.bits_are;
}

pub leads_nowhere : (c d : Course) (r : Run) → r.fields ≡ 0 → r.bits ≡ 0 → c ≡ d → Leads c r d
unfolding After AddUp
leads_nowhere c d r fields bits is =
    record { fields = []; asked = is; fields_are = sym fields; bits_are = bits }

leads_field : (met d : ℕ) (spec : Spec) (c later : Course) (r : Run) → r.fields ≡ 1
    → r.bits ≡ spec.width → HasWidth spec → c ≡ asks met d spec (λ n. later) → Leads c r later
unfolding After AddUp
leads_field met d spec c later r fields bits has is = record {
  fields = record { fxy = d; spec = spec; number = 0 } ∷ [];
  asked =
      subst (λ x. After x (record { fxy = d; spec = spec; number = 0 } ∷ []) later) (sym is)
      (refl, refl, refl);
  fields_are = sym fields;
  bits_are = (0, has, refl, omega (arith, bits));
}

leads_parts : (c d : Course) (r s : Run) → s.fields ≡ r.fields → s.bits ≡ r.bits → Leads c r d
    → Leads c s d
leads_parts c d r s fields bits h = record {
  fields = h.fields;
  asked = h.asked;
  fields_are = h.fields_are ∙ sym fields;
  bits_are = subst (AddUp h.fields) (sym bits) h.bits_are;
}

leads_from : (b c d e : Course) (r : Run) → b ≡ c → d ≡ e → Leads c r d → Leads b r e
leads_from b c d e r front back h =
    subst (λ x. Leads x r e) (sym front) (subst (Leads c r) back h)

leads_as : (c d : Course) (r s : Run) → r ≡ s → Leads c r d → Leads c s d
leads_as c d r s same h = subst (λ x. Leads c x d) same h

text_width : (spec : Spec) → IsTextSpec spec → HasWidth spec
text_width spec h = record {
  no_count = rw h.is_text refl;
  whole_octets = λ is. h.whole_octets;
  few_bits = λ not. absurd (not h.is_text);
}

row_width : (e : Element) (spec : Spec) → same_kind spec.kind kinds.Count ≡ false
    → (e.kind ≡ kinds.Text → ⊥) → IsAsRow e spec → HasWidth spec
row_width e spec kind not h = record {
  no_count = kind;
  whole_octets = λ is. absurd (not (sym h.kind_is ∙ is));
  few_bits = λ other. h.within.few_bits;
}

table_width : (e : Element) (spec : Spec) → same_kind spec.kind kinds.Count ≡ false
    → AsInTable e spec → HasWidth spec
table_width e spec kind (text is same h) = text_width spec h
table_width e spec kind (number not h) = row_width e spec kind not h

effective_width : (d : ℕ) (e : Element) (q : Operators) (spec : Spec)
    → same_kind spec.kind kinds.Count ≡ false → Effective d e q spec → HasWidth spec
effective_width d e q spec kind (of_text is bits h) = text_width spec h
effective_width d e q spec kind (changed is class h) = record {
  no_count = kind;
  whole_octets = λ is. let no : kinds.Quantity ≡ kinds.Text = sym h.kind_is ∙ is in absurd cc;
  few_bits = λ other. h.within.few_bits;
}
effective_width d e q spec kind (unchanged not class h) = row_width e spec kind not h

pub begins_nowhere : (t : Tree) (q : Operators) → BeginsRun t q no_run t
begins_nowhere t q = record {
  few = omega arith;
  leads = λ used after room.
      let same : used ≡ used + 0 = omega arith in
      leads_nowhere _ _ no_run refl refl (ap (λ n. course_then t q n after) same);
}

pub begins_joined : (a b c : Tree) (q : Operators) (r s t : Run) → t ≡ joined_runs r s
    → BeginsRun a q r b → BeginsRun b q s c → BeginsRun a q t c
begins_joined a b c q r s t is h g =
    subst (λ x. BeginsRun a q x c) (sym is) (record {
      few = omega (arith, h.few, g.few);
      leads = λ used after room.
          let same : used + r.items + s.items ≡ used + (r.items + s.items) = omega arith in
          leads_joined _ _ _ r s (joined_runs r s) refl refl
          (h.leads used after (omega (arith, room)))
          (leads_from _ _ _ _ s refl (ap (λ n. course_then c q n after) same)
          (g.leads (used + r.items) after (omega (arith, room))));
    })

field_leads : (d used : ℕ) (found : Option Spec) (later : Course) (r : Run)
    → used < most_items → IsFieldRun found r → ((spec : Spec) → found ≡ Some spec → same_kind spec.kind kinds.Count ≡ false → HasWidth spec)
    → Leads (item used (asks_if found (used + 1) d (λ n. later))) r later
field_leads d used found later r room (spec, is, kind, same) has =
    leads_as _ _ _ r (sym same)
    (leads_field (used + 1) d spec _ later _ refl refl (has spec is kind)
    (item-below used _ room ∙ ap (λ o. asks_if o (used + 1) d (λ n. later)) is))

pub begins_element : (d : ℕ) (e : Element) (rest : List Node) (q : Operators) (r : Run)
    → IsFieldRun (effective d e q) r
    → BeginsRun (tree_of (nodes.Element d e ∷ rest)) q r (tree_of rest)
unfolding tree_within course_then
begins_element d e rest q r h = record {
  few = let same = h.3 in rw same (omega arith);
  leads = λ used after room.
      let one : r.items ≡ 1 = ap (λ (x : Run). x.items) h.3 in
      let next : used + 1 ≡ used + r.items = omega (arith, one) in
      leads_from _ _ _ _ r refl (ap (λ n. course_then (tree_of rest) q n after) next)
      (field_leads d used (effective d e q) (course_then (tree_of rest) q (used + 1) after) r
      (omega (arith, one, room)) h
      (λ spec is kind. effective_width d e q spec kind (effective_found d e q spec is)));
}

pub begins_untouched : (d : ℕ) (e : Element) (rest : List Node) (q : Operators) (r : Run)
    → IsFieldRun (untouched e) r
    → BeginsRun (tree_of (nodes.Untouched d e ∷ rest)) q r (tree_of rest)
unfolding tree_within course_then
begins_untouched d e rest q r h = record {
  few = let same = h.3 in rw same (omega arith);
  leads = λ used after room.
      let one : r.items ≡ 1 = ap (λ (x : Run). x.items) h.3 in
      let next : used + 1 ≡ used + r.items = omega (arith, one) in
      leads_from _ _ _ _ r refl (ap (λ n. course_then (tree_of rest) q n after) next)
      (field_leads d used (untouched e) (course_then (tree_of rest) q (used + 1) after) r
      (omega (arith, one, room)) h
      (λ spec is kind. table_width e spec kind (in_table e spec is)));
}

turn_items : (n b : ℕ) → suc n * (1 + b) ≡ 1 + b + n * (1 + b)
turn_items n b = grind arith

turns_lead : (n : ℕ) (t : Tree) (q : Operators) (body : Run) → BeginsRun t q body trees.done
    → (used : ℕ) (after : Then) → used + n * (1 + body.items) ≤ most_items
    → Leads (turns n (course_then t) q used after) (turned_run n body)
    (after q (used + n * (1 + body.items)))
unfolding turns course_then
turns_lead zero t q body h used after room =
    let same : used ≡ used + 0 * (1 + body.items) = omega arith in
    leads_nowhere _ _ (turned_run 0 body) (omega arith) (omega arith) (ap (after q) same)
turns_lead (suc n) t q body h used after room =
    let items = turn_items n body.items in
    let others =
    turns_lead n t q body h (used + 1 + body.items) after (omega (arith, items, room)) in
    let next : used + 1 + body.items + n * (1 + body.items) ≡ used + suc n * (1 + body.items) =
    omega (arith, items) in
    leads_from _ _ _ _ _
    (item-below used _ (omega (arith, items, room))) refl
    (leads_joined _ _ _ body (turned_run n body) (turned_run (suc n) body)
    (omega arith) (omega arith)
    (h.leads (used + 1) _ (omega (arith, items, room)))
    (leads_from _ _ _ _ _ refl (ap (after q) next) others))

turns_few : (n f i : ℕ) → f ≤ i → n * f ≤ n * (1 + i)
turns_few n f i h = grind arith

turns_count : (n i : ℕ) → n ≤ n * (1 + i)
turns_count n i = grind arith

pub turns_of_run : (n : ℕ) (t : Tree) (q : Operators) (body r : Run) → r ≡ turned_run n body
    → BeginsRun t q body trees.done → TurnsRun n t q r
turns_of_run n t q body r is h =
    subst (TurnsRun n t q) (sym is)
    (record {
      few = turns_few n body.fields body.items h.few;
      each_counts = turns_count n body.items;
      leads = turns_lead n t q body h;
    })

body_nodes : (len n : ℕ) (rest : List Node) → n ≡ min len (length rest)
    → (take len rest ≡ take n rest) × (drop len rest ≡ drop n rest)
body_nodes len n rest is =
    elim (cases_lt (length rest) len) [
      | inl s ↦ (
        take_all len rest (omega arith) ∙ sym (take_all n rest (omega (arith, is))),
        drop_all len rest (omega arith) ∙ sym (drop_all n rest (omega (arith, is))),
      )
      | inr s ↦
          let same : len ≡ n = omega (arith, is) in
          (ap (λ k. take k rest) same, ap (λ k. drop k rest) same)
    ]

repeated_leads : (times : ℕ) (body rest : Tree) (q : Operators) (turned r : Run)
    → r ≡ behind_item turned → TurnsRun times body q turned
    → BeginsRun (trees.repeated times body rest) q r rest
unfolding course_then
repeated_leads times body rest q turned r is h =
    subst (λ x. BeginsRun (trees.repeated times body rest) q x rest) (sym is) (record {
      few = omega (arith, h.few);
      leads = λ used after room.
          let next : used + 1 + turned.items ≡ used + (1 + turned.items) = omega arith in
          let below : used < most_items = omega (arith, room) in
          leads_from _ _ _ _ (behind_item turned) (item-below used _ below)
          (ap (λ n. course_then rest q n after) next)
          (leads_parts _ _ turned (behind_item turned) refl refl
          (h.leads (used + 1) (λ q used. course_then rest q used after)
          (omega (arith, room))));
    })

pub begins_repeated : (times len n : ℕ) (rest : List Node) (q : Operators) (turned r : Run)
    → n ≡ min len (length rest) → r ≡ behind_item turned
    → TurnsRun times (tree_of (take n rest)) q turned
    → BeginsRun (tree_of (nodes.Repeated times len ∷ rest)) q r (tree_of (drop n rest))
begins_repeated times len n rest q turned r size is h =
    let parts = body_nodes len n rest size in
    subst (λ t. BeginsRun t q r (tree_of (drop n rest)))
    (sym (tree_of-repeated times len rest
    ∙ ap (λ l. trees.repeated times (tree_of l) (tree_of (drop len rest))) parts.0
    ∙ ap (λ l. trees.repeated times (tree_of (take n rest)) (tree_of l)) parts.1))
    (repeated_leads times (tree_of (take n rest)) (tree_of (drop n rest)) q turned r is h)

pub begins_rest : (t : Tree) (q : Operators) (r : Run) (ns ms : List Node) → ns ≡ ms
    → BeginsRun t q r (tree_of ns) → BeginsRun t q r (tree_of ms)
begins_rest t q r ns ms is h = subst (λ l. BeginsRun t q r (tree_of l)) is h

pub last_apart : {A : Type 0} (xs : List A) (x : A) → slice_get xs (length xs - 1) ≡ Some x
    → xs ≡ take (length xs - 1) xs ++ x ∷ []
last_apart xs x is =
    let inside = slice_get_within xs (length xs - 1) x is in
    let all : length xs - 1 + 1 ≡ length xs = omega arith in
    sym (take_all (length xs) xs (omega arith))
    ∙ ap (λ n. take n xs) (sym all)
    ∙ take_more xs (length xs - 1) x inside
    ∙ ap (λ y. take (length xs - 1) xs ++ y ∷ []) (get_or_from_slice_get xs (length xs - 1) x x is)

steady_behind : (ns : List Node) (os : List Open) (after : Then)
    → ((q : Operators) (used : ℕ) → IsSteady used (after q used)) → (q : Operators) (used : ℕ)
    → IsSteady used (behind ns os after q used)
unfolding behind
steady_behind ns [] after s q used = s q used
steady_behind ns (o ∷ os) after s q used =
    steady_behind ns os (turns_then ns o.turns o.from o.to o.stop after)
    (λ q used. steady_turns o.turns (course_then (tree_between ns o.from o.to))
    (steady_then (tree_between ns o.from o.to)) q used _
    (λ q used. steady_then (tree_between ns o.to o.stop) q used after s)) q used

pub steady_going : (ns : List Node) (place stop : ℕ) (os : List Open) (q : Operators) (used : ℕ)
    → IsSteady used (going ns place stop os q used)
unfolding IsSteady
steady_going ns place stop os q used =
    steady_then (tree_between ns place stop) q used (behind_all ns os)
    (steady_behind ns os (λ q used. ends used) (λ q used. tt))

pub has_left : (w v : Walk) (turn : Open) (items : ℕ) → v.state ≡ Going → v.nodes.now ≡ w.nodes.now
    → v.place ≡ turn.to → v.stop ≡ turn.stop
    → v.loops.items ≡ take (length w.loops.items - 1) w.loops.items
    → v.operators ≡ w.operators → v.items ≡ w.items + items → HasLeft w turn items v
unfolding waits items_met
has_left w v turn items goes nodes place stop loops operators sum =
    let os = take (length w.loops.items - 1) w.loops.items in
    record {
      course = left_going v os goes loops
          ∙ ap (λ ns. going ns v.place v.stop os v.operators v.items) nodes
          ∙ ap (λ p. going w.nodes.now p v.stop os v.operators v.items) place
          ∙ ap (λ p. going w.nodes.now turn.to p os v.operators v.items) stop
          ∙ ap (λ q. going w.nodes.now turn.to turn.stop os q v.items) operators
          ∙ ap (λ n. going w.nodes.now turn.to turn.stop os w.operators n) sum;
      answered = ap is_waiting goes;
      items_are = sum;
    }

-- the course after a replication is steady
left_steady : (w v : Walk) (turn : Open) (items : ℕ) → HasLeft w turn items v
    → IsSteady (items_met v) (left v)
left_steady w v turn items h =
    subst (λ n. IsSteady n (left v)) (sym h.items_are)
    (subst (IsSteady (w.items + items)) (sym h.course)
    (steady_going w.nodes.now turn.to turn.stop (take (length w.loops.items - 1) w.loops.items)
    w.operators (w.items + items)))

pub turns_passed : (w v : Walk) (turn : Open) (r : Run) → IsInnermost w turn
    → w.items + r.items ≤ most_items
    → TurnsRun turn.turns (tree_between w.nodes.now turn.from turn.to) w.operators r
    → 0 < r.items → HasLeft w turn r.items v → PassesRun w r v
unfolding items_met
turns_passed w v turn r inner room h some has =
    let os = take (length w.loops.items - 1) w.loops.items in
    record {
      leads =
          leads_from _ _ _ _ r
          (entered w os turn inner.goes inner.loops_are inner.passed) (sym has.course)
          (h.leads w.items (rest_then w.nodes.now turn.to turn.stop (behind_all w.nodes.now os))
          room);
      answered = has.answered;
      steady = left_steady w v turn r.items has;
      few = h.few;
      some_item = some;
      items_are = has.items_are;
      within = omega (arith, has.items_are, room);
    }

pub elements_passed : (w v : Walk) (r : Run) → w.state ≡ Going → v.state ≡ Going
    → v.nodes.now ≡ w.nodes.now → v.place ≡ w.place + r.items → v.stop ≡ w.stop
    → v.loops.items ≡ w.loops.items → v.operators ≡ w.operators → v.items ≡ w.items + r.items
    → w.items + r.items ≤ most_items → 0 < r.items
    → BeginsRun (tree_between w.nodes.now w.place w.stop) w.operators r
    (tree_between w.nodes.now (w.place + r.items) w.stop) → PassesRun w r v
unfolding waits items_met
elements_passed w v r was goes nodes place stop loops operators sum room some h =
    let os = w.loops.items in
    let on : left v
    ≡ going w.nodes.now (w.place + r.items) w.stop os w.operators (w.items + r.items) =
    left_going v os goes loops
    ∙ ap (λ ns. going ns v.place v.stop os v.operators v.items) nodes
    ∙ ap (λ p. going w.nodes.now p v.stop os v.operators v.items) place
    ∙ ap (λ p. going w.nodes.now (w.place + r.items) p os v.operators v.items) stop
    ∙ ap (λ q. going w.nodes.now (w.place + r.items) w.stop os q v.items) operators
    ∙ ap (λ n. going w.nodes.now (w.place + r.items) w.stop os w.operators n) sum in
    record {
      leads =
          leads_from _ _ _ _ r (left_going w os was refl) (sym on)
          (h.leads w.items (behind_all w.nodes.now os) room);
      answered = ap is_waiting goes;
      steady =
          subst (λ n. IsSteady n (left v)) (sym sum)
          (subst (IsSteady (w.items + r.items)) (sym on)
          (steady_going w.nodes.now (w.place + r.items) w.stop os w.operators
          (w.items + r.items)));
      few = h.few;
      some_item = some;
      items_are = sum;
      within = omega (arith, sum, room);
    }

-- ---- turns with the same fields

field_asks : (d used : ℕ) (found : Option Spec) (spec : Spec) (later : Course)
    → used < most_items → found ≡ Some spec
    → After (item used (asks_if found (used + 1) d (λ n. later)))
    (record { fxy = d; spec = spec; number = 0 } ∷ []) later
unfolding After
field_asks d used found spec later room is =
    subst (λ c. After c (record { fxy = d; spec = spec; number = 0 } ∷ []) later)
    (sym (item-below used _ room ∙ ap (λ o. asks_if o (used + 1) d (λ n. later)) is))
    (refl, refl, refl)

pub element_begins : (d : ℕ) (e : Element) (rest : List Node) (q : Operators) (spec : Spec)
    → effective d e q ≡ Some spec → same_kind spec.kind kinds.Count ≡ false
    → BeginsFields (tree_of (nodes.Element d e ∷ rest)) q
    (record { fxy = d; spec = spec } ∷ []) (tree_of rest)
unfolding tree_within course_then
element_begins d e rest q spec is kind = record {
  no_count = (kind, tt);
  asked = λ used after room.
      field_asks d used (effective d e q) spec (course_then (tree_of rest) q (used + 1) after)
      (omega (arith, room)) is;
}

pub untouched_begins : (d : ℕ) (e : Element) (rest : List Node) (q : Operators) (spec : Spec)
    → untouched e ≡ Some spec → same_kind spec.kind kinds.Count ≡ false
    → BeginsFields (tree_of (nodes.Untouched d e ∷ rest)) q
    (record { fxy = d; spec = spec } ∷ []) (tree_of rest)
unfolding tree_within course_then
untouched_begins d e rest q spec is kind = record {
  no_count = (kind, tt);
  asked = λ used after room.
      field_asks d used (untouched e) spec (course_then (tree_of rest) q (used + 1) after)
      (omega (arith, room)) is;
}

pub none_begin : (t : Tree) (q : Operators) → BeginsFields t q [] t
unfolding After
none_begin t q = record {
  no_count = tt;
  asked = λ used after room.
      let same : used ≡ used + 0 = omega arith in
      ap (λ n. course_then t q n after) same;
}

all_joined : {X : Type 0} → (P : X → Type 0) (xs ys : List X) → AllByRecursion P xs
    → AllByRecursion P ys → AllByRecursion P (xs ++ ys)
all_joined P [] ys h g = g
all_joined P (x ∷ xs) ys h g = (h.0, all_joined P xs ys h.1 g)

pub one_begins : (a b c : Tree) (q : Operators) (fields grown : List CommonField) (f : CommonField)
    → grown ≡ fields ++ f ∷ [] → BeginsFields a q fields b → BeginsFields b q (f ∷ []) c
    → BeginsFields a q grown c
one_begins a b c q fields grown f is h g =
    subst (λ fs. BeginsFields a q fs c) (sym is) (record {
      no_count = all_joined (λ f. same_kind f.spec.kind kinds.Count ≡ false) fields (f ∷ [])
          h.no_count g.no_count;
      asked = λ used after room.
          let size : length (fields ++ f ∷ []) ≡ length fields + 1 =
          length-append fields (f ∷ []) in
          let same : used + length fields + 1 ≡ used + length (fields ++ f ∷ []) =
          omega (arith, size) in
          subst (λ fs. After (course_then a q used after) fs
          (course_then c q (used + length (fields ++ f ∷ [])) after))
          (sym (map-append told fields (f ∷ [])))
          (after_joined _ (course_then b q (used + length fields) after) _ (map told fields)
          (told f ∷ []) (h.asked used after (omega (arith, room, size)))
          (subst (λ n. After (course_then b q (used + length fields) after) (told f ∷ [])
          (course_then c q n after)) same
          (g.asked (used + length fields) after (omega (arith, room, size)))));
    })

pub count_repeated : (n : ℕ) (fields : List CommonField) → HaveNoCount fields
    → HaveNoCount (repeated n fields)
unfolding repeated
count_repeated zero fields none = tt
count_repeated (suc n) fields none =
    all_joined (λ f. same_kind f.spec.kind kinds.Count ≡ false) fields (repeated n fields) none
    (count_repeated n fields none)

turns_ask : (n : ℕ) (t : Tree) (q : Operators) (fields : List CommonField)
    → BeginsFields t q fields trees.done → (used : ℕ) (after : Then)
    → used + n * (1 + length fields) ≤ most_items
    → After (turns n (course_then t) q used after) (map told (repeated n fields))
    (after q (used + n * (1 + length fields)))
unfolding turns course_then repeated After
turns_ask zero t q fields h used after room =
    let same : used ≡ used + 0 * (1 + length fields) = omega arith in
    ap (after q) same
turns_ask (suc n) t q fields h used after room =
    let items = turn_items n (length fields) in
    let others =
    turns_ask n t q fields h (used + 1 + length fields) after (omega (arith, items, room)) in
    let next : used + 1 + length fields + n * (1 + length fields)
    ≡ used + suc n * (1 + length fields) =
    omega (arith, items) in
    let after_turn : Then = λ q used. turns n (course_then t) q used after in
    let last = after q (used + suc n * (1 + length fields)) in
    subst (λ c. After c (map told (fields ++ repeated n fields)) last)
    (sym (item-below used (course_then t q (used + 1) after_turn) (omega (arith, items, room))))
    (subst (λ fs. After (course_then t q (used + 1) after_turn) fs last)
    (sym (map-append told fields (repeated n fields)))
    (after_joined _ _ last (map told fields) (map told (repeated n fields))
    (h.asked (used + 1) after_turn (omega (arith, items, room)))
    (subst (λ m. After (turns n (course_then t) q (used + 1 + length fields) after)
    (map told (repeated n fields)) (after q m)) next others)))

pub even_turns_passed : (w v : Walk) (turn : Open) (found : EvenTurns) (items : ℕ)
    → IsInnermost w turn → w.items + items ≤ most_items → 0 < turn.turns
    → BeginsFields (tree_between w.nodes.now turn.from turn.to) w.operators found.fields.items
    trees.done
    → found.turns ≡ turn.turns → items ≡ turn.turns * (length found.fields.items + 1)
    → HasLeft w turn items v → PassesTurns w found v
unfolding items_met
even_turns_passed w v turn found items inner room some h same sum has =
    let os = take (length w.loops.items - 1) w.loops.items in
    let fields = found.fields.items in
    let tree = tree_between w.nodes.now turn.from turn.to in
    let then = rest_then w.nodes.now turn.to turn.stop (behind_all w.nodes.now os) in
    let each : items ≡ turn.turns * (1 + length fields) = grind (arith, sum) in
    let fits : w.items + turn.turns * (1 + length fields) ≤ most_items = omega (arith, each, room) in
    let last : then w.operators (w.items + turn.turns * (1 + length fields)) ≡ left v =
    ap (λ n. then w.operators (w.items + n)) (sym each) ∙ sym has.course in
    let few = turns_count turn.turns (length fields) in
    record {
      no_count =
          subst (λ n. HaveNoCount (repeated n fields)) (sym same)
          (count_repeated turn.turns fields h.no_count);
      asked =
          subst (λ n. After (left w) (map told (repeated n fields)) (left v)) (sym same)
          (subst (λ c. After c (map told (repeated turn.turns fields)) (left v))
          (sym (entered w os turn inner.goes inner.loops_are inner.passed))
          (subst (After (turns turn.turns (course_then tree) w.operators w.items then)
          (map told (repeated turn.turns fields))) last
          (turns_ask turn.turns tree w.operators fields h w.items then fits)));
      answered = has.answered;
      steady = left_steady w v turn items has;
      further = omega (arith, has.items_are, each, few, some);
      within = omega (arith, has.items_are, room);
    }

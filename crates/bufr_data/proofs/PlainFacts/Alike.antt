-- Subsets of one size, and turns of a replication, are skipped by their bits.
use Rattle.std.proofs.Common.{◌≡◌, ℕ, ◌+◌, ◌*◌, ◌/◌, ◌≤◌, Bool, false, List, [], ◌∷◌, ◌++◌, length}
use Rattle.std.proofs.Common.{drop, Result, Ok, Err, refl, sym, ap, subst, ◌∙◌, inl, inr, arith}
use Rattle.std.proofs.lemmas.Bool.{cases_Bool}
use Rattle.std.proofs.lemmas.List.{drop-drop, length-drop}
use Rattle.bufr_tables.specs.declared.element.Kind.TheVariants as kinds
use Rattle.bufr_tables.specs.Elements.{same_kind}
use Rattle.bufr_expand.specs.declared.operators.Spec.{Spec}
use Rattle.bufr_expand.specs.declared.walk.Step.TheVariants as steps
use Rattle.bufr_expand.specs.declared.walk.Walk.{Walk}
use Rattle.bufr_expand.specs.Courses.{Course, ends, stops, asks, course}
use Rattle.bufr_expand.specs.Trees.{Tree}
use Rattle.bufr_expand.specs.Unrolling.{NumberedField, After, Allows, Unrolls}
use Rattle.bufr_expand.specs.Limits.{most_items}
use Rattle.bufr_expand.specs.Steady.{IsSteady, course_steady}
use Rattle.bufr_expand.specs.declared.run.Run.{Run}
use Rattle.bufr_expand.specs.Runs.{HasWidth, AddUp, PassesRun, after_joined}
use Rattle.bufr_expand.specs.Walks.{left, items_met, Goes}
use Rattle.bufr_data.specs.declared.plain.fixed_size.Alike.{Alike}
use Rattle.bufr_fields.specs.declared.field.Field.{Field}
use Rattle.bufr_data.specs.Plain.Alike.{TakesBits, TakeAll, IsAlike}
use Rattle.bufr_fields.specs.declared.fault.DataFault.{DataFault}
use Rattle.bufr_fields.specs.FormLaws.{same_kind_is}
use Rattle.bufr_fields.specs.Steady.{IsReady, WalkAdvances}
use Rattle.bufr_data.specs.Plain.{SubsetRead, fields_at}
use Rattle.bufr_fields.specs.Forms.{number_of}
use Rattle.bufr_data.specs.Plain.Reads.{behind_fields}
use Rattle.bufr_data.specs.Plain.Starts.{PassesFields, PassesSubset}
use Rattle.bufr_fields.specs.StepLaws.{asks_field}
use Rattle.bufr_data.proofs.PlainFacts.Passed.{text_passes, text_ends, number_passes, number_ends}
use Rattle.bufr_data.proofs.PlainFacts.Reads.{asked_field, found_is, behind_none}
use Rattle.bufr_data.proofs.KindFacts.{kinds_differ}

pub text_takes : (spec : Spec) (b w : ℕ) → spec.kind ≡ kinds.Text → b ≡ 8 * w → w ≡ spec.width / 8
    → TakesBits spec b
text_takes spec b w is times eighth = record {
  there = λ i front enough. text_passes i spec front (drop b front) b w is times eighth enough refl;
  short = λ i front short. text_ends i spec front b w is times eighth short;
}

pub number_takes : (spec : Spec) (b : ℕ) → (spec.kind ≡ kinds.Text → ⊥) → spec.width ≤ 64
    → b ≡ spec.width → TakesBits spec b
number_takes spec b other few size = record {
  there = λ i front enough. number_passes i spec front (drop b front) b other few size enough refl;
  short = λ i front short. number_ends i spec front b other few size short;
}

-- a field with an unknown number
abbrev pub untold : ℕ → Spec → NumberedField
untold d spec = record { fxy = d; spec = spec; number = 0 }

one_asked : (met d : ℕ) (spec : Spec) (more : ℕ → Course)
    → After (asks met d spec more) (untold d spec ∷ []) (more 0)
unfolding After
one_asked met d spec more = (refl, refl, refl)

take_joined : (xs ys : List NumberedField) (a b c : ℕ) → c ≡ a + b → TakeAll xs a → TakeAll ys b
    → TakeAll (xs ++ ys) c
take_joined [] ys a b c sum h g = let same : b ≡ c = omega (arith, sum, h) in subst (TakeAll ys) same g
take_joined (x ∷ xs) ys a b c sum h g =
    (h.0, h.1 + b, h.2, h.3, take_joined xs ys h.1 b (h.1 + b) refl h.4 g, omega (arith, sum, h.5))

-- the fields before the walk's place take these bits
pub record Measured (c : Course) (bits : ℕ) (later : Course) : Type 0 where
  pub fields : List NumberedField
  pub behind : After c fields later
  pub taken : TakeAll fields bits

pub none_measured : (c later : Course) → later ≡ c → Measured c 0 later
unfolding After
none_measured c later is = record { fields = []; behind = sym is; taken = refl }

more_measured : (c d e : Course) (bits own grown : ℕ) → grown ≡ bits + own → Measured c bits d
    → Measured d own e → Measured c grown e
more_measured c d e bits own grown sum m n = record {
  fields = m.fields ++ n.fields;
  behind = after_joined c d e m.fields n.fields m.behind n.behind;
  taken = take_joined m.fields n.fields bits own grown sum m.taken n.taken;
}

pub one_measured : (c : Course) (old new : Walk) (bits grown own d : ℕ) (spec : Spec)
    → grown ≡ bits + own → Goes (left old) (Ok (steps.Field d spec)) new → TakesBits spec own
    → Measured c bits (left old) → Measured c grown (left new)
one_measured c old new bits grown own d spec sum goes takes m =
    let a = asks_field (left old) d spec new goes in
    let P : Course → Course → Type 0 = λ x y. After x (untold d spec ∷ []) y in
    let asked : P (left old) (a.more 0) =
    subst (λ x. P x (a.more 0)) (sym a.is) (one_asked a.met d spec a.more) in
    more_measured c (left old) (left new) bits own grown sum m (record {
      fields = untold d spec ∷ [];
      behind = subst (P (left old)) (sym a.after) asked;
      taken = (own, 0, a.kind, takes, refl, omega arith);
    })

in_front_of : (field : Field) (fields : List Field) (o : Result SubsetRead DataFault)
    → behind_fields (field ∷ []) (behind_fields fields o) ≡ behind_fields (field ∷ fields) o
in_front_of field fields (Ok found) = refl
in_front_of field fields (Err e) = refl

asked_pass : (used i : ℕ) (c later : Course) (fields : List NumberedField) (bits : ℕ) (front : List Bool)
    → IsSteady used c → After c fields later → TakeAll fields bits → bits ≤ length front
    → (read : List Field) × (fields_at 1 i c front
    ≡ behind_fields read (fields_at 1 (i + length fields) later (drop bits front)))
unfolding After IsSteady
asked_pass used i c later [] bits front steady asked taken enough =
    let same : i ≡ i + 0 = omega arith in (
      [],
      ap (λ x. fields_at 1 i x front) asked
          ∙ ap (λ n. fields_at 1 n later front) same
          ∙ ap (λ n. fields_at 1 (i + 0) later (drop n front)) (sym taken)
          ∙ behind_none _,
    )
asked_pass used i (ends n) later (f ∷ fields) bits front steady asked taken enough = absurd asked
asked_pass used i (stops n fault) later (f ∷ fields) bits front steady asked taken enough =
    absurd asked
asked_pass used i (asks m d spec more) later (f ∷ fields) bits front steady asked taken enough =
    let own = taken.0 in
    let kind : same_kind spec.kind kinds.Count ≡ false =
    subst (λ (s : Spec). same_kind s.kind kinds.Count ≡ false) asked.1 taken.2 in
    let takes : TakesBits spec own = subst (λ (s : Spec). TakesBits s own) asked.1 taken.3 in
    let p = takes.there i front (omega (arith, taken.5, enough)) in
    let field : Field = record { fxy = d; spec = spec; raw = p.0 } in
    let same : more (number_of p.0) ≡ more f.number =
    steady.2 kind (number_of p.0) ∙ sym (steady.2 kind f.number) in
    let size : taken.1 ≤ length (drop own front) =
    omega (arith, length-drop own front, taken.5, enough) in
    let others =
    asked_pass m (i + 1) (more f.number) later fields taken.1 (drop own front)
    (steady.3 f.number) asked.2 taken.4 size in
    let rest : drop taken.1 (drop own front) ≡ drop bits front =
    drop-drop taken.1 own front ∙ ap (λ n. drop n front) (sym taken.5) in
    let index : i + 1 + length fields ≡ i + length (f ∷ fields) = omega arith in (
      field ∷ others.0,
      asked_field 1 i m d spec more front (drop own front) p.0 (found_is 1 i _ _ p.1)
          ∙ ap (λ c. behind_fields (field ∷ []) (fields_at 1 (i + 1) c (drop own front))) same
          ∙ ap (behind_fields (field ∷ [])) others.1
          ∙ in_front_of field others.0 _
          ∙ ap (λ n. behind_fields (field ∷ others.0)
          (fields_at 1 n later (drop taken.1 (drop own front)))) index
          ∙ ap (λ xs. behind_fields (field ∷ others.0)
          (fields_at 1 (i + length (f ∷ fields)) later xs)) rest,
    )

fields_pass : (used met i : ℕ) (c : Course) (fields : List NumberedField) (bits : ℕ) (front : List Bool)
    → IsSteady used c → Allows c fields met → TakeAll fields bits → bits ≤ length front
    → PassesSubset (fields_at 1 i c front) met (drop bits front)
unfolding fields_at
fields_pass used met i c fields bits front steady allowed taken enough =
    let p = asked_pass used i c (ends met) fields bits front steady allowed taken enough in
    (p.0 ++ [], p.1)

width_takes : (spec : Spec) → HasWidth spec → TakesBits spec spec.width
width_takes spec has =
    elim (cases_Bool (same_kind spec.kind kinds.Text)) [
      | inl e ↦
          let is = same_kind_is spec.kind kinds.Text e in
          let whole = has.whole_octets is in
          let size : spec.width ≡ 8 * (spec.width / 8) = omega (arith, whole) in
          text_takes spec spec.width (spec.width / 8) is size refl
      | inr e ↦
          let other = kinds_differ spec.kind kinds.Text e in
          let few : spec.width ≤ 64 = omega (arith, has.few_bits other) in
          number_takes spec spec.width other few refl
    ]

widths_take : (fields : List NumberedField) (bits : ℕ) → AddUp fields bits → TakeAll fields bits
unfolding AddUp
widths_take [] bits h = h
widths_take (f ∷ fields) bits h =
    (f.spec.width, h.0, h.1.no_count, width_takes f.spec h.1, widths_take fields h.0 h.2, h.3)

pub turns_measured : (c : Course) (old new : Walk) (run : Run) (bits grown : ℕ)
    → grown ≡ bits + run.bits → PassesRun old run new → Measured c bits (left old)
    → Measured c grown (left new)
turns_measured c old new run bits grown sum passed m =
    more_measured c (left old) (left new) bits run.bits grown sum m (record {
      fields = passed.leads.fields;
      behind = passed.leads.asked;
      taken = widths_take _ _ passed.leads.bits_are;
    })

pub turns_pass : (old new : Walk) (run : Run) (front rest : List Bool) → IsReady old
    → PassesRun old run new → run.bits ≤ length front → rest ≡ drop run.bits front
    → PassesFields run.fields (left old) front (left new) rest
turns_pass old new run front rest ready passed enough behind i =
    let p =
    asked_pass (items_met old) i (left old) (left new) passed.leads.fields run.bits front
    ready.steady passed.leads.asked (widths_take _ _ passed.leads.bits_are) enough in (
      p.0,
      p.1
          ∙ ap (λ n. behind_fields p.0 (fields_at 1 (i + n) (left new) (drop run.bits front)))
          passed.leads.fields_are
          ∙ ap (λ xs. behind_fields p.0 (fields_at 1 (i + run.fields) (left new) xs)) (sym behind),
    )

pub turns_advance : (old new : Walk) (run : Run) → PassesRun old run new → WalkAdvances old new
turns_advance old new run passed = record {
  ready = record { answered = passed.answered; steady = passed.steady };
  further = omega (arith, passed.items_are, passed.some_item);
  within = passed.within;
}

pub alike_passes : (tree : Tree) (alike : Alike) (used : ℕ) (front rest : List Bool)
    → ((tree : Tree) (used : ℕ) (fields : List NumberedField) (met : ℕ)
    → used ≤ most_items → Allows (course tree used) fields met → Unrolls tree used fields met)
    → ((tree : Tree) (used : ℕ) (fields : List NumberedField) (met : ℕ)
    → Unrolls tree used fields met → Allows (course tree used) fields met)
    → IsAlike tree alike → used + alike.items ≤ most_items → alike.bits ≤ length front
    → rest ≡ drop alike.bits front
    → PassesSubset (fields_at 1 1 (course tree used) front) (used + alike.items) rest
alike_passes tree alike used front rest unrolled allowed is room enough behind =
    let u = unrolled tree 0 is.fields alike.items (omega arith) is.allowed in
    let sum : used + alike.items ≡ used + u.1 = omega (arith, u.3) in
    let here = allowed tree used is.fields (used + alike.items) (u.0, u.1, u.2, sum, room) in
    subst (PassesSubset (fields_at 1 1 (course tree used) front) (used + alike.items)) (sym behind)
    (fields_pass used (used + alike.items) 1 (course tree used) is.fields alike.bits front
    (course_steady tree used) here is.taken enough)

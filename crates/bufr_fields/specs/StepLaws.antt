-- A step of a walk and what its course asks for: for all who read or write fields along a walk.
use Rattle.std.proofs.Common.{◌≡◌, ℕ, ◌<◌, ◌≤◌, ◌^◌, Bool, true, false, Ok, Err, MatchBool, ◌⊎◌}
use Rattle.std.proofs.Common.{refl, sym, ap, subst, ◌∙◌, inl, inr, arith}
use Rattle.bufr_tables.specs.declared.element.Kind.TheVariants as kinds
use Rattle.bufr_tables.specs.Elements.{same_kind}
use Rattle.bufr_expand.specs.Limits.{most_items}
use Rattle.bufr_expand.specs.declared.operators.Spec.{Spec}
use Rattle.bufr_expand.specs.declared.walk.Step.TheVariants as steps
use Rattle.bufr_expand.specs.declared.walk.Walk.{Walk}
use Rattle.bufr_expand.specs.declared.walk.WalkFault.{WalkFault}
use Rattle.bufr_expand.specs.Courses.{Course, ends, stops, asks, course}
use Rattle.bufr_expand.specs.Steady.{IsSteady, course_steady}
use Rattle.bufr_expand.specs.Trees.{Tree}
use Rattle.bufr_expand.specs.Walks.{left, waits, items_met, Goes, Counted, IsBelowCount}
use Rattle.bufr_fields.specs.declared.field.Raw.{Raw}
use Rattle.bufr_fields.specs.Forms.{number_of, has_form_by}
use Rattle.bufr_fields.specs.Fits.{HasForm, of_text, of_number}
use Rattle.bufr_fields.specs.FormLaws.{form_is, same_kind_is}
use Rattle.bufr_fields.specs.Steady.{IsReady, WalkAdvances}

-- ---- what an answer says of the course

-- the course asks for this field, which is no count
pub record AsksField (c : Course) (d : ℕ) (spec : Spec) (w : Walk) : Type 0 where
  pub met : ℕ
  pub more : ℕ → Course
  pub is : c ≡ asks met d spec more
  pub kind : same_kind spec.kind kinds.Count ≡ false
  pub after : left w ≡ more 0
  pub answered : waits w ≡ false
  pub items : items_met w ≡ met

-- the course asks for this count
pub record AsksCount (c : Course) (d : ℕ) (spec : Spec) (w : Walk) : Type 0 where
  pub met : ℕ
  pub more : ℕ → Course
  pub is : c ≡ asks met d spec more
  pub kind : same_kind spec.kind kinds.Count ≡ true
  pub waiting : left w ≡ asks met d spec more
  pub asked : waits w ≡ true

match_bool : (b : Bool) (P Q : Type 0) → MatchBool b P Q → ((b ≡ true) × P) ⊎ ((b ≡ false) × Q)
match_bool true P Q h = inl (refl, h)
match_bool false P Q h = inr (refl, h)

told_same : (b d : ℕ) (s spec : Spec) → b ≡ d → s ≡ spec → ◌≡◌ {A = ℕ × Spec} (b, s) (d, spec)
told_same b d s spec same_d same_s = λ i. (same_d i, same_s i)

-- a walk that returns a field: its course asks for it
pub asks_field : (c : Course) (d : ℕ) (spec : Spec) (w : Walk)
    → Goes c (Ok (steps.Field d spec)) w → AsksField c d spec w
asks_field (ends n) d spec w g = absurd (let e = g.0 in cc)
asks_field (stops n fault) d spec w g = absurd (let e = g.0 in cc)
asks_field (asks met b s more) d spec w g =
    elim (match_bool (same_kind s.kind kinds.Count) _ _ g) [
      | inl h ↦ absurd (let e = h.1.0 in cc)
      | inr h ↦
          let same = told_same b d s spec (let e = h.1.0 in cc) (let e = h.1.0 in cc) in
          subst (λ (x : ℕ × Spec). AsksField (asks met b s more) x.0 x.1 w) same (record {
            met = met;
            more = more;
            is = refl;
            kind = h.0;
            after = h.1.1;
            answered = h.1.2;
            items = h.1.3;
          })
    ]

-- a walk that returns a count: its course asks for it
pub asks_count : (c : Course) (d : ℕ) (spec : Spec) (w : Walk)
    → Goes c (Ok (steps.Count d spec)) w → AsksCount c d spec w
asks_count (ends n) d spec w g = absurd (let e = g.0 in cc)
asks_count (stops n fault) d spec w g = absurd (let e = g.0 in cc)
asks_count (asks met b s more) d spec w g =
    elim (match_bool (same_kind s.kind kinds.Count) _ _ g) [
      | inl h ↦
          let same = told_same b d s spec (let e = h.1.0 in cc) (let e = h.1.0 in cc) in
          subst (λ (x : ℕ × Spec). AsksCount (asks met b s more) x.0 x.1 w) same (record {
            met = met;
            more = more;
            is = refl;
            kind = h.0;
            waiting = h.1.1;
            asked = h.1.2;
          })
      | inr h ↦ absurd (let e = h.1.0 in cc)
    ]

-- a walk that returns the end: its course ends
pub ends_there : (c : Course) (w : Walk) → Goes c (Ok steps.End) w → c ≡ ends (items_met w)
ends_there (ends n) w g = ap ends (sym g.3)
ends_there (stops n fault) w g = absurd (let e = g.0 in cc)
ends_there (asks met b s more) w g =
    elim (match_bool (same_kind s.kind kinds.Count) _ _ g) [
      | inl h ↦ absurd (let e = h.1.0 in cc)
      | inr h ↦ absurd (let e = h.1.0 in cc)
    ]

-- a walk that stops: its course stops
pub stops_there : (c : Course) (fault : WalkFault) (w : Walk) → Goes c (Err fault) w
    → (n : ℕ) × (c ≡ stops n fault)
stops_there (ends n) fault w g = absurd (let e = g.0 in cc)
stops_there (stops n f) fault w g = let e = g.0 in let same : f ≡ fault = cc in
    (n, ap (λ x. stops n x) same)
stops_there (asks met b s more) fault w g =
    elim (match_bool (same_kind s.kind kinds.Count) _ _ g) [
      | inl h ↦ absurd (let e = h.1.0 in cc)
      | inr h ↦ absurd (let e = h.1.0 in cc)
    ]

-- ---- steady courses

-- a steady course at the field that it asks for
pub steady_step : (used met d : ℕ) (spec : Spec) (more : ℕ → Course)
    → IsSteady used (asks met d spec more) → (used < met) × (met ≤ most_items)
    × (same_kind spec.kind kinds.Count ≡ false → (n : ℕ) → more n ≡ more 0)
    × ((n : ℕ) → IsSteady met (more n))
unfolding IsSteady
steady_step used met d spec more s = s

-- after a field the walk goes on, whatever its number is
pub field_goes_on : (old new : Walk) (d : ℕ) (spec : Spec) → IsReady old
    → Goes (left old) (Ok (steps.Field d spec)) new → WalkAdvances old new
field_goes_on old new d spec ready g =
    let a = asks_field (left old) d spec new g in
    let s = steady_step (items_met old) a.met d spec a.more
    (subst (λ (x : Course). IsSteady (items_met old) x) a.is ready.steady) in
    let met = a.items in
    record {
      ready = record { answered = a.answered; steady = rw (a.after, a.items) (s.3 0) };
      further = omega (arith, s.0);
      within = omega (arith, s.1);
    }

-- after a count the walk goes on
pub count_goes_on : (old mid new : Walk) (d : ℕ) (spec : Spec) (n : ℕ) → IsReady old
    → Goes (left old) (Ok (steps.Count d spec)) mid → Counted (left mid) n new
    → WalkAdvances old new
count_goes_on old mid new d spec n ready g counted =
    let a = asks_count (left old) d spec mid g in
    let s = steady_step (items_met old) a.met d spec a.more
    (subst (λ (x : Course). IsSteady (items_met old) x) a.is ready.steady) in
    let told = subst (λ (x : Course). Counted x n new) a.waiting counted in
    let met = told.2 in
    record {
      ready = record { answered = told.1; steady = rw (told.0, told.2) (s.3 n) };
      further = omega (arith, s.0);
      within = omega (arith, s.1);
    }

-- ---- counts

count_form : (spec : Spec) (raw : Raw) → same_kind spec.kind kinds.Count ≡ true → HasForm spec raw
    → number_of raw < 2 ^ spec.width
count_form spec raw count (of_number n other few below) = below
count_form spec raw count (of_text octets text size all) =
    let both : kinds.Text ≡ kinds.Count = sym text ∙ same_kind_is spec.kind kinds.Count count in
    absurd cc

-- a count that fits may be given to the walk
pub count_fits : (old mid : Walk) (d : ℕ) (spec : Spec) (raw : Raw)
    → Goes (left old) (Ok (steps.Count d spec)) mid → has_form_by spec.kind spec.width raw ≡ true
    → IsBelowCount (left mid) (number_of raw)
count_fits old mid d spec raw g form =
    let a = asks_count (left old) d spec mid g in
    rw a.waiting (count_form spec raw a.kind (form_is spec raw form))

-- ---- what a step asks for, be it a count or another field

pub ready_there : (w : Walk) (tree : Tree) (used : ℕ) → waits w ≡ false → items_met w ≡ used
    → left w ≡ course tree used → IsReady w
ready_there w tree used answered items there =
    record { answered = answered; steady = rw (items, there) (course_steady tree used) }

-- the course asks for this field or count
pub record Asks (c : Course) (d : ℕ) (spec : Spec) : Type 0 where
  pub met : ℕ
  pub more : ℕ → Course
  pub is : c ≡ asks met d spec more

pub field_asked : (c : Course) (d : ℕ) (spec : Spec) (w : Walk)
    → Goes c (Ok (steps.Field d spec)) w → Asks c d spec
field_asked c d spec w g =
    let a = asks_field c d spec w g in record { met = a.met; more = a.more; is = a.is }

pub count_asked : (c : Course) (d : ℕ) (spec : Spec) (w : Walk)
    → Goes c (Ok (steps.Count d spec)) w → Asks c d spec
count_asked c d spec w g =
    let a = asks_count c d spec w g in record { met = a.met; more = a.more; is = a.is }

-- the course asks for this field or count, and `later` is left after its number
pub record GoesOn (c : Course) (d : ℕ) (spec : Spec) (number : ℕ) (later : Course) : Type 0 where
  pub met : ℕ
  pub more : ℕ → Course
  pub is : c ≡ asks met d spec more
  pub after : more number ≡ later

pub field_goes : (old new : Walk) (d : ℕ) (spec : Spec) (number : ℕ) → IsReady old
    → Goes (left old) (Ok (steps.Field d spec)) new → GoesOn (left old) d spec number (left new)
field_goes old new d spec number ready g =
    let a = asks_field (left old) d spec new g in
    let s = steady_step (items_met old) a.met d spec a.more
    (subst (λ (x : Course). IsSteady (items_met old) x) a.is ready.steady) in
    record { met = a.met; more = a.more; is = a.is; after = s.2 a.kind number ∙ sym a.after }

pub count_goes : (old mid new : Walk) (d : ℕ) (spec : Spec) (number : ℕ)
    → Goes (left old) (Ok (steps.Count d spec)) mid → Counted (left mid) number new
    → GoesOn (left old) d spec number (left new)
count_goes old mid new d spec number g counted =
    let a = asks_count (left old) d spec mid g in
    let told = subst (λ (x : Course). Counted x number new) a.waiting counted in
    record { met = a.met; more = a.more; is = a.is; after = sym told.0 }

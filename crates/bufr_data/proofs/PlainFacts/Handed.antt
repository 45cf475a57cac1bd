-- Fields handed out one at a time.
use Rattle.std.proofs.Common.{◌≡◌, ℕ, ◌+◌, Bool, List, [], ◌∷◌, Option, Some, None, Result, Ok, Err}
use Rattle.std.proofs.Common.{◌≤◌, false, drop, length, refl, sym, ap, subst, ◌∙◌}
use Rattle.std.specs.Prelude.{IsOk}
use Rattle.std.proofs.lemmas.List.{drop-drop}
use Rattle.bufr_base.specs.Answers.{◌>>=◌}
use Rattle.bufr_expand.specs.declared.operators.Spec.{Spec}
use Rattle.bufr_expand.specs.declared.walk.Step.TheVariants as steps
use Rattle.bufr_expand.specs.declared.walk.Walk.{Walk}
use Rattle.bufr_expand.specs.declared.walk.WalkFault.{WalkFault}
use Rattle.bufr_expand.specs.declared.walk.WalkFault.TheVariants as faults
use Rattle.bufr_expand.specs.Courses.{Course, ends, stops, asks}
use Rattle.bufr_expand.specs.Steady.{IsSteady}
use Rattle.bufr_expand.specs.Walks as walks
use Rattle.bufr_expand.specs.Walks.{Goes}
use Rattle.bufr_bits.specs.Bits.{bits}
use Rattle.bufr_bits.specs.Ends.{BitPlace, left}
use Rattle.bufr_fields.specs.declared.field.Raw.{Raw}
use Rattle.bufr_fields.specs.declared.field.Field.{Field}
use Rattle.bufr_fields.specs.declared.fault.DataFault.{DataFault}
use Rattle.bufr_data.specs.Plain.{SubsetRead, raw_at, stopped, field_then, fields_at}
use Rattle.bufr_fields.specs.Forms.{number_of}
use Rattle.bufr_data.specs.Plain.Reads.{raw_or_ends, behind_fields}
use Rattle.bufr_data.specs.Plain.Starts.{fields_of}
use Rattle.bufr_expand.specs.declared.even_turns.CommonField.{CommonField}
use Rattle.bufr_data.specs.declared.plain.fields.Due.{Due}
use Rattle.bufr_data.specs.declared.plain.fields.Due.TheVariants.{Step, Text, Nothing}
use Rattle.bufr_data.specs.Handed.{fields_ahead, text_first, StandAhead, StepsTo, StepsToNone}
use Rattle.bufr_data.specs.Handed.{PassesFirst, moved_on}
use Rattle.bufr_data.specs.Plain.Starts.{PassesRaw}
use Rattle.bufr_fields.specs.Steady.{WalkAdvances}
use Rattle.bufr_fields.specs.StepLaws.{asks_field, steady_step, field_goes, field_goes_on, stops_there}
use Rattle.bufr_data.proofs.PlainFacts.Reads.{asked_field, found_is, step_is_read}

then_same : (f : SubsetRead → SubsetRead) (one other : Result SubsetRead DataFault)
    (found : SubsetRead) → ((x : SubsetRead) → one ≡ Ok x → other ≡ Ok x)
    → (one >>= λ x. Ok (f x)) ≡ Ok found → (other >>= λ x. Ok (f x)) ≡ Ok found
then_same f (Ok x) other found same is = ap (λ r. r >>= λ y. Ok (f y)) (same x refl) ∙ is
then_same f (Err e) other found same is = absurd cc

field_found : (i k d : ℕ) (spec : Spec) (one other : ℕ → List Bool → Result SubsetRead DataFault)
    (o : Option (Raw × List Bool)) (found : SubsetRead)
    → ((n : ℕ) (rest : List Bool) (x : SubsetRead) → one n rest ≡ Ok x → other n rest ≡ Ok x)
    → field_then 1 i d spec one o ≡ Ok found → field_then 1 k d spec other o ≡ Ok found
field_found i k d spec one other None found same is = absurd cc
field_found i k d spec one other (Some x) found same is =
    then_same
    (λ (f : SubsetRead).
    record f { fields = record { fxy = d; spec = spec; raw = x.0 } ∷ f.fields })
    (one (number_of x.0) x.1) (other (number_of x.0) x.1) found (same (number_of x.0) x.1) is

found_at_each : (i k : ℕ) (c : Course) (front : List Bool) (found : SubsetRead)
    → fields_at 1 i c front ≡ Ok found → fields_at 1 k c front ≡ Ok found
unfolding fields_at
found_at_each i k (ends n) front found is = is
found_at_each i k (stops met fault) front found is = is
found_at_each i k (asks met d spec more) front found is =
    field_found i k d spec (λ n rest. fields_at 1 (i + 1) (more n) rest)
    (λ n rest. fields_at 1 (k + 1) (more n) rest) (raw_at spec front) found
    (λ n rest x. found_at_each (i + 1) (k + 1) (more n) rest x) is

-- a field, and those found after it
pub record Handed (field : Field) (whole others : Result SubsetRead DataFault) : Type 0 where
  pub there : IsOk others
  pub is : fields_of whole ≡ field ∷ fields_of others

handed_by : (field : Field) (whole one other : Result SubsetRead DataFault) → IsOk whole
    → whole ≡ behind_fields (field ∷ []) one
    → ((x : SubsetRead) → one ≡ Ok x → other ≡ Ok x) → Handed field whole other
handed_by field whole (Ok x) other ok is same = record {
  there = subst IsOk (sym (same x refl)) refl;
  is = ap fields_of is ∙ ap (λ r. field ∷ fields_of r) (sym (same x refl));
}
handed_by field whole (Err e) other ok is same = let none = subst IsOk is ok in absurd cc

pub field_handed : (c after : Course) (front rest : List Bool) (field : Field)
    → IsOk (fields_at 1 1 c front)
    → fields_at 1 1 c front ≡ behind_fields (field ∷ []) (fields_at 1 2 after rest)
    → Handed field (fields_at 1 1 c front) (fields_at 1 1 after rest)
field_handed c after front rest field ok is =
    handed_by field _ _ _ ok is (λ x. found_at_each 2 1 after rest x)

-- the fields after a step of the walk
pub one_handed : (due : Due) (walk after : Walk) (reader rest : BitPlace) (field : Field)
    → due ≡ Step → StandAhead due walk reader
    → fields_at 1 1 (walks.left walk) (left reader)
    ≡ behind_fields (field ∷ []) (fields_at 1 2 (walks.left after) (left rest))
    → WalkAdvances walk after → StepsTo field due walk reader due after rest
one_handed Step walk after reader rest field is stand step advances =
    let h =
    field_handed (walks.left walk) (walks.left after) (left reader) (left rest) field stand.1
    step in
    record { ahead = (advances.ready, h.there); is = h.is }
one_handed (Text f) walk after reader rest field is stand step advances = absurd cc
one_handed Nothing walk after reader rest field is stand step advances = absurd cc

-- the course of what comes next
abbrev due_course : Walk → Due → Course
due_course walk Step = walks.left walk
due_course walk (Text f) = text_first f walk
due_course walk Nothing = ends 0

-- the fields after a text that comes next
pub text_handed : (due : Due) (walk : Walk) (reader rest : BitPlace) (f : CommonField) (raw : Raw)
    → due ≡ Text f → StandAhead due walk reader
    → raw_or_ends 1 1 (raw_at f.spec (left reader)) ≡ Ok (raw, left rest)
    → StepsTo (record { fxy = f.fxy; spec = f.spec; raw = raw }) due walk reader Step walk rest
text_handed Step walk reader rest f raw is stand read = absurd cc
text_handed (Text g) walk reader rest f raw is stand read =
    let same : text_first g walk ≡ text_first f walk = ap (due_course walk) is in
    let field : Field = record { fxy = f.fxy; spec = f.spec; raw = raw } in
    let step : fields_at 1 1 (text_first g walk) (left reader)
    ≡ behind_fields (field ∷ []) (fields_at 1 2 (walks.left walk) (left rest)) =
    ap (λ c. fields_at 1 1 c (left reader)) same
    ∙ asked_field 1 1 0 f.fxy f.spec (λ n. walks.left walk) (left reader) (left rest) raw
    (found_is 1 1 _ _ read) in
    let h =
    field_handed (text_first g walk) (walks.left walk) (left reader) (left rest) field
    stand.1 step in
    record { ahead = (stand.0, h.there); is = h.is }
text_handed Nothing walk reader rest f raw is stand read = absurd cc

read_alike : (met d : ℕ) (spec : Spec) (more : ℕ → Course) (later : Course) (front : List Bool)
    → ((n : ℕ) → more n ≡ later)
    → fields_at 1 1 (asks met d spec more) front ≡ fields_at 1 1 (asks 0 d spec (λ n. later)) front
unfolding fields_at
read_alike met d spec more later front same =
    λ t. fields_at 1 1 (asks 0 d spec (λ n. same n t)) front

-- a text that the walk has passed comes next
pub text_next : (due : Due) (walk after : Walk) (reader rest : BitPlace) (d : ℕ) (spec : Spec)
    → due ≡ Step → StandAhead due walk reader
    → Goes (walks.left walk) (Ok (steps.Field d spec)) after → rest ≡ reader
    → StepsToNone due walk reader (Text (record { fxy = d; spec = spec })) after rest
text_next Step walk after reader rest d spec is stand goes unmoved =
    let a = asks_field (walks.left walk) d spec after goes in
    let s = steady_step (walks.items_met walk) a.met d spec a.more
    (subst (λ (x : Course). IsSteady (walks.items_met walk) x) a.is stand.0.steady) in
    let same : fields_at 1 1 (walks.left walk) (left reader)
    ≡ fields_at 1 1 (text_first (record { fxy = d; spec = spec }) after) (left reader) =
    ap (λ c. fields_at 1 1 c (left reader)) a.is
    ∙ read_alike a.met d spec a.more (walks.left after) (left reader)
    (λ n. s.2 a.kind n ∙ sym a.after) in
    let there : fields_at 1 1 (walks.left walk) (left reader)
    ≡ fields_at 1 1 (text_first (record { fxy = d; spec = spec }) after) (left rest) =
    same
    ∙ ap (λ (r : BitPlace).
    fields_at 1 1 (text_first (record { fxy = d; spec = spec }) after) (left r)) (sym unmoved) in
    record {
      ahead = ((field_goes_on walk after d spec stand.0 goes).ready, subst IsOk there stand.1);
      same = ap fields_of (sym there);
      next = tt;
    }
text_next (Text g) walk after reader rest d spec is stand goes unmoved = absurd cc
text_next Nothing walk after reader rest d spec is stand goes unmoved = absurd cc

-- no field is left
pub none_next : (due : Due) (walk after : Walk) (reader rest : BitPlace) → due ≡ Step
    → fields_of (fields_at 1 1 (walks.left walk) (left reader)) ≡ []
    → StepsToNone due walk reader Nothing after rest
none_next Step walk after reader rest is none =
    record { ahead = tt; same = sym none; next = tt }
none_next (Text f) walk after reader rest is none = absurd cc
none_next Nothing walk after reader rest is none = absurd cc

none_stopped : (fault : WalkFault) → fields_of (stopped fault) ≡ []
none_stopped faults.TooLarge = refl
none_stopped (faults.EffectiveRange d) = refl

pub none_after_fault : (walk after : Walk) (front : List Bool) (fault : WalkFault)
    → Goes (walks.left walk) (Err fault) after
    → fields_of (fields_at 1 1 (walks.left walk) front) ≡ []
unfolding fields_at
none_after_fault walk after front fault goes =
    let s = stops_there (walks.left walk) fault after goes in
    ap (λ c. fields_of (fields_at 1 1 c front)) s.1 ∙ none_stopped fault

then_there : (d : ℕ) (spec : Spec) (after : ℕ → List Bool → Result SubsetRead DataFault)
    (found : Option (Raw × List Bool)) → IsOk (field_then 1 1 d spec after found)
    → IsOk (raw_or_ends 1 1 found)
then_there d spec after None ok = absurd cc
then_there d spec after (Some x) ok = refl

-- the field that a course asks for is there
pub asked_there : (c : Course) (met d : ℕ) (spec : Spec) (more : ℕ → Course) (front : List Bool)
    → c ≡ asks met d spec more → IsOk (fields_at 1 1 c front)
    → IsOk (raw_or_ends 1 1 (raw_at spec front))
unfolding fields_at
asked_there c met d spec more front is ok =
    then_there d spec (λ n rest. fields_at 1 2 (more n) rest) (raw_at spec front)
    (subst (λ x. IsOk (fields_at 1 1 x front)) is ok)

-- a walk that can go on
pub stands_ready : (due : Due) (walk : Walk) (reader : BitPlace) → due ≡ Step
    → StandAhead due walk reader → StandAhead Step walk reader
stands_ready due walk reader is stand = subst (λ d. StandAhead d walk reader) is stand

-- a text or nothing comes next already
pub stays : (due : Due) (walk : Walk) (reader : BitPlace) → (due ≡ Step → ⊥)
    → StandAhead due walk reader → StepsToNone due walk reader due walk reader
stays Step walk reader other stand = absurd (other refl)
stays (Text f) walk reader other stand = record { ahead = stand; same = refl; next = tt }
stays Nothing walk reader other stand = record { ahead = stand; same = refl; next = tt }

-- no text comes next: no field is left
pub none_after : (due : Due) (walk after : Walk) (reader rest : BitPlace) (later : Due)
    → StepsToNone due walk reader later after rest → ((f : CommonField) → later ≡ Text f → ⊥)
    → (fields_ahead due walk reader ≡ []) × (fields_ahead later after rest ≡ [])
none_after due walk after reader rest Step to none = absurd to.next
none_after due walk after reader rest (Text f) to none = absurd (none f refl)
none_after due walk after reader rest Nothing to none = (sym to.same, refl)

-- the value of the field to which a walk steps is there
pub value_there : (walk after : Walk) (reader : BitPlace) (d : ℕ) (spec : Spec)
    → StandAhead Step walk reader → Goes (walks.left walk) (Ok (steps.Field d spec)) after
    → IsOk (raw_or_ends 1 1 (raw_at spec (left reader)))
value_there walk after reader d spec stand goes =
    let a = asks_field (walks.left walk) d spec after goes in
    asked_there (walks.left walk) a.met d spec a.more (left reader) a.is stand.1

-- the walk passes a field that is not chosen, and the reader its bits
pub field_passed : (P : ℕ → Bool) (walk after : Walk) (reader : BitPlace) (d : ℕ) (spec : Spec)
    (size : ℕ) → StandAhead Step walk reader → Goes (walks.left walk) (Ok (steps.Field d spec)) after
    → P d ≡ false
    → ((front : List Bool) → IsOk (raw_or_ends 1 1 (raw_at spec front))
    → (size ≤ length front) × PassesRaw 1 spec front (drop size front))
    → StandAhead Step after (moved_on reader size)
    × PassesFirst P (fields_ahead Step walk reader) (fields_ahead Step after (moved_on reader size))
field_passed P walk after reader d spec size stand goes unasked takes =
    let taken = takes (left reader) (value_there walk after reader d spec stand goes) in
    let behind : left (moved_on reader size) ≡ drop size (left reader) =
    sym (drop-drop size reader.place (bits reader.octets)) in
    let field : Field = record { fxy = d; spec = spec; raw = taken.1.0 } in
    let h =
    one_handed Step walk after reader (moved_on reader size) field refl stand
    (step_is_read (walks.left walk) (walks.left after) 1 d spec (left reader)
    (left (moved_on reader size)) taken.1.0
    (field_goes walk after d spec (number_of taken.1.0) stand.0 goes)
    (taken.1.1 ∙ ap (λ bs. Ok (taken.1.0, bs)) (sym behind)))
    (field_goes_on walk after d spec stand.0 goes) in
    (h.ahead, (field, unasked, h.is))

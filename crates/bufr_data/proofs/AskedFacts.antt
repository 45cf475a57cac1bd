-- Skipping fields one by one up to the first chosen one; a walk ahead that finds no chosen field.
use Rattle.std.proofs.Common.{◌≡◌, ℕ, ◌+◌, Bool, true, false, List, [], ◌∷◌, ◌++◌, sym, subst}
use Rattle.std.proofs.Common.{Option, Some, None, Result, Ok, Err}
use Rattle.std.specs.Bool.{OnTrue}
use Rattle.std.specs.Prelude.{OnErr, IfSome, IfNone}
use Rattle.std.proofs.Common.{ap, ◌∙◌, append_assoc, append-nil}
use Rattle.bufr_bits.specs.Ends.{BitPlace, left}
use Rattle.bufr_base.specs.Answers.{◌>>=◌}
use Rattle.bufr_expand.specs.declared.operators.Spec.{Spec}
use Rattle.bufr_expand.specs.declared.walk.Walk.{Walk}
use Rattle.bufr_expand.specs.declared.walk.WalkFault.{WalkFault}
use Rattle.bufr_expand.specs.declared.walk.WalkFault.TheVariants as faults
use Rattle.bufr_expand.specs.Asked.{TellsNone}
use Rattle.bufr_expand.specs.Courses.{Course, ends, stops, asks}
use Rattle.bufr_expand.specs.Walks as walks
use Rattle.bufr_fields.specs.declared.field.Field.{Field}
use Rattle.bufr_fields.specs.declared.field.NumberField.{NumberField}
use Rattle.bufr_fields.specs.Values.{as_field}
use Rattle.bufr_fields.specs.declared.field.Raw.{Raw}
use Rattle.bufr_fields.specs.declared.fault.DataFault.{DataFault}
use Rattle.bufr_data.specs.Handed.{HandsOut, HandsOutAsked, NoneAsked, FirstIsAsked, PassesFirst}
use Rattle.bufr_data.specs.Handed.{PassesUnasked, fields_ahead}
use Rattle.bufr_data.specs.declared.plain.fields.Due.{Due}
use Rattle.bufr_data.specs.declared.plain.fields.Due.TheVariants.{Step, Text, Nothing}
use Rattle.bufr_data.specs.Plain.{SubsetRead, fields_at, field_then, raw_at, stopped}
use Rattle.bufr_fields.specs.Forms.{number_of}
use Rattle.bufr_data.specs.Plain.Starts.{fields_of}
use Rattle.bufr_data.proofs.ListFacts.{all_joined}

module _ (asks : ℕ → Bool) (all old new : List Field) where
  pub one_passed : PassesUnasked asks all old → PassesFirst asks old new
      → PassesUnasked asks all new
  one_passed so_far step = (
    so_far.0 ++ step.0 ∷ [],
    all_joined (λ f. asks f.fxy ≡ false) so_far.0 (step.0 ∷ []) so_far.1 (step.1, tt),
    so_far.2 ∙ ap (λ fields. so_far.0 ++ fields) step.2
        ∙ sym (append_assoc so_far.0 (step.0 ∷ []) new),
  )

pub asked_handed : (P : ℕ → Bool) (all old new : List Field) (found : Option Field)
    → PassesUnasked P all old → FirstIsAsked P old → HandsOut old found new
    → HandsOutAsked P all found new
asked_handed P all old new (Some f) so_far first handed = (
  so_far.0,
  so_far.1,
  subst (FirstIsAsked P) handed first,
  so_far.2 ∙ ap (λ fields. so_far.0 ++ fields) handed,
)
asked_handed P all old new None so_far first handed =
    let none : all ≡ so_far.0 =
    so_far.2 ∙ ap (λ fields. so_far.0 ++ fields) handed.0 ∙ append-nil so_far.0 in
    (subst (NoneAsked P) (sym none) so_far.1, handed.1)

-- a chosen field after those skipped
pub found_asked : (P : ℕ → Bool) (all old new : List Field) (f : Field) → PassesUnasked P all old
    → P f.fxy ≡ true → old ≡ f ∷ new → HandsOutAsked P all (Some f) new
found_asked P all old new f so_far asked is =
    (so_far.0, so_far.1, asked, so_far.2 ∙ ap (λ fields. so_far.0 ++ fields) is)

-- the same where a step is due
pub found_due : (P : ℕ → Bool) (due : Due) (walk after : Walk) (reader rest : BitPlace)
    (all : List Field) (f : Field) → due ≡ Step → fields_ahead due walk reader ≡ all
    → HandsOutAsked P (fields_ahead Step walk reader) (Some f) (fields_ahead Step after rest)
    → HandsOutAsked P all (Some f) (fields_ahead due after rest)
found_due P due walk after reader rest all f is seen handed =
    subst (λ (old : List Field). HandsOutAsked P old (Some f) (fields_ahead due after rest)) seen
    (subst (λ (d : Due). HandsOutAsked P (fields_ahead d walk reader) (Some f)
    (fields_ahead d after rest)) (sym is) handed)

pub passed_due : (P : ℕ → Bool) (due : Due) (walk : Walk) (reader : BitPlace)
    (all new : List Field) → due ≡ Step → fields_ahead due walk reader ≡ all
    → PassesUnasked P (fields_ahead Step walk reader) new → PassesUnasked P all new
passed_due P due walk reader all new is seen passed =
    subst (λ (old : List Field). PassesUnasked P old new) seen
    (subst (λ (d : Due). PassesUnasked P (fields_ahead d walk reader) new) (sym is) passed)

-- a number that comes next
pub number_handed : (P : ℕ → Bool) (all old new : List Field) (found : Option NumberField)
    → PassesUnasked P all old → FirstIsAsked P old
    → IfSome found (λ n. HandsOut old (Some (as_field n)) new)
    → IfSome found (λ n. HandsOutAsked P all (Some (as_field n)) new)
number_handed P all old new (Some n) so_far first handed =
    asked_handed P all old new (Some (as_field n)) so_far first handed
number_handed P all old new None so_far first handed = tt

-- or none does
pub number_refused : (P : ℕ → Bool) (all old new : List Field) (found : Option NumberField)
    → PassesUnasked P all old → IfNone found (new ≡ old)
    → IfNone found (PassesUnasked P all new)
number_refused P all old new (Some n) so_far unmoved = tt
number_refused P all old new None so_far unmoved =
    subst (PassesUnasked P all) (sym unmoved) so_far

asked_in_front : (P : ℕ → Bool) (f : Field) (r : Result SubsetRead DataFault) → P f.fxy ≡ true
    → FirstIsAsked P (fields_of (r >>= λ found. Ok (record found { fields = f ∷ found.fields })))
asked_in_front P f (Ok found) asked = asked
asked_in_front P f (Err e) asked = tt

pub asked_from : (P : ℕ → Bool) (j i d : ℕ) (spec : Spec)
    (after : ℕ → List Bool → Result SubsetRead DataFault) (found : Option (Raw × List Bool))
    → P d ≡ true → FirstIsAsked P (fields_of (field_then j i d spec after found))
asked_from P j i d spec after None asked = tt
asked_from P j i d spec after (Some x) asked =
    asked_in_front P (record { fxy = d; spec = spec; raw = x.0 }) (after (number_of x.0) x.1) asked

none_stopped : (P : ℕ → Bool) (fault : WalkFault) → NoneAsked P (fields_of (stopped fault))
none_stopped P faults.TooLarge = tt
none_stopped P (faults.EffectiveRange d) = tt

none_in_front : (P : ℕ → Bool) (f : Field) (r : Result SubsetRead DataFault) → P f.fxy ≡ false
    → NoneAsked P (fields_of r)
    → NoneAsked P (fields_of (r >>= λ found. Ok (record found { fields = f ∷ found.fields })))
none_in_front P f (Ok found) unasked h = (unasked, h)
none_in_front P f (Err e) unasked h = tt

none_from : (P : ℕ → Bool) (j i d : ℕ) (spec : Spec)
    (after : ℕ → List Bool → Result SubsetRead DataFault) (found : Option (Raw × List Bool))
    → P d ≡ false → ((n : ℕ) (rest : List Bool) → NoneAsked P (fields_of (after n rest)))
    → NoneAsked P (fields_of (field_then j i d spec after found))
none_from P j i d spec after None unasked h = tt
none_from P j i d spec after (Some x) unasked h =
    none_in_front P (record { fxy = d; spec = spec; raw = x.0 }) (after (number_of x.0) x.1) unasked
    (h (number_of x.0) x.1)

pub none_read : (P : ℕ → Bool) (j i : ℕ) (c : Course) (front : List Bool) → TellsNone P c
    → NoneAsked P (fields_of (fields_at j i c front))
unfolding fields_at TellsNone
none_read P j i (ends met) front h = tt
none_read P j i (stops met fault) front h = none_stopped P fault
none_read P j i (asks met d spec more) front h =
    none_from P j i d spec (λ n rest. fields_at j (i + 1) (more n) rest) (raw_at spec front) h.0
    (λ n rest. none_read P j (i + 1) (more n) rest (h.1 n))

pub none_ahead : (P : ℕ → Bool) (due : Due) (w : Walk) (r : BitPlace) (fields : List Field)
    → due ≡ Step → fields_ahead due w r ≡ fields → TellsNone P (walks.left w)
    → NoneAsked P fields
none_ahead P Step w r fields e view h =
    subst (NoneAsked P) view (none_read P 1 1 (walks.left w) (left r) h)
none_ahead P (Text f) w r fields e view h = absurd cc
none_ahead P Nothing w r fields e view h = absurd cc

-- what holds whatever the answer is holds of an error
pub on_refusal : {T E P : Type 0} (answer : Result T E) → P → OnErr answer P
on_refusal (Ok x) holds = tt
on_refusal (Err e) holds = holds

pub none_if_told : (P : ℕ → Bool) (due : Due) (w : Walk) (r : BitPlace) (fields : List Field)
    (told : Bool) → due ≡ Step → fields_ahead due w r ≡ fields
    → OnTrue told (TellsNone P (walks.left w)) → OnTrue told (NoneAsked P fields)
none_if_told P due w r fields true e view h = none_ahead P due w r fields e view h
none_if_told P due w r fields false e view h = tt

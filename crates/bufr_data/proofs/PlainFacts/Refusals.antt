-- Plain data are refused at the first field that can't be read, and subsets at the first misfit, by
-- the course.
use Rattle.std.proofs.Common.{◌≡◌, ℕ, ◌+◌, ◌<◌, Bool, List, [], ◌∷◌, ◌++◌, length, Err, sym, ap}
use Rattle.bufr_base.specs.AnswerLaws.{err_is}
use Rattle.bufr_expand.specs.declared.walk.WalkFault.{WalkFault}
use Rattle.bufr_expand.specs.declared.walk.WalkFault.TheVariants as walks
use Rattle.bufr_expand.specs.Courses.{Course, ends, stops, asks, course}
use Rattle.bufr_expand.specs.Trees.{Tree}
use Rattle.bufr_fields.specs.declared.field.Field.{Field}
use Rattle.bufr_fields.specs.declared.field.Subset.{Subset}
use Rattle.bufr_fields.specs.declared.fault.DataFault.{DataFault}
use Rattle.bufr_fields.specs.declared.fault.DataFault.TheVariants as faults
use Rattle.bufr_fields.specs.declared.fault.MisfitFault.{MisfitFault}
use Rattle.bufr_fields.specs.declared.fault.MisfitFault.TheVariants as misfits
use Rattle.bufr_data.specs.Plain.{plain, plain_subsets, stopped}
use Rattle.bufr_fields.specs.Fits.{AllFitWithin}
use Rattle.bufr_fields.specs.Asked.{IsAsked, Passes}
use Rattle.bufr_data.specs.Plain.Refusals.{BeginsWithNone}

-- the fault of data if the walk stops
abbrev pub IsStop : WalkFault → DataFault → Type 0
IsStop walks.TooLarge fault = fault ≡ faults.TooLarge
IsStop (walks.EffectiveRange d) fault = fault ≡ faults.EffectiveRange d

pub stop_is : {A : Type 0} (why : WalkFault) (fault : DataFault) → stopped {A = A} why ≡ Err fault
    → IsStop why fault
stop_is walks.TooLarge fault e = sym (err_is _ _ e)
stop_is (walks.EffectiveRange d) fault e = sym (err_is _ _ e)

pub stop_again : {A : Type 0} (why : WalkFault) (fault : DataFault) → IsStop why fault
    → stopped {A = A} why ≡ Err fault
stop_again walks.TooLarge fault is = ap (λ f. Err f) (sym is)
stop_again (walks.EffectiveRange d) fault is = ap (λ f. Err f) (sym is)

-- subset j goes on neither with field i nor with its end: no room for an item, a spec out of range,
-- or the data end in it
abbrev pub CannotStand : ℕ → ℕ → Course → List Bool → DataFault → Type 0
CannotStand j i (ends n) front fault = ⊥
CannotStand j i (stops n why) front fault = IsStop why fault
CannotStand j i (asks met d spec more) front fault =
    (fault ≡ faults.DataEnds j i) × BeginsWithNone spec front

-- the first field of subset j, from field i on, that can't be read; the course asks for those
-- before it
pub record FieldRefused (j i : ℕ) (c : Course) (front : List Bool) (fault : DataFault)
    : Type 0 where
  pub before : List Field
  pub next : Course
  pub rest : List Bool
  pub passed : Passes c before next
  pub stand : front ≡ plain before ++ rest
  pub refused : CannotStand j (i + length before) next rest fault

-- the first of n subsets, from subset j on, with a field that can't be read; those before it fit
pub record SubsetRefused (tree : Tree) (j n used : ℕ) (front : List Bool) (fault : DataFault)
    : Type 0 where
  pub before : List Subset
  pub items : ℕ
  pub rest : List Bool
  pub fewer : length before < n
  pub fit : AllFitWithin tree used before items
  pub stand : front ≡ plain_subsets before ++ rest
  pub refused : FieldRefused (j + length before) 1 (course tree items) rest fault

-- the fields from field i of subset j on do not fit at once: one is left over or missing or
-- differs, an item is above the limit, or a spec is out of range
abbrev pub CannotGoOn : ℕ → ℕ → Course → List Field → MisfitFault → Type 0
CannotGoOn j i (ends n) [] fault = ⊥
CannotGoOn j i (ends n) (f ∷ fields) fault = fault ≡ misfits.DoesNotFit j i
CannotGoOn j i (stops n walks.TooLarge) fields fault = fault ≡ misfits.TooLarge
CannotGoOn j i (stops n (walks.EffectiveRange d)) fields fault = fault ≡ misfits.DoesNotFit j i
CannotGoOn j i (asks met d spec more) [] fault = fault ≡ misfits.DoesNotFit j i
CannotGoOn j i (asks met d spec more) (f ∷ fields) fault =
    (fault ≡ misfits.DoesNotFit j i) × (IsAsked d spec f → ⊥)

-- the first misfit from field i of subset j on; the course asks for the fields before it
pub record FieldMisfits (j i : ℕ) (c : Course) (fields : List Field) (fault : MisfitFault)
    : Type 0 where
  pub before : List Field
  pub others : List Field
  pub next : Course
  pub passed : Passes c before next
  pub joined : fields ≡ before ++ others
  pub refused : CannotGoOn j (i + length before) next others fault

-- the first subset, from subset j on, that does not fit
pub record SubsetMisfits (tree : Tree) (j used : ℕ) (subsets : List Subset) (fault : MisfitFault)
    : Type 0 where
  pub before : List Subset
  pub here : Subset
  pub others : List Subset
  pub items : ℕ
  pub joined : subsets ≡ before ++ here ∷ others
  pub fit : AllFitWithin tree used before items
  pub refused : FieldMisfits (j + length before) 1 (course tree items) here.fields fault

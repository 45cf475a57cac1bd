-- The first column that can't be read, by the course, is the first by the template's tree.
use Rattle.std.proofs.Common.{◌≡◌, ℕ, ◌+◌, ◌*◌, ◌<◌, ◌≤◌, Bool, List, length, map, ◌++◌}
use Rattle.std.proofs.Common.{arith, ◌⊎◌, inl, inr}
use Rattle.std.proofs.lemmas.Bool.{cases_lt}
use Rattle.bufr_expand.specs.declared.walk.WalkFault.TheVariants as walks
use Rattle.bufr_expand.specs.Courses.{Course, ends, stops, asks, course}
use Rattle.bufr_expand.specs.Trees.{Tree}
use Rattle.bufr_expand.specs.NextFields.{Next, wants, lacks, BeginsWithin}
use Rattle.bufr_expand.specs.Limits.{most_items}
use Rattle.bufr_fields.specs.declared.fault.DataFault.{DataFault}
use Rattle.bufr_fields.specs.declared.fault.DataFault.TheVariants as faults
use Rattle.bufr_fields.specs.Asked.{Passes, Begin}
use Rattle.bufr_data.specs.Compressed.{Column, AreColumns, field_of}
use Rattle.bufr_data.specs.Compressed.Causes.{ColumnRefused, told_first, NoColumnFollows, no_room}
use Rattle.bufr_data.specs.Compressed.Causes.{too_many_values, no_spec, no_column, FirstColumnRefused}
use Rattle.bufr_data.proofs.CauseFacts.{Follows, follows, passes_full, passes_lacking, passes_asked}
use Rattle.bufr_data.proofs.PlainFacts.Refusals.{IsStop}
use Rattle.bufr_fields.specs.Limits.{most_values}
use Rattle.bufr_fields.specs.CourseLaws.{Laws, begun}

-- field i of n subsets is above the limit of values, or else the refusal holds
abbrev pub PastOr : ℕ → ℕ → DataFault → Type 0 → Type 0
PastOr n i fault Refused =
    ((most_values < i * n) × (fault ≡ faults.TooLarge)) ⊎ ((i * n ≤ most_values) × Refused)

-- the bits go on neither with a column of field i nor with the end
abbrev pub NoneByCourse : ℕ → ℕ → Course → List Bool → DataFault → Type 0
NoneByCourse n i (ends met) front fault = ⊥
NoneByCourse n i (stops met why) front fault = PastOr n i fault (IsStop why fault)
NoneByCourse n i (asks met d spec more) front fault =
    PastOr n i fault (ColumnRefused n i spec front fault)

-- the first column, from field i on, that can't be read; those before it begin the data, and the
-- course asks for their fields
pub record RefusedByCourse (n i : ℕ) (c : Course) (front : List Bool) (fault : DataFault)
    : Type 0 where
  pub before : List Column
  pub packed : List Bool
  pub rest : List Bool
  pub next : Course
  pub columns : AreColumns n before packed
  pub passed : Passes c (map (field_of 0) before) next
  pub spelt : front ≡ packed ++ rest
  pub refused : NoneByCourse n (i + length before) next rest fault

column_cause : (tree : Tree) (n : ℕ) (before : List Column) (next : Course) (rest : List Bool)
    (fault : DataFault) → Follows tree 0 (told_first before) next
    → NoneByCourse n (1 + length before) next rest fault → NoColumnFollows tree n before rest fault
column_cause tree n before (ends m) rest fault w h = absurd h
column_cause tree n before (stops m walks.TooLarge) rest fault w (inl h) = no_room w h.1
column_cause tree n before (stops m walks.TooLarge) rest fault w (inr h) = no_room w h.1
column_cause tree n before (stops m (walks.EffectiveRange d)) rest fault w (inl h) =
    too_many_values (lacks d) m w h.0 h.1
column_cause tree n before (stops m (walks.EffectiveRange d)) rest fault w (inr h) =
    no_spec d m w h.0 h.1
column_cause tree n before (asks met d spec more) rest fault w (inl h) =
    too_many_values (wants d spec) met w h.0 h.1
column_cause tree n before (asks met d spec more) rest fault w (inr h) =
    no_column d met spec w h.0 h.1

pub first_of_columns : Laws → (tree : Tree) (n : ℕ) (front : List Bool) (fault : DataFault)
    → RefusedByCourse n 1 (course tree 0) front fault → FirstColumnRefused tree n front fault
first_of_columns laws tree n front fault r =
    record {
      before = r.before;
      packed = r.packed;
      rest = r.rest;
      begin = begun laws tree 0 (map (field_of 0) r.before) r.next (omega arith) r.passed;
      columns = r.columns;
      spelt = r.spelt;
      refused = column_cause tree n r.before r.next r.rest fault
          (follows laws tree 0 (map (field_of 0) r.before) r.next (omega arith) r.passed) r.refused;
    }

-- the course left, and why no column follows
abbrev Left : Tree → ℕ → List Column → List Bool → DataFault → Type 0
Left tree n before rest fault =
    (next : Course) × Passes (course tree 0) (map (field_of 0) before) next
    × NoneByCourse n (1 + length before) next rest fault

stopped_either : (n i met : ℕ) (rest : List Bool) (fault : DataFault) → fault ≡ faults.TooLarge
    → NoneByCourse n i (stops met walks.TooLarge) rest fault
stopped_either n i met rest fault e =
    elim (cases_lt most_values (i * n)) [ inl lt ↦ inl (lt, e) | inr le ↦ inr (le, e) ]

past_next : Laws → (tree : Tree) (n : ℕ) (before : List Column) (rest : List Bool)
    (fault : DataFault)
    (next : Next) (met : ℕ) → Begin tree 0 (map (field_of 0) before)
    → BeginsWithin tree 0 (told_first before) next met → most_values < (1 + length before) * n
    → fault ≡ faults.TooLarge → Left tree n before rest fault
past_next laws tree n before rest fault (wants d spec) met b w lt e =
    let a = passes_asked laws tree 0 (map (field_of 0) before) d met spec (omega arith) b w in
    (asks met d spec a.0, a.1, inl (lt, e))
past_next laws tree n before rest fault (lacks d) met b w lt e =
    let passed = passes_lacking laws tree 0 (map (field_of 0) before) d met (omega arith) b w in
    (stops met (walks.EffectiveRange d), passed, inl (lt, e))

cause_column : Laws → (tree : Tree) (n : ℕ) (before : List Column) (rest : List Bool)
    (fault : DataFault) → Begin tree 0 (map (field_of 0) before)
    → NoColumnFollows tree n before rest fault → Left tree n before rest fault
cause_column laws tree n before rest fault b (no_room p e) =
    let passed = passes_full laws tree 0 (map (field_of 0) before) (omega arith) b p in
    let refused = stopped_either n (1 + length before) most_items rest fault e in
    (stops most_items walks.TooLarge, passed, refused)
cause_column laws tree n before rest fault b (too_many_values next met w lt e) =
    past_next laws tree n before rest fault next met b w lt e
cause_column laws tree n before rest fault b (no_spec d met w le e) =
    let passed = passes_lacking laws tree 0 (map (field_of 0) before) d met (omega arith) b w in
    (stops met (walks.EffectiveRange d), passed, inr (le, e))
cause_column laws tree n before rest fault b (no_column d met spec w le refused) =
    let a = passes_asked laws tree 0 (map (field_of 0) before) d met spec (omega arith) b w in
    (asks met d spec a.0, a.1, inr (le, refused))

pub columns_of_first : Laws → (tree : Tree) (n : ℕ) (front : List Bool) (fault : DataFault)
    → FirstColumnRefused tree n front fault → RefusedByCourse n 1 (course tree 0) front fault
columns_of_first laws tree n front fault r =
    let c = cause_column laws tree n r.before r.rest fault r.begin r.refused in
    record {
      before = r.before;
      packed = r.packed;
      rest = r.rest;
      next = c.0;
      columns = r.columns;
      passed = c.1;
      spelt = r.spelt;
      refused = c.2;
    }

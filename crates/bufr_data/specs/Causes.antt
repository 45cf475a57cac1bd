-- Why data or subsets are refused after some fields, by the template's tree (FM 94 BUFR,
-- regulations 94.1.3, 94.5.4 and 94.5.5).
use Rattle.std.specs.Prelude.{◌≡◌, ℕ, ◌+◌, ◌<◌, Bool, List, ◌∷◌, ◌++◌, length, map}
use Rattle.bufr_expand.specs.declared.operators.Spec.{Spec}
use Rattle.bufr_expand.specs.Trees.{Tree}
use Rattle.bufr_expand.specs.Unrolling.{Unrolls}
use Rattle.bufr_expand.specs.NextFields.{wants, lacks, BeginsWithin, PassesLimit}
use Rattle.bufr_fields.specs.declared.field.Field.{Field}
use Rattle.bufr_fields.specs.declared.field.Subset.{Subset}
use Rattle.bufr_fields.specs.declared.fault.DataFault.{DataFault}
use Rattle.bufr_fields.specs.declared.fault.DataFault.TheVariants as faults
use Rattle.bufr_fields.specs.declared.fault.MisfitFault.{MisfitFault}
use Rattle.bufr_fields.specs.declared.fault.MisfitFault.TheVariants as misfits
use Rattle.bufr_data.specs.Plain.{plain, plain_subsets}
use Rattle.bufr_fields.specs.Fits.{told_of, AllFitWithin}
use Rattle.bufr_fields.specs.Asked.{IsAsked, Begin}
use Rattle.bufr_data.specs.Plain.Refusals.{BeginsWithNone}

-- why subset j neither goes on nor ends after these fields: an item up to the next field, or up to
-- the end, is above the limit; or the next field has no spec; or the data end in it
pub data NoneFollows (tree : Tree) (used j : ℕ) (before : List Field) (front : List Bool)
    (fault : DataFault) : Type 0 where
  no_room : PassesLimit tree used (map told_of before) → fault ≡ faults.TooLarge
      → NoneFollows tree used j before front fault
  no_spec : (d met : ℕ) → BeginsWithin tree used (map told_of before) (lacks d) met
      → fault ≡ faults.EffectiveRange d → NoneFollows tree used j before front fault
  no_bits : (d met : ℕ) (spec : Spec)
      → BeginsWithin tree used (map told_of before) (wants d spec) met → BeginsWithNone spec front
      → fault ≡ faults.DataEnds j (1 + length before) → NoneFollows tree used j before front fault

-- the first field of subset j that can't be read; the data begin with the fields before it
pub record FirstRefused (tree : Tree) (j used : ℕ) (front : List Bool) (fault : DataFault)
    : Type 0 where
  pub before : List Field
  pub rest : List Bool
  pub begin : Begin tree used before
  pub stand : front ≡ plain before ++ rest
  pub refused : NoneFollows tree used j before rest fault

-- the first of n subsets with a field that can't be read; the subsets before it fit, and the data
-- begin with theirs
pub record FirstSubsetRefused (tree : Tree) (n : ℕ) (front : List Bool) (fault : DataFault)
    : Type 0 where
  pub before : List Subset
  pub items : ℕ
  pub rest : List Bool
  pub fewer : length before < n
  pub fit : AllFitWithin tree 0 before items
  pub stand : front ≡ plain_subsets before ++ rest
  pub refused : FirstRefused tree (1 + length before) items rest fault

-- why the fields after these do not fit: one is left over; or an item is above the limit; or the
-- next field has no spec; or it is missing, has another descriptor or spec, or a raw value that
-- does not fit
pub data NotAllowed (tree : Tree) (used j : ℕ) (before others : List Field) (fault : MisfitFault)
    : Type 0 where
  too_many : (f : Field) (behind : List Field) (n : ℕ) → Unrolls tree used (map told_of before) n
      → others ≡ f ∷ behind
      → fault ≡ misfits.DoesNotFit j (1 + length before)
      → NotAllowed tree used j before others fault
  past_limit : PassesLimit tree used (map told_of before) → fault ≡ misfits.TooLarge
      → NotAllowed tree used j before others fault
  without_spec : (d met : ℕ) → BeginsWithin tree used (map told_of before) (lacks d) met
      → fault ≡ misfits.DoesNotFit j (1 + length before)
      → NotAllowed tree used j before others fault
  another : (d met : ℕ) (spec : Spec)
      → BeginsWithin tree used (map told_of before) (wants d spec) met
      → ((f : Field) (behind : List Field) → others ≡ f ∷ behind → IsAsked d spec f → ⊥)
      → fault ≡ misfits.DoesNotFit j (1 + length before)
      → NotAllowed tree used j before others fault

-- the first place of subset j at which its fields do not fit
pub record FirstMisfit (tree : Tree) (j used : ℕ) (fields : List Field) (fault : MisfitFault)
    : Type 0 where
  pub before : List Field
  pub others : List Field
  pub begin : Begin tree used before
  pub joined : fields ≡ before ++ others
  pub refused : NotAllowed tree used j before others fault

-- the first subset that does not fit
pub record FirstSubsetMisfit (tree : Tree) (subsets : List Subset) (fault : MisfitFault)
    : Type 0 where
  pub before : List Subset
  pub here : Subset
  pub others : List Subset
  pub items : ℕ
  pub joined : subsets ≡ before ++ here ∷ others
  pub fit : AllFitWithin tree 0 before items
  pub refused : FirstMisfit tree (1 + length before) items here.fields fault

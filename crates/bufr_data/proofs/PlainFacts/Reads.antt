-- One step of a walk is one step of reading.
use Rattle.bufr_base.specs.Answers.{◌>>=◌, Fails}
use Rattle.std.proofs.Common.{◌≡◌, ℕ, ◌+◌, Bool, List, [], ◌∷◌, ◌++◌, Option, Some, None, Result}
use Rattle.std.proofs.Common.{Ok, Err, refl, sym, ap, ◌∙◌, arith, length, length-append}
use Rattle.std.proofs.Common.{append_assoc}
use Rattle.bufr_base.specs.declared.failure.Failure.{Failure}
use Rattle.bufr_base.specs.declared.failure.Failure.TheVariants.{Fault, OutOfMemory}
use Rattle.bufr_expand.specs.declared.operators.Spec.{Spec}
use Rattle.bufr_expand.specs.declared.walk.Step.TheVariants as steps
use Rattle.bufr_expand.specs.declared.walk.Walk.{Walk}
use Rattle.bufr_expand.specs.declared.walk.WalkFault.{WalkFault}
use Rattle.bufr_expand.specs.Courses.{Course, asks}
use Rattle.bufr_expand.specs.Walks.{left, items_met, Goes, IsBelowCount}
use Rattle.bufr_fields.specs.declared.field.Raw.{Raw}
use Rattle.bufr_fields.specs.declared.field.Field.{Field}
use Rattle.bufr_fields.specs.declared.fault.DataFault.{DataFault}
use Rattle.bufr_data.specs.Plain.{SubsetRead, raw_at, stopped, fields_at}
use Rattle.bufr_fields.specs.Forms.{number_of}
use Rattle.bufr_data.specs.Plain.Reads.{raw_or_ends, behind_fields}
use Rattle.bufr_fields.specs.StepLaws.{ends_there, stops_there, count_fits, Asks, GoesOn}
use Rattle.bufr_data.proofs.PlainFacts.{raw_read}

joined : (field : Field) (o : Result SubsetRead DataFault)
    → (o >>= λ found. Ok (record found { fields = field ∷ found.fields }))
    ≡ behind_fields (field ∷ []) o
joined field (Ok found) = refl
joined field (Err e) = refl

pub asked_field : (j i met d : ℕ) (spec : Spec) (more : ℕ → Course) (front rest : List Bool)
    (raw : Raw) → raw_at spec front ≡ Some (raw, rest)
    → fields_at j i (asks met d spec more) front
    ≡ behind_fields (record { fxy = d; spec = spec; raw = raw } ∷ [])
    (fields_at j (i + 1) (more (number_of raw)) rest)
unfolding fields_at
asked_field j i met d spec more front rest raw e =
    rw e
    (joined (record { fxy = d; spec = spec; raw = raw })
    (fields_at j (i + 1) (more (number_of raw)) rest))

missing_field : (j i met d : ℕ) (spec : Spec) (more : ℕ → Course) (front : List Bool)
    (o : Option (Raw × List Bool)) (f : DataFault) → raw_at spec front ≡ o
    → raw_or_ends j i o ≡ Err f → fields_at j i (asks met d spec more) front ≡ Err f
unfolding fields_at
missing_field j i met d spec more front None f e h = rw e (let same = h in cc)
missing_field j i met d spec more front (Some x) f e h = absurd cc

pub found_is : (j i : ℕ) (o : Option (Raw × List Bool)) (x : Raw × List Bool)
    → raw_or_ends j i o ≡ Ok x → o ≡ Some x
found_is j i None x e = absurd cc
found_is j i (Some y) x e = cc

pub step_is_read : (c later : Course) (i d : ℕ) (spec : Spec) (front rest : List Bool) (raw : Raw)
    → GoesOn c d spec (number_of raw) later
    → raw_or_ends 1 i (raw_at spec front) ≡ Ok (raw, rest)
    → fields_at 1 i c front
    ≡ behind_fields (record { fxy = d; spec = spec; raw = raw } ∷ [])
    (fields_at 1 (i + 1) later rest)
step_is_read c later i d spec front rest raw a e =
    ap (λ x. fields_at 1 i x front) a.is
    ∙ asked_field 1 i a.met d spec a.more front rest raw (found_is 1 i _ _ e)
    ∙ ap (λ x. behind_fields (record { fxy = d; spec = spec; raw = raw } ∷ [])
    (fields_at 1 (i + 1) x rest)) a.after

pub step_is_missing : (c : Course) (i d : ℕ) (spec : Spec) (front : List Bool)
    (e : Failure DataFault) → Asks c d spec → Fails e (raw_or_ends 1 i (raw_at spec front))
    → Fails e (fields_at 1 i c front)
step_is_missing c i d spec front OutOfMemory a h = tt
step_is_missing c i d spec front (Fault f) a h =
    ap (λ x. fields_at 1 i x front) a.is
    ∙ missing_field 1 i a.met d spec a.more front _ f refl h

pub end_is_read : (old new : Walk) (i : ℕ) (front : List Bool) → Goes (left old) (Ok steps.End) new
    → fields_at 1 i (left old) front
    ≡ Ok (record { fields = []; items = items_met new; rest = front })
unfolding fields_at
end_is_read old new i front g = ap (λ c. fields_at 1 i c front) (ends_there (left old) new g)

pub stop_is_read : (old new : Walk) (i : ℕ) (front : List Bool) (fault : WalkFault) (f : DataFault)
    → Goes (left old) (Err fault) new → stopped {A = SubsetRead} fault ≡ Err f
    → fields_at 1 i (left old) front ≡ Err f
unfolding fields_at
stop_is_read old new i front fault f g e =
    let s = stops_there (left old) fault new g in ap (λ c. fields_at 1 i c front) s.1 ∙ e

pub count_read_fits : (old mid : Walk) (i d : ℕ) (spec : Spec) (front rest : List Bool) (raw : Raw)
    → Goes (left old) (Ok (steps.Count d spec)) mid
    → raw_or_ends 1 i (raw_at spec front) ≡ Ok (raw, rest) → IsBelowCount (left mid) (number_of raw)
count_read_fits old mid i d spec front rest raw g e =
    count_fits old mid d spec raw g
    (raw_read spec.kind spec.width front (raw, rest) (found_is 1 i _ _ e)).0

pub behind_none : (o : Result SubsetRead DataFault) → o ≡ behind_fields [] o
behind_none (Ok found) = refl
behind_none (Err e) = refl

pub behind_both : (fields others : List Field) (o : Result SubsetRead DataFault)
    → behind_fields fields (behind_fields others o) ≡ behind_fields (fields ++ others) o
behind_both fields others (Ok found) =
    ap (λ fs. Ok (record found { fields = fs })) (sym (append_assoc fields others found.fields))
behind_both fields others (Err e) = refl

pub behind_more : (fields : List Field) (field : Field) (o : Result SubsetRead DataFault)
    → behind_fields fields (behind_fields (field ∷ []) o) ≡ behind_fields (fields ++ field ∷ []) o
behind_more fields field o = behind_both fields (field ∷ []) o

pub fields_read : (fields grown : List Field) (field : Field) (whole : Result SubsetRead DataFault)
    (i : ℕ) (c d : Course) (front rest : List Bool) → grown ≡ fields ++ field ∷ []
    → i ≡ length fields + 1 → whole ≡ behind_fields fields (fields_at 1 (length fields + 1) c front)
    → fields_at 1 i c front ≡ behind_fields (field ∷ []) (fields_at 1 (i + 1) d rest)
    → whole ≡ behind_fields grown (fields_at 1 (length grown + 1) d rest)
fields_read fields grown field whole i c d front rest e index so_far step =
    let len : length grown ≡ length fields + 1 = ap length e ∙ length-append fields (field ∷ []) in
    let next : i + 1 ≡ length grown + 1 = omega arith in
    so_far
    ∙ ap (λ n. behind_fields fields (fields_at 1 n c front)) (sym index)
    ∙ ap (behind_fields fields) step
    ∙ behind_more fields field (fields_at 1 (i + 1) d rest)
    ∙ ap (λ fs. behind_fields fs (fields_at 1 (i + 1) d rest)) (sym e)
    ∙ ap (λ n. behind_fields grown (fields_at 1 n d rest)) next

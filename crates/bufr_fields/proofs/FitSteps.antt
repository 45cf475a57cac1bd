-- One step of a walk is one step of `items_of`.
use Rattle.bufr_base.specs.Answers.{Fails}
use Rattle.std.proofs.Common.{◌≡◌, ℕ, ◌+◌, Bool, true, false, cond, List, [], ◌∷◌, Result, Ok, Err}
use Rattle.std.proofs.Common.{refl, sym, ap, ◌∙◌}
use Rattle.std.specs.Prelude.{◌&&◌, ◌==◌}
use Rattle.std.proofs.lemmas.Bool.{and_parts}
use Rattle.bufr_base.specs.declared.failure.Failure.{Failure}
use Rattle.bufr_base.specs.declared.failure.Failure.TheVariants.{Fault, OutOfMemory}
use Rattle.bufr_expand.specs.declared.operators.Spec.{Spec}
use Rattle.bufr_expand.specs.declared.walk.Step.TheVariants as steps
use Rattle.bufr_expand.specs.declared.walk.Walk.{Walk}
use Rattle.bufr_expand.specs.declared.walk.WalkFault.{WalkFault}
use Rattle.bufr_expand.specs.Courses.{Course, asks}
use Rattle.bufr_expand.specs.Walks.{left, items_met, Goes, IsBelowCount}
use Rattle.bufr_fields.specs.declared.field.Field.{Field}
use Rattle.bufr_fields.specs.declared.fault.MisfitFault.{MisfitFault}
use Rattle.bufr_fields.specs.declared.fault.MisfitFault.TheVariants as misfits
use Rattle.bufr_fields.specs.Forms.{number_of, same_spec, has_form_by, matches_spec, misfit}
use Rattle.bufr_fields.specs.Forms.{fits_or, items_of}
use Rattle.bufr_fields.specs.StepLaws.{ends_there, stops_there, count_fits, Asks, GoesOn}

asked_fits : (j i met d : ℕ) (spec : Spec) (more : ℕ → Course) (f : Field) (rest : List Field)
    → matches_spec d spec f ≡ true
    → items_of j i (asks met d spec more) (f ∷ rest)
    ≡ items_of j (i + 1) (more (number_of f.raw)) rest
unfolding items_of
asked_fits j i met d spec more f rest e = rw e refl

misfit_is : (b : Bool) (j i : ℕ) (o : Result ℕ MisfitFault) (f : MisfitFault) → fits_or j i b ≡ Err f
    → cond b o (Err (misfits.DoesNotFit j i)) ≡ Err f
misfit_is true j i o f e = absurd cc
misfit_is false j i o f e = let same = e in cc

asked_misfits : (j i met d : ℕ) (spec : Spec) (more : ℕ → Course) (f : Field) (rest : List Field)
    (fault : MisfitFault) → fits_or j i (matches_spec d spec f) ≡ Err fault
    → items_of j i (asks met d spec more) (f ∷ rest) ≡ Err fault
unfolding items_of
asked_misfits j i met d spec more f rest fault e =
    misfit_is (matches_spec d spec f) j i (items_of j (i + 1) (more (number_of f.raw)) rest) fault e

asked_lacks : (j i met d : ℕ) (spec : Spec) (more : ℕ → Course)
    → items_of j i (asks met d spec more) [] ≡ Err (misfits.DoesNotFit j i)
unfolding items_of
asked_lacks j i met d spec more = refl

pub step_is_written : (c later : Course) (j i d : ℕ) (spec : Spec) (f : Field) (rest : List Field)
    → GoesOn c d spec (number_of f.raw) later → matches_spec d spec f ≡ true
    → items_of j i c (f ∷ rest) ≡ items_of j (i + 1) later rest
step_is_written c later j i d spec f rest a e =
    ap (λ x. items_of j i x (f ∷ rest)) a.is ∙ asked_fits j i a.met d spec a.more f rest e
    ∙ ap (λ x. items_of j (i + 1) x rest) a.after

pub count_written_fits : (old mid : Walk) (d : ℕ) (spec : Spec) (f : Field)
    → Goes (left old) (Ok (steps.Count d spec)) mid → matches_spec d spec f ≡ true
    → IsBelowCount (left mid) (number_of f.raw)
count_written_fits old mid d spec f g e =
    count_fits old mid d spec f.raw g
    (and_parts (f.fxy == d && same_spec f.spec spec) (has_form_by spec.kind spec.width f.raw) e).1

pub step_misfits : (c : Course) (j i d : ℕ) (spec : Spec) (f : Field) (rest : List Field)
    (e : Failure MisfitFault) → Asks c d spec → Fails e (fits_or j i (matches_spec d spec f))
    → Fails e (items_of j i c (f ∷ rest))
step_misfits c j i d spec f rest OutOfMemory a h = tt
step_misfits c j i d spec f rest (Fault fault) a h =
    ap (λ x. items_of j i x (f ∷ rest)) a.is
    ∙ asked_misfits j i a.met d spec a.more f rest fault h

pub end_misfits : (old new : Walk) (j i : ℕ) (f : Field) (rest : List Field)
    → Goes (left old) (Ok steps.End) new
    → items_of j i (left old) (f ∷ rest) ≡ Err (misfits.DoesNotFit j i)
unfolding items_of
end_misfits old new j i f rest g = ap (λ c. items_of j i c (f ∷ rest)) (ends_there (left old) new g)

pub stop_misfits : (old new : Walk) (j i : ℕ) (fields : List Field) (fault : WalkFault)
    (f : MisfitFault) → Goes (left old) (Err fault) new → f ≡ misfit j i fault
    → items_of j i (left old) fields ≡ Err f
unfolding items_of
stop_misfits old new j i fields fault f g e =
    ap (λ c. items_of j i c fields) (stops_there (left old) fault new g).1 ∙ ap (λ x. Err x) (sym e)

pub end_fits : (old new : Walk) (j i n : ℕ) → Goes (left old) (Ok steps.End) new → n ≡ items_met new
    → items_of j i (left old) [] ≡ Ok n
unfolding items_of
end_fits old new j i n g e =
    ap (λ c. items_of j i c []) (ends_there (left old) new g) ∙ ap (λ x. Ok x) (sym e)

pub step_lacks : (c : Course) (j i d : ℕ) (spec : Spec) → Asks c d spec
    → items_of j i c [] ≡ Err (misfits.DoesNotFit j i)
step_lacks c j i d spec a =
    ap (λ x. items_of j i x []) a.is ∙ asked_lacks j i a.met d spec a.more

pub fits_is : (j i : ℕ) (b : Bool) (u : Unit {0}) → fits_or j i b ≡ Ok u → b ≡ true
fits_is j i true u e = refl
fits_is j i false u e = absurd cc

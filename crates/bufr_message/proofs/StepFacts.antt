-- A step that passes values on and turns faults into its own: for the laws on reading and writing.
use Rattle.std.proofs.Common.{◌≡◌, Result, Ok, Err, refl, sym, ap, ◌∙◌}
use Rattle.bufr_base.specs.AnswerLaws.{ok_is, err_is}

-- a step passes values on, and makes these faults of faults
pub record PassesOn {A E F : Type 0} (step : Result A E → Result A F) (made : E → F) : Type 0 where
  pub value : (x : A) → step (Ok x) ≡ Ok x
  pub fault : (why : E) → step (Err why) ≡ Err (made why)

pub step_takes : {A E F : Type 0} {step : Result A E → Result A F} {made : E → F}
    → PassesOn step made → (x : Result A E) (a : A) → step x ≡ Ok a → x ≡ Ok a
step_takes p (Ok found) a e = ap (λ b. Ok b) (ok_is _ _ (sym (p.value found) ∙ e))
step_takes p (Err why) a e = absurd (let no = sym (p.fault why) ∙ e in cc)

pub step_refuses : {A E F : Type 0} {step : Result A E → Result A F} {made : E → F}
    → PassesOn step made → (x : Result A E) (fault : F) → step x ≡ Err fault
    → (why : E) × (x ≡ Err why) × (made why ≡ fault)
step_refuses p (Ok found) fault e = absurd (let no = sym (p.value found) ∙ e in cc)
step_refuses p (Err why) fault e = (why, refl, err_is _ _ (sym (p.fault why) ∙ e))

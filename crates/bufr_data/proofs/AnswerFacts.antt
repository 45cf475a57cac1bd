-- A result from what contracts see of it.
use Rattle.std.proofs.Common.{◌≡◌, ◌⊎◌, inl, inr, Bool, true, false, cond, Result, Ok, Err, refl}
use Rattle.bufr_base.specs.Answers.{result_map}
use Rattle.bufr_base.specs.AnswerLaws.{ok_is, err_is}

pub map_ok : {A B F : Type 0} (f : A → B) (o : Result A F) (y : B) → result_map f o ≡ Ok y
    → (x : A) × (o ≡ Ok x) × (f x ≡ y)
map_ok f (Ok x) y e = (x, refl, ok_is _ _ e)
map_ok f (Err g) y e = absurd cc

pub map_err : {A B F : Type 0} (f : A → B) (o : Result A F) (fault : F)
    → result_map f o ≡ Err fault → o ≡ Err fault
map_err f (Ok x) fault e = absurd cc
map_err f (Err other) fault e = cc

pub guard_err : {A F : Type 0} (b : Bool) (f fault : F) (x : Result A F)
    → cond b (Err f) x ≡ Err fault → ((b ≡ true) × (f ≡ fault)) ⊎ ((b ≡ false) × (x ≡ Err fault))
guard_err true f fault x e = inl (refl, err_is _ _ e)
guard_err false f fault x e = inr (refl, e)

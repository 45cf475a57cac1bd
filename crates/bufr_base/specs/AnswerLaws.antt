-- What a result says of the steps that made it: for the crates above.
use Rattle.std.proofs.Common.{◌≡◌, ◌⊎◌, Bool, true, false, not, cond, Result, Ok, Err, refl, ap}
use Rattle.std.proofs.Common.{subst, inl, inr}
use Rattle.std.specs.Prelude.{◌||◌, IsOk}
use Rattle.bufr_base.specs.Answers.{◌>>=◌, Fails}
use Rattle.bufr_base.specs.declared.failure.Failure.{Failure}
use Rattle.bufr_base.specs.declared.failure.Failure.TheVariants.{Fault}

pub bind_ok : {A B F : Type 0} (x : Result A F) (f : A → Result B F) (y : B) → (x >>= f) ≡ Ok y
    → (a : A) × (x ≡ Ok a) × (f a ≡ Ok y)
bind_ok (Ok a) f y e = (a, refl, e)
bind_ok (Err fault) f y e = absurd cc

pub guard_ok : {A F : Type 0} (b : Bool) (fault : F) (x : Result A F) (y : A)
    → cond b (Err fault) x ≡ Ok y → (b ≡ false) × (x ≡ Ok y)
guard_ok true fault x y e = absurd cc
guard_ok false fault x y e = (refl, e)

pub passed_ok : {A F : Type 0} (b : Bool) (x : A) (fault : F) (y : A)
    → cond b (Ok x) (Err fault) ≡ Ok y → (b ≡ true) × (x ≡ y)
passed_ok true x fault y e = (refl, cc)
passed_ok false x fault y e = absurd cc

pub ok_is : {A F : Type 0} (x y : A) → ◌≡◌ {A = Result A F} (Ok x) (Ok y) → x ≡ y
ok_is x y e = cc

pub or_first : (a b : Bool) → (a || b) ≡ false → a ≡ false
or_first true b e = absurd cc
or_first false b e = refl

pub or_second : (a b : Bool) → (a || b) ≡ false → b ≡ false
or_second true b e = absurd cc
or_second false b e = e

pub not_false : (b : Bool) → not b ≡ false → b ≡ true
not_false true e = refl
not_false false e = absurd cc

pub ok_value : {A F : Type 0} (x : Result A F) → IsOk x → (a : A) × (x ≡ Ok a)
ok_value (Ok a) h = (a, refl)
ok_value (Err fault) h = absurd cc

pub told_fault : {Y F : Type 0} (e : Failure F) (f : F) (meant : Result Y F) → e ≡ Fault f
    → Fails e meant → meant ≡ Err f
told_fault {Y} {F} e f meant is told = let here =
    subst (λ (e : Failure F). Fails e meant) is told in here

pub bind_err : {A B F : Type 0} (x : Result A F) (f : A → Result B F) (fault : F)
    → (x >>= f) ≡ Err fault → (x ≡ Err fault) ⊎ ((a : A) × (x ≡ Ok a) × (f a ≡ Err fault))
bind_err (Ok a) f fault e = inr (a, refl, e)
bind_err (Err other) f fault e = inl (let same : other ≡ fault = cc in ap (λ g. Err g) same)

pub err_is : {A F : Type 0} (x y : F) → ◌≡◌ {A = Result A F} (Err x) (Err y) → x ≡ y
err_is x y e = cc

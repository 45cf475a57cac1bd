-- What a call that may run out of memory returns (this project's own).
use Rattle.std.specs.Prelude.{◌≡◌, Result, Ok, Err}
use Rattle.bufr_base.specs.declared.failure.Failure.{Failure}
use Rattle.bufr_base.specs.declared.failure.Failure.TheVariants.{Fault, OutOfMemory}

-- goes on with a value; the first fault stays
infixl 10 ◌>>=◌
abbrev pub ◌>>=◌ : {A B F : Type 0} → Result A F → (A → Result B F) → Result B F
(Ok x) >>= f = f x
(Err e) >>= f = Err e

-- a fault is the one meant; want of memory may come in its place
abbrev pub Fails : {Y F : Type 0} → Failure F → Result Y F → Type 0
Fails OutOfMemory meant = Unit {0}
Fails (Fault f) meant = meant ≡ Err f

-- the result, seen by `view`, is the one meant, unless memory ran out
abbrev pub Gives : {X Y F : Type 0} → (X → Y) → Result X (Failure F) → Result Y F → Type 0
Gives view (Ok x) meant = meant ≡ Ok (view x)
Gives view (Err e) meant = Fails e meant

-- changes the value of a result
abbrev pub result_map : {A B F : Type 0} → (A → B) → Result A F → Result B F
result_map f (Ok x) = Ok (f x)
result_map f (Err e) = Err e

-- a fault changes into one that it has relation R to; want of memory stays
abbrev pub ChangesFault : {F G : Type 0} → (F → G → Type 0) → Failure F → Failure G → Type 0
ChangesFault R OutOfMemory OutOfMemory = Unit {0}
ChangesFault R (Fault f) (Fault g) = R f g
ChangesFault R _ _ = ⊥

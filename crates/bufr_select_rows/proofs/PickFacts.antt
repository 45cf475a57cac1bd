-- The next field that is asked for, after some that are not: `pick` after `pick_number`, in `put_fields`.
use Rattle.std.proofs.Common.{ℕ, Bool, List, [], ◌∷◌, ◌++◌, Option, Some, None, Result, Ok, Err}
use Rattle.std.proofs.Common.{IfOk, sym, ap, ◌∙◌, subst, append_assoc}
use Rattle.bufr_fields.specs.declared.field.Field.{Field}
use Rattle.bufr_data.specs.Handed.{HandsOutAsked, NoneAsked, PassesUnasked}

-- none is asked for in two lists
none_both : (asked : ℕ → Bool) (front fields : List Field) → NoneAsked asked front
    → NoneAsked asked fields → NoneAsked asked (front ++ fields)
none_both asked [] fields before none = none
none_both asked (f ∷ front) fields before none =
    (before.0, none_both asked front fields before.1 none)

-- the next one after those that were passed
hands_after : (asked : ℕ → Bool) (found : Option Field) (old mid new : List Field)
    → PassesUnasked asked old mid → HandsOutAsked asked mid found new
    → HandsOutAsked asked old found new
hands_after asked (Some f) old mid new passes hands = (
  passes.0 ++ hands.0,
  none_both asked passes.0 hands.0 passes.1 hands.1,
  hands.2,
  passes.2 ∙ ap (λ (fs : List Field). passes.0 ++ fs) hands.3
      ∙ sym (append_assoc passes.0 hands.0 (f ∷ new)),
)
hands_after asked None old mid new passes hands = (
  subst (NoneAsked asked) (sym passes.2) (none_both asked passes.0 mid passes.1 hands.0),
  hands.1,
)

-- or there was no memory for it
pub picked_after : {E : Type 0} (asked : ℕ → Bool) (r : Result (Option Field) E)
    (old mid new : List Field) → PassesUnasked asked old mid
    → IfOk r (λ found. HandsOutAsked asked mid found new)
    → IfOk r (λ found. HandsOutAsked asked old found new)
picked_after asked (Ok found) old mid new passes hands =
    hands_after asked found old mid new passes hands
picked_after asked (Err e) old mid new passes hands = tt

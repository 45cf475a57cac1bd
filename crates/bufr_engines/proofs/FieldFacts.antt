-- Fields handed out where all descriptors are chosen: for `hold_field`.
use Rattle.std.proofs.Common.{◌≡◌, Some, List, [], ◌∷◌, true, true≢false}
use Rattle.bufr_message.specs.Handed.{HandsOutAsked, PassesUnasked}
use Rattle.bufr_message.specs.declared.Field.{Field}

pub each_next : (old new : List Field) (f : Field) → HandsOutAsked (λ d. true) old (Some f) new
    → old ≡ f ∷ new
each_next old new f ([], none, asked, is) = is
each_next old new f (x ∷ xs, none, asked, is) = absurd (true≢false none.0)

pub each_stays : (old new : List Field) → PassesUnasked (λ d. true) old new → old ≡ new
each_stays old new ([], none, is) = is
each_stays old new (x ∷ xs, none, is) = absurd (true≢false none.0)

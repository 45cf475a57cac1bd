-- What a framer hands out and holds, for each stream that it `Stands` for: for `feed` and
-- `look_end`.
use Rattle.std.proofs.Common.{◌≡◌, ℕ, ◌+◌, ◌-◌, true, false, List, ◌++◌, length, drop, sym, ap, ◌∙◌}
use Rattle.std.proofs.Common.{subst}
use Rattle.bufr_frame.specs.declared.frames.Found.{Found}
use Rattle.bufr_frame.specs.Framings.{Framing}
use Rattle.bufr_frame.specs.Streams.{frames_from, cut, sure, rest_from, Stands}
use Rattle.bufr_frame.specs.StreamLaws.{Stands-found, Stands-all, Stands-ended}

-- a framer that took in `fed` octets and holds these
abbrev framing : ℕ → List ℕ → Framing
framing fed held = record { fed = fed; held = held }

pub same_held : (fed : ℕ) (h k : List ℕ) (v : Framing) → h ≡ k → framing fed k ≡ v
    → framing fed h ≡ v
same_held fed h k v e is = ap (framing fed) e ∙ is

-- the frames found in the octets held and the piece are sure, and not yet out
pub feed_found : (fed place : ℕ) (held piece : List ℕ) (v : Framing) (frames : List Found)
    → framing fed held ≡ v → place ≡ fed - length held
    → frames ≡ frames_from false place 0 (held ++ piece) → (s : List ℕ) (out : ℕ) → Stands v s out
    → frames ≡ drop out (sure (s ++ piece))
feed_found fed place held piece v frames is here e s out st =
    e ∙ ap (λ p. frames_from false p 0 (held ++ piece)) here
    ∙ sym (Stands-found (framing fed held) s out piece (subst (λ x. Stands x s out) (sym is) st))

pub feed_next : (fed place : ℕ) (held piece rest : List ℕ) (v : Framing) (frames : List Found)
    → framing fed held ≡ v → place ≡ fed - length held
    → frames ≡ frames_from false place 0 (held ++ piece)
    → rest ≡ rest_from (length frames) 0 (held ++ piece) → (s : List ℕ) (out : ℕ) → Stands v s out
    → Stands (framing (fed + length piece) rest) (s ++ piece) (length (sure (s ++ piece)))
feed_next fed place held piece rest v frames is here e left s out st =
    let same : frames ≡ frames_from false (fed - length held) 0 (held ++ piece) =
    e ∙ ap (λ p. frames_from false p 0 (held ++ piece)) here in
    subst (λ r. Stands (framing (fed + length piece) r) (s ++ piece) (length (sure (s ++ piece))))
    (sym (left ∙ ap (λ fs. rest_from (length fs) 0 (held ++ piece)) same))
    (Stands-all (framing fed held) s out piece (subst (λ x. Stands x s out) (sym is) st))

pub end_found : (fed place : ℕ) (held : List ℕ) (v : Framing) (frames : List Found)
    → framing fed held ≡ v → place ≡ fed - length held → frames ≡ frames_from true place 0 held
    → (s : List ℕ) (out : ℕ) → Stands v s out → frames ≡ drop out (cut s)
end_found fed place held v frames is here e s out st =
    e ∙ ap (λ p. frames_from true p 0 held) here
    ∙ sym (Stands-ended (framing fed held) s out (subst (λ x. Stands x s out) (sym is) st))

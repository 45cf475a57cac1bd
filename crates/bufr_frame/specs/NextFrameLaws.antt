-- What a reader of a stream has handed out after each call of a framer, by the clauses of the calls
-- alone: for crates above, and for the law `frames_taken_are_the_sure_ones`.
use Rattle.std.proofs.Common.{◌≡◌, ℕ, ◌+◌, ◌≤◌, Some, List, [], ◌∷◌, ◌++◌, length, take, drop, refl}
use Rattle.std.proofs.Common.{sym, ap, ◌∙◌, subst, arith, length-append, append_assoc}
use Rattle.std.proofs.Common.{take-append-drop}
use Rattle.std.specs.Prelude.{slice_get}
use Rattle.std.proofs.lemmas.List.{take_more, take-append-le}
use Rattle.std.proofs.lemmas.Option.{slice_get_within, get_or_from_slice_get}
use Rattle.std.proofs.Math.Seq.{take-length}
use Rattle.bufr_frame.specs.declared.frames.Found.{Found}
use Rattle.bufr_frame.specs.Framings.{Framing}
use Rattle.bufr_frame.specs.Streams.{sure, cut, Stands}
use Rattle.bufr_frame.specs.NextFrames.{taken_in, IsRestOf, IsNextFrame, IsNoFrame, StandsAfter}
use Rattle.bufr_frame.specs.NextFrames.{HandedOut, IsBetweenCalls}
use Rattle.bufr_frame.specs.StreamLaws.{sure-piece, cut-end}

-- ---- between pieces

-- a new framer has handed out nothing
pub handed_first : (framer : Framing) → Stands framer [] 0 → HandedOut framer [] []
handed_first framer stands = record { stands = stands; first = refl }

still_first : (stream more : List ℕ) (frames : List Found) → length frames ≤ length (sure stream)
    → frames ≡ take (length frames) (sure stream)
    → frames ≡ take (length frames) (sure (stream ++ more))
still_first stream more frames fits first =
    first
    ∙ sym (take-append-le (length frames) (sure stream)
    (drop (length (sure stream)) (sure (stream ++ more))) fits)
    ∙ ap (take (length frames)) (sym (sure-piece stream more))

one_longer : (frames all : List Found) (frame : Found) → frames ≡ take (length frames) all
    → slice_get all (length frames) ≡ Some frame
    → frames ++ frame ∷ [] ≡ take (length (frames ++ frame ∷ [])) all
one_longer frames all frame first next =
    ap (λ (fs : List Found). fs ++ frame ∷ []) first
    ∙ ap (λ (f : Found). take (length frames) all ++ f ∷ [])
    (sym (get_or_from_slice_get all (length frames) frame frame next))
    ∙ sym (take_more all (length frames) frame
    (slice_get_within all (length frames) frame next))
    ∙ ap (λ n. take n all) (sym (length-append frames (frame ∷ [])))

-- `take_next` hands out one more frame
pub handed_one : (before after : Framing) (stream taken : List ℕ)
    (frames : List Found) (frame : Found)
    → HandedOut before stream frames → IsNextFrame before taken frame
    → StandsAfter before after taken 1
    → HandedOut after (stream ++ taken) (frames ++ frame ∷ [])
handed_one before after stream taken frames frame h next stands = record {
  stands = subst (Stands after (stream ++ taken)) (sym (length-append frames (frame ∷ [])))
      (stands stream (length frames) h.stands);
  first = one_longer frames (sure (stream ++ taken)) frame
      (still_first stream taken frames h.stands.out_of_sure h.first)
      (next stream (length frames) h.stands);
}

-- `take_next` hands out none
pub handed_none : (before after : Framing) (stream taken : List ℕ) (frames : List Found)
    → HandedOut before stream frames → StandsAfter before after taken 0
    → HandedOut after (stream ++ taken) frames
handed_none before after stream taken frames h stands = record {
  stands = subst (Stands after (stream ++ taken))
      (let e : length frames + 0 ≡ length frames = omega arith in e)
      (stands stream (length frames) h.stands);
  first = still_first stream taken frames h.stands.out_of_sure h.first;
}

-- without a further sure frame, all sure frames are out
pub handed_all : (framer : Framing) (stream : List ℕ) (frames : List Found)
    → HandedOut framer stream frames → length (sure stream) ≡ length frames → frames ≡ sure stream
handed_all framer stream frames h all =
    h.first ∙ ap (λ n. take n (sure stream)) (sym all) ∙ take-length (sure stream)

-- the frames handed out are the first sure ones, also of each longer stream
pub handed_front : (framer : Framing) (stream : List ℕ) (frames : List Found)
    → HandedOut framer stream frames
    → sure stream ≡ frames ++ drop (length frames) (sure stream)
handed_front framer stream frames h =
    sym (take-append-drop (length frames) (sure stream))
    ∙ ap (λ (fs : List Found). fs ++ drop (length frames) (sure stream)) (sym h.first)

-- with those of `finish` they are the cut
pub handed_end : (framer : Framing) (stream : List ℕ) (frames last : List Found)
    → HandedOut framer stream frames → last ≡ drop (length frames) (cut stream)
    → frames ++ last ≡ cut stream
handed_end framer stream frames last h is =
    let more = drop (length (sure stream)) (cut stream) in
    let fits = h.stands.out_of_sure in
    let same : take (length frames) (cut stream) ≡ frames =
    ap (take (length frames)) (cut-end stream)
    ∙ take-append-le (length frames) (sure stream) more fits ∙ sym h.first in
    ap (λ (fs : List Found). frames ++ fs) is
    ∙ ap (λ (fs : List Found). fs ++ drop (length frames) (cut stream)) (sym same)
    ∙ take-append-drop (length frames) (cut stream)

-- ---- within a piece

-- at the start of a piece, nothing of it is taken in
pub between_first : (framer : Framing) (stream piece : List ℕ) (frames : List Found)
    → HandedOut framer stream frames → IsBetweenCalls framer (stream ++ piece) piece frames
between_first framer stream piece frames h = record { taken = stream; parted = refl; handed = h }

-- a call that hands out a frame takes in more
pub between_one : (before after : Framing) (stream piece rest : List ℕ)
    (frames : List Found) (frame : Found)
    → IsBetweenCalls before stream piece frames → IsRestOf piece rest
    → IsNextFrame before (taken_in piece rest) frame
    → StandsAfter before after (taken_in piece rest) 1
    → IsBetweenCalls after stream rest (frames ++ frame ∷ [])
between_one before after stream piece rest frames frame t parted next stands = record {
  taken = t.taken ++ taken_in piece rest;
  parted = t.parted ∙ ap (λ p. t.taken ++ p) parted
      ∙ sym (append_assoc t.taken (taken_in piece rest) rest);
  handed = handed_one before after t.taken (taken_in piece rest) frames frame
      t.handed next stands;
}

-- a call that hands out none takes in the whole piece, and all sure frames are out
pub between_none : (before after : Framing) (stream piece : List ℕ) (frames : List Found)
    → IsBetweenCalls before stream piece frames → IsNoFrame before piece
    → StandsAfter before after piece 0
    → HandedOut after stream frames × (frames ≡ sure stream)
between_none before after stream piece frames t none stands =
    let out = handed_none before after t.taken piece frames t.handed stands in
    let all = handed_all after (t.taken ++ piece) frames out
    (none t.taken (length frames) t.handed.stands) in
    (subst (λ s. HandedOut after s frames) (sym t.parted) out, all ∙ ap sure (sym t.parted))

-- the frames handed out are the first sure ones of the stream
pub between_front : (framer : Framing) (stream rest : List ℕ) (frames : List Found)
    → IsBetweenCalls framer stream rest frames → (more : List Found) × (sure stream ≡ frames ++ more)
between_front framer stream rest frames t =
    let here = drop (length frames) (sure t.taken) in
    let there = drop (length (sure t.taken)) (sure (t.taken ++ rest)) in (
      here ++ there,
      ap sure t.parted ∙ sure-piece t.taken rest
          ∙ ap (λ (fs : List Found). fs ++ there) (handed_front framer t.taken frames t.handed)
          ∙ append_assoc frames here there,
    )

-- the octets taken in and the rest are the stream's: the condition of the next call
pub between_fed : (framer : Framing) (stream rest : List ℕ) (frames : List Found)
    → IsBetweenCalls framer stream rest frames → framer.fed + length rest ≡ length stream
between_fed framer stream rest frames t =
    let fed = t.handed.stands.fed in omega (arith, ap length t.parted, length-append t.taken rest)

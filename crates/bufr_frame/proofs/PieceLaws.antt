-- The frames handed out for the pieces before: for `frames_of_pieces`.
use Rattle.std.proofs.Common.{◌≡◌, ℕ, ◌+◌, ◌<◌, List, [], ◌∷◌, ◌++◌, length, take, drop, get_or}
use Rattle.std.proofs.Common.{sym, ap, ◌∙◌}
use Rattle.std.specs.List.{flat_map}
use Rattle.std.proofs.lemmas.List.{take_more, append-nil}
use Rattle.std.proofs.lemmas.Grind.{flat_map-append}
use Rattle.bufr_frame.specs.declared.frames.Found.{Found}
use Rattle.bufr_frame.specs.Framings.{Framing}
use Rattle.bufr_frame.specs.Streams.{cut, sure, Stands}
use Rattle.bufr_frame.specs.StreamLaws.{sure-piece, cut-end}

-- the framer `Stands` for this stream with all sure frames out, and these are they
pub record HandedOut (framer : Framing) (stream : List ℕ) (frames : List Found) : Type 0 where
  pub stands : Stands framer stream (length (sure stream))
  pub frames_are : frames ≡ sure stream

pub handed_more : (stream piece : List ℕ) (frames found : List Found) → frames ≡ sure stream
    → found ≡ drop (length (sure stream)) (sure (stream ++ piece))
    → frames ++ found ≡ sure (stream ++ piece)
handed_more stream piece frames found e f =
    ap (λ (fs : List Found). fs ++ found) e ∙ ap (λ (fs : List Found). sure stream ++ fs) f
    ∙ sym (sure-piece stream piece)

pub handed_all : (stream : List ℕ) (frames found : List Found) → frames ≡ sure stream
    → found ≡ drop (length (sure stream)) (cut stream) → frames ++ found ≡ cut stream
handed_all stream frames found e f =
    ap (λ (fs : List Found). fs ++ found) e ∙ ap (λ (fs : List Found). sure stream ++ fs) f
    ∙ sym (cut-end stream)

pub joined_more : {X A : Type 0} (f : X → List A) (xs : List X) (i : ℕ) (d : X) → i < length xs
    → flat_map f (take (i + 1) xs) ≡ flat_map f (take i xs) ++ f (get_or xs i d)
joined_more f xs i d h =
    ap (flat_map f) (take_more xs i d h) ∙ flat_map-append f (take i xs) (get_or xs i d ∷ [])
    ∙ ap (λ t. flat_map f (take i xs) ++ t) (append-nil (f (get_or xs i d)))

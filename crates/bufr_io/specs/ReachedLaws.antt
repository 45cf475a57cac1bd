-- Streams that readers tell, and the frames of what they gave so far: what the contracts of engines over
-- several readers need if a writer fails.
use Rattle.std.proofs.Common.{◌≡◌, ℕ, ◌+◌, Bool, true, false, inl, inr, Option, Some, List, [], ◌∷◌}
use Rattle.std.proofs.Common.{◌++◌, length, drop, refl, sym, ap, ◌∙◌, subst, append_assoc, IfSome}
use Rattle.std.proofs.Common.{arith}
use Rattle.std.proofs.lemmas.List.{append-nil}
use Rattle.bufr_bits.specs.Devices.{Reading}
use Rattle.bufr_frame.specs.declared.frames.Found.{Found}
use Rattle.bufr_frame.specs.StreamLaws.{cut-piece}
use Rattle.bufr_frame.specs.Streams.{cut, sure}
use Rattle.bufr_io.specs.Numbered.{frames_from, inputs_from, inputs_to}
use Rattle.bufr_io.specs.Reached.{GivesFrames, HasReached, frames_by}
use Rattle.bufr_io.specs.Readers.{AreReadBefore, AreReadTo, AreTold, WereReadOut}

-- ---- streams that are told

-- those of the first readers and those of the others
pub record ReadStreams (front after : List Reading) (all : List (List ℕ)) : Type 0 where
  pub first : List (List ℕ)
  pub others : List (List ℕ)
  pub parted : all ≡ first ++ others
  pub first_told : AreTold front first
  pub others_told : AreTold after others

-- the streams of readers, in two parts
pub told_parted : (front after : List Reading) (all : List (List ℕ)) → AreTold (front ++ after) all
    → ReadStreams front after all
told_parted [] after all told = record {
  first = [];
  others = all;
  parted = refl;
  first_told = tt;
  others_told = told;
}
told_parted (r ∷ front) after [] told = absurd told
told_parted (r ∷ front) after (s ∷ all) told =
    let more = told_parted front after all told.1 in
    record {
      first = s ∷ more.first;
      others = more.others;
      parted = ap (λ ss. s ∷ ss) more.parted;
      first_told = (told.0, more.first_told);
      others_told = more.others_told;
    }

-- the octets of a reader that tells them
pub told_all : (left : Option (List ℕ)) (octets s : List ℕ) → IfSome left (λ all. all ≡ octets)
    → left ≡ Some s → s ≡ octets
told_all left octets s all is = subst (λ o. IfSome o (λ x. x ≡ octets)) is all

-- readers that ended had the streams that they tell
pub told_read : (old new : List Reading) (octets told : List (List ℕ)) → WereReadOut old new octets
    → AreTold old told → told ≡ octets
told_read [] [] [] [] out are = refl
told_read (o ∷ old) (n ∷ new) (x ∷ octets) (s ∷ told) out are =
    ap (λ t. t ∷ told) (told_all o.left x s out.1 are.0)
    ∙ ap (λ ts. x ∷ ts) (told_read old new octets told out.2 are.1)
told_read [] [] [] (s ∷ told) out are = absurd are
told_read [] [] (x ∷ octets) told out are = absurd out
told_read [] (n ∷ new) octets told out are = absurd out
told_read (o ∷ old) [] octets told out are = absurd out
told_read (o ∷ old) (n ∷ new) [] told out are = absurd out
told_read (o ∷ old) (n ∷ new) (x ∷ octets) [] out are = absurd are

-- ---- frames

-- the frames that may be handed out by what was read are the first of the stream
pub first_frames : (ended : Bool) (left now : Option (List ℕ)) (read s : List ℕ)
    → IfSome left (λ all. (rest : List ℕ) × (all ≡ read ++ rest) × (now ≡ Some rest))
    → (ended ≡ true → IfSome left (λ all. all ≡ read)) → left ≡ Some s
    → (more : List Found) × (cut s ≡ frames_by ended read ++ more)
first_frames true left now read s given all is =
    ([], ap cut (told_all left read s (all refl) is) ∙ sym (append-nil (cut read)))
first_frames false left now read s given all is =
    let at = subst (λ o. IfSome o (λ x. (rest : List ℕ) × (x ≡ read ++ rest) × (now ≡ Some rest))) is
    given in (
      drop (length (sure read)) (cut (read ++ at.0)),
      ap cut at.1 ∙ cut-piece read at.0,
    )

-- ---- the texts of frames

-- the texts of frames and of more
pub frames_from-append : (text : ℕ → Found → List ℕ) (n : ℕ) (a b : List Found)
    → frames_from text n (a ++ b) ≡ frames_from text n a ++ frames_from text (n + length a) b
frames_from-append text n [] b =
    let at : n ≡ n + 0 = omega arith in ap (λ k. frames_from text k b) at
frames_from-append text n (frame ∷ a) b =
    let at : (n + 1) + length a ≡ n + length (frame ∷ a) = omega arith in
    ap (λ (t : List ℕ). text n frame ++ t)
    (frames_from-append text (n + 1) a b
    ∙ ap (λ k. frames_from text (n + 1) a ++ frames_from text k b) at)
    ∙ sym
    (append_assoc (text n frame) (frames_from text (n + 1) a)
    (frames_from text (n + length (frame ∷ a)) b))

-- the texts of frames and of one more
pub frames_from-more : (text : ℕ → Found → List ℕ) (n m : ℕ) (frames : List Found) (frame : Found)
    → m ≡ n + length frames
    → frames_from text n (frames ++ frame ∷ []) ≡ frames_from text n frames ++ text m frame
frames_from-more text n m frames frame at =
    frames_from-append text n frames (frame ∷ [])
    ∙ ap (λ (t : List ℕ). frames_from text n frames ++ t)
    (append-nil (text (n + length frames) frame) ∙ ap (λ k. text k frame) (sym at))

-- the texts of inputs and of more
pub inputs_from-append : (text : ℕ → ℕ → Found → List ℕ) (n : ℕ) (a b : List (List ℕ))
    → inputs_from text n (a ++ b) ≡ inputs_from text n a ++ inputs_from text (n + length a) b
inputs_from-append text n [] b =
    let at : n ≡ n + 0 = omega arith in ap (λ k. inputs_from text k b) at
inputs_from-append text n (s ∷ a) b =
    let at : (n + 1) + length a ≡ n + length (s ∷ a) = omega arith in
    ap (λ (t : List ℕ). frames_from (text n) 1 (cut s) ++ t)
    (inputs_from-append text (n + 1) a b
    ∙ ap (λ k. inputs_from text (n + 1) a ++ inputs_from text k b) at)
    ∙ sym
    (append_assoc (frames_from (text n) 1 (cut s)) (inputs_from text (n + 1) a)
    (inputs_from text (n + length (s ∷ a)) b))

-- the texts of all inputs and of more
pub inputs_all-append : (text : ℕ → ℕ → Found → List ℕ) (a b : List (List ℕ))
    → inputs_from text 1 (a ++ b) ≡ inputs_from text 1 a ++ inputs_from text (length a + 1) b
inputs_all-append text a b =
    let at : 1 + length a ≡ length a + 1 = omega arith in
    inputs_from-append text 1 a b ∙ ap (λ k. inputs_from text 1 a ++ inputs_from text k b) at

-- the texts of inputs and of one more
pub inputs_from-more : (text : ℕ → ℕ → Found → List ℕ) (streams : List (List ℕ)) (stream : List ℕ)
    → inputs_from text 1 (streams ++ stream ∷ []) ≡ inputs_to text streams (cut stream)
inputs_from-more text streams stream =
    inputs_all-append text streams (stream ∷ [])
    ∙ ap (λ (t : List ℕ). inputs_from text 1 streams ++ t)
    (append-nil (frames_from (text (length streams + 1)) 1 (cut stream)))

-- the texts of inputs, and no frame
pub inputs_to-none : (text : ℕ → ℕ → Found → List ℕ) (streams : List (List ℕ))
    → inputs_to text streams [] ≡ inputs_from text 1 streams
inputs_to-none text streams = append-nil (inputs_from text 1 streams)

-- ---- a front of all texts

-- the texts of all inputs begin with these
pub record HasFront (text : ℕ → ℕ → Found → List ℕ) (all : List (List ℕ)) (front : List ℕ) : Type 0
  where
    pub rest : List ℕ
    pub parted : inputs_from text 1 all ≡ front ++ rest

-- so do they with those of the inputs that were read so far
front_before : (text : ℕ → ℕ → Found → List ℕ) (olds news : List Reading)
    (streams all : List (List ℕ)) → AreReadBefore olds news streams → AreTold olds all
    → HasFront text all (inputs_to text streams [])
front_before text olds news streams all at told =
    let two = told_parted at.before_old at.after all (subst (λ rs. AreTold rs all) at.old_are told) in
    let same = told_read at.before_old at.before_new streams two.first at.before two.first_told in
    record {
      rest = inputs_from text (length streams + 1) two.others;
      parted = ap (inputs_from text 1) (two.parted ∙ ap (λ ss. ss ++ two.others) same)
          ∙ inputs_all-append text streams two.others
          ∙ ap (λ (t : List ℕ). t ++ inputs_from text (length streams + 1) two.others)
          (sym (append-nil (inputs_from text 1 streams)));
    }

-- and with those of the next input too
front_to : (text : ℕ → ℕ → Found → List ℕ) (streams others all : List (List ℕ)) (s : List ℕ)
    (frames more : List Found) → all ≡ streams ++ s ∷ others → cut s ≡ frames ++ more
    → HasFront text all (inputs_to text streams frames)
front_to text streams others all s frames more is parts =
    let n = length streams + 1 in
    let here = frames_from (text n) 1 frames in
    let after = inputs_from text (n + 1) others in
    let behind = frames_from (text n) (1 + length frames) more in
    let there : frames_from (text n) 1 (cut s) ≡ here ++ behind =
    ap (frames_from (text n) 1) parts ∙ frames_from-append (text n) 1 frames more in
    record {
      rest = behind ++ after;
      parted = ap (inputs_from text 1) is ∙ inputs_all-append text streams (s ∷ others)
          ∙ ap (λ (t : List ℕ). inputs_from text 1 streams ++ (t ++ after)) there
          ∙ ap (λ (t : List ℕ). inputs_from text 1 streams ++ t) (append_assoc here behind after)
          ∙ sym (append_assoc (inputs_from text 1 streams) here (behind ++ after));
    }

-- the stream of the next reader is the first of those that are left
front_within_at : (text : ℕ → ℕ → Found → List ℕ) (streams all : List (List ℕ))
    (frames : List Found) (r r' : Reading) (after : List Reading) (first others : List (List ℕ))
    → all ≡ first ++ others → first ≡ streams → AreTold (r ∷ after) others → GivesFrames r r' frames
    → HasFront text all (inputs_to text streams frames)
front_within_at text streams all frames r r' after first [] parted same told gives = absurd told
front_within_at text streams all frames r r' after first (s ∷ others) parted same told gives =
    let more = first_frames r'.met_end r.left r'.left gives.1 s gives.2 gives.3 told.0 in
    front_to text streams others all s frames more.0
    (parted ∙ ap (λ ss. ss ++ s ∷ others) same)
    (more.1 ∙ ap (λ fs. fs ++ more.0) (sym gives.4))

-- the next reader tells its octets
front_within : (text : ℕ → ℕ → Found → List ℕ) (olds news : List Reading)
    (streams all : List (List ℕ)) (frames : List Found)
    → (at : AreReadTo olds news streams (λ r r'. GivesFrames r r' frames)) → AreTold olds all
    → HasFront text all (inputs_to text streams frames)
front_within text olds news streams all frames at told =
    let two = told_parted at.before_old (at.at_old ∷ at.after) all
    (subst (λ rs. AreTold rs all) at.old_are told) in
    let same = told_read at.before_old at.before_new streams two.first at.before two.first_told in
    front_within_at text streams all frames at.at_old at.at_new at.after two.first two.others
    two.parted same two.others_told at.ends

-- the texts of the frames so far are a front of all texts of the streams that the readers tell
pub front_of_all : (text : ℕ → ℕ → Found → List ℕ) (olds news : List Reading)
    (streams all : List (List ℕ)) (frames : List Found) → HasReached olds news streams frames
    → AreTold olds all → HasFront text all (inputs_to text streams frames)
front_of_all text olds news streams all frames (inl at) told =
    subst (λ fs. HasFront text all (inputs_to text streams fs)) (sym at.1)
    (front_before text olds news streams all at.0 told)
front_of_all text olds news streams all frames (inr at) told =
    front_within text olds news streams all frames at told

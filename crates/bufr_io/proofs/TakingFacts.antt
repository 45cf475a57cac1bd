-- The taker takes in the frames of a stream as its pieces come: for `take_piece` and `take_stream`.
use Rattle.std.proofs.Common.{◌≡◌, ℕ, ◌+◌, ◌^◌, ◌<◌, ◌≤◌, Option, Some, IfSome}
use Rattle.std.proofs.Common.{List, [], ◌∷◌, ◌++◌, length, take, drop, get_or, Result, Ok, Err}
use Rattle.std.proofs.Common.{refl, sym, ap, ◌∙◌, subst, arith, length-append, append_assoc}
use Rattle.std.proofs.Common.{take-append-drop}
use Rattle.std.proofs.lemmas.List.{drop_more, take_more}
use Rattle.std.proofs.lemmas.List.Sums.{sum_by-append}
use Rattle.std.specs.Prelude.{sum_by, OnOk, IfErr}
use Rattle.bufr_bits.specs.Devices.{Reading}
use Rattle.bufr_frame.specs.declared.frames.Found.{Found}
use Rattle.bufr_frame.specs.Framings.{Framing}
use Rattle.bufr_frame.specs.Streams.{cut, sure, Stands}
use Rattle.bufr_frame.specs.StreamLaws.{cut-end}
use Rattle.bufr_frame.specs.NextFrames.{taken_in, IsRestOf, IsNextFrame, IsNoFrame, StandsAfter}
use Rattle.bufr_frame.specs.NextFrames.{HandedOut, IsBetweenCalls}
use Rattle.bufr_frame.specs.FrameBounds.{sure_few, sure_short, cut_few, cut_short}
use Rattle.bufr_frame.specs.NextFrameLaws.{handed_first, between_first, between_one}
use Rattle.bufr_frame.specs.NextFrameLaws.{between_none, between_front}
use Rattle.bufr_io.specs.declared.fault.Input.{Input}
use Rattle.bufr_io.specs.declared.fault.ToolFault.{ToolFault}
use Rattle.bufr_io.specs.declared.fault.ToolFault.TheVariants as faults
use Rattle.bufr_io.specs.declared.input.Pieces.{Pieces}
use Rattle.bufr_io.specs.Engines.{IsFresh}
use Rattle.bufr_io.specs.Inputs.{HasRead, ReadsOn}
use Rattle.bufr_io.specs.ReadingLaws.{HasRead_none}
use Rattle.bufr_io.specs.Taking.{frame_at, AreFew, StopsAmong, HasSure, TakesPiece}

-- ---- few frames

-- the number of octets of frames
abbrev octets_in : List Found → ℕ
octets_in frames = sum_by (λ (f : Found). length f.bytes) frames

pub few_first : (all frames more : List Found) → all ≡ frames ++ more → AreFew all → AreFew frames
few_first all frames more is few =
    let a = few.count in
    let b = few.octets in
    let long = ap length is ∙ length-append frames more in
    let sum = ap octets_in is ∙ sum_by-append (λ (f : Found). length f.bytes) frames more in
    record { count = omega arith; octets = omega arith }

pub few_sure : (stream : List ℕ) → length stream ≤ 2 ^ 48 → AreFew (sure stream)
few_sure stream short =
    record { count = omega (arith, sure_few stream, short); octets = omega (arith, sure_short stream, short) }

pub few_cut : (stream : List ℕ) → length stream ≤ 2 ^ 48 → AreFew (cut stream)
few_cut stream short =
    record { count = omega (arith, cut_few stream, short); octets = omega (arith, cut_short stream, short) }

-- ---- frame by frame

split_at : {A : Type 0} (xs : List A) (i : ℕ) (x : A) → i < length xs → x ≡ get_or xs i x
    → xs ≡ take i xs ++ x ∷ drop (i + 1) xs
split_at xs i x inside is =
    sym (take-append-drop i xs)
    ∙ ap (λ ys. take i xs ++ ys)
    (drop_more xs i x inside ∙ ap (λ y. y ∷ drop (i + 1) xs) (sym is))

same_frame : (frame : Found) (place : ℕ) (octets : List ℕ) → place ≡ frame.place
    → octets ≡ frame.bytes → frame_at place octets ≡ frame
same_frame frame place octets at has = rw (at, has) refl

pub item_is : (frames : List Found) (i : ℕ) (frame : Found) (octets : List ℕ)
    → octets ≡ frame.bytes → frame ≡ get_or frames i frame
    → frame_at frame.place octets ≡ get_or frames i (frame_at frame.place octets)
item_is frames i frame octets has is =
    subst (λ (f : Found). f ≡ get_or frames i f)
    (sym (same_frame frame frame.place octets refl has)) is

pub parted_at : (frames : List Found) (i : ℕ) (frame : Found) (before : List Found)
    → i < length frames → frame ≡ get_or frames i frame
    → before ++ frames ≡ ((before ++ take i frames) ++ frame ∷ []) ++ drop (i + 1) frames
parted_at frames i frame before inside is =
    ap (λ (fs : List Found). before ++ fs) (split_at frames i frame inside is)
    ∙ sym (append_assoc before (take i frames) (frame ∷ drop (i + 1) frames))
    ∙ sym (append_assoc (before ++ take i frames) (frame ∷ []) (drop (i + 1) frames))

pub taken_to : (frames : List Found) (i : ℕ) (frame : Found) (before : List Found)
    → i < length frames → frame ≡ get_or frames i frame
    → (before ++ take i frames) ++ frame ∷ [] ≡ before ++ take (i + 1) frames
taken_to frames i frame before inside is =
    append_assoc before (take i frames) (frame ∷ [])
    ∙ ap (λ (fs : List Found). before ++ fs)
    (ap (λ (f : Found). take i frames ++ f ∷ []) is ∙ sym (take_more frames i frame inside))

-- ---- within a piece

-- the framer has taken in all but the rest of the stream, and the taker the frames handed out
pub record Amid (Taken : List Found → Type 0) (framer : Framing) (stream rest : List ℕ) : Type 0
  where
    pub frames : List Found
    pub taking : IsBetweenCalls framer stream rest frames
    pub taken : Taken frames

pub amid_first : (Taken : List Found → Type 0) (framer : Framing) (stream piece : List ℕ)
    → HasSure Taken framer stream → Amid Taken framer (stream ++ piece) piece
amid_first Taken framer stream piece h = record {
  frames = sure stream;
  taking = between_first framer stream piece (sure stream) h.handed;
  taken = h.taken;
}

pub amid_few : (framer : Framing) (stream rest : List ℕ) (frames : List Found)
    → IsBetweenCalls framer stream rest frames → length stream ≤ 2 ^ 48 → AreFew frames
amid_few framer stream rest frames t short =
    let front = between_front framer stream rest frames t in
    few_first (sure stream) frames front.0 front.1 (few_sure stream short)

pub amid_within : (framer : Framing) (stream rest : List ℕ) (frames : List Found)
    → IsBetweenCalls framer stream rest frames → length frames ≤ length stream
amid_within framer stream rest frames t =
    let front = between_front framer stream rest frames t in
    let long = ap length front.1 ∙ length-append frames front.0 in
    omega (arith, long, sure_few stream)

-- hands out a frame after all earlier ones, with less of the piece left
abbrev pub Hands : Framing → Framing → List ℕ → List ℕ → Found → Type 0
Hands before after rest left frame = (stream : List ℕ) (frames : List Found)
    → IsBetweenCalls before stream rest frames
    → IsBetweenCalls after stream left (frames ++ frame ∷ [])

some_is : {A : Type 0} (P : A → Type 0) (o : Option A) (x : A) → o ≡ Some x → IfSome o P → P x
some_is P o x e p = subst (λ w. IfSome w P) e p

pub hands : (before after : Framing) (rest left : List ℕ) (o : Option Found) (frame : Found)
    (place : ℕ) (octets : List ℕ) → o ≡ Some frame → place ≡ frame.place → octets ≡ frame.bytes
    → IsRestOf rest left → IfSome o (IsNextFrame before (taken_in rest left))
    → IfSome o (λ f. StandsAfter before after (taken_in rest left) 1)
    → Hands before after rest left (frame_at place octets)
hands before after rest left o frame place octets is at has parted next stands = λ stream frames t.
    let here = is ∙ ap Some (sym (same_frame frame place octets at has)) in
    between_one before after stream rest left frames (frame_at place octets) t parted
    (some_is (IsNextFrame before (taken_in rest left)) o (frame_at place octets) here next)
    (some_is (λ f. StandsAfter before after (taken_in rest left) 1) o (frame_at place octets) here
    stands)

pub amid_more : (Taken Taken' : List Found → Type 0) (before after : Framing)
    (stream rest left : List ℕ) (frame : Found) → (a : Amid Taken before stream rest)
    → Hands before after rest left frame → Taken' (a.frames ++ frame ∷ [])
    → Amid Taken' after stream left
amid_more Taken Taken' before after stream rest left frame a h taken = record {
  frames = a.frames ++ frame ∷ [];
  taking = h stream a.frames a.taking;
  taken = taken;
}

pub amid_none : (Taken Taken' : List Found → Type 0) (before after : Framing)
    (stream rest : List ℕ) → (a : Amid Taken before stream rest) → IsNoFrame before rest
    → StandsAfter before after rest 0 → Taken' a.frames → HasSure Taken' after stream
amid_none Taken Taken' before after stream rest a none stands taken =
    let both = between_none before after stream rest a.frames a.taking none stands in
    record {
      handed = subst (HandedOut after stream) both.1 both.0;
      taken = subst Taken' both.1 taken;
    }

pub amid_stopped : (Stopped : List Found → ToolFault → Type 0) (framer : Framing)
    (stream rest : List ℕ) (frames : List Found) (fault : ToolFault)
    → IsBetweenCalls framer stream rest frames → Stopped frames fault
    → StopsAmong Stopped (sure stream) fault
amid_stopped Stopped framer stream rest frames fault t stopped =
    let front = between_front framer stream rest frames t in
    record { front = frames; rest = front.0; parted = front.1; stopped = stopped }

-- ---- the end

pub rest_stopped : (Stopped : List Found → ToolFault → Type 0) (stream : List ℕ)
    (fault : ToolFault) → Stopped (sure stream) fault → StopsAmong Stopped (cut stream) fault
rest_stopped Stopped stream fault stopped = record {
  front = sure stream;
  rest = drop (length (sure stream)) (cut stream);
  parted = cut-end stream;
  stopped = stopped;
}

-- ---- between two reads

-- the reader gave these octets, `count` in all, the taker has their sure frames and holds nothing back
pub record Between (Taken : List Found → Type 0) (HoldsNone : Type 0) (name : Input) (most : ℕ)
    (old now : Reading) (pieces : Pieces) (framer : Framing) (count : ℕ) : Type 0 where
  pub read : List ℕ
  pub so_far : HasRead name most old now pieces read
  pub counted : count ≡ length read
  pub sure_taken : HasSure Taken framer read
  pub none : HoldsNone

pub nothing_read : (Taken : List Found → Type 0) (HoldsNone : Type 0) (name : Input) (most : ℕ)
    (reader : Reading) (framer : Framing) → IsFresh reader → Stands framer [] 0 → Taken []
    → HoldsNone
    → Between Taken HoldsNone name most reader reader
    (record { made = 0; most = most; name = name }) framer 0
nothing_read Taken HoldsNone name most reader framer fresh stands taken none = record {
  read = [];
  so_far = HasRead_none name most reader fresh;
  counted = refl;
  sure_taken = record { handed = handed_first framer stands; taken = taken };
  none = none;
}

pub unread_bounded : (name : Input) (reads : ℕ) (old new : Reading) (after : Pieces)
    (read : List ℕ) (e : ToolFault) → ReadsOn name reads old new after read (Err e)
    → new.reads ≤ reads
unread_bounded name reads old new after read (faults.ReadFailed which) r = r.3
unread_bounded name reads old new after read (faults.EndlessInput which) r =
    let all = r.1.reads in omega arith
unread_bounded name reads old new after read e r = absurd r

pub ok_of : {A E : Type 0} (r : Result A E) (P Q : Type 0) → OnOk r P → (P → Q) → OnOk r Q
ok_of (Ok x) P Q p f = f p
ok_of (Err e) P Q p f = p

pub err_of : {A E : Type 0} (r : Result A E) (P Q : E → Type 0) → IfErr r P
    → ((e : E) → P e → Q e) → IfErr r Q
err_of (Ok x) P Q p f = p
err_of (Err e) P Q p f = f e p

pub piece_ends : (Taken Taken' : List Found → Type 0) (HoldsNone : Type 0)
    (Stopped : List Found → ToolFault → Type 0) (before after : Framing) (stream rest : List ℕ)
    (r : Result (Unit {0}) ToolFault) → (a : Amid Taken before stream rest)
    → IsNoFrame before rest → StandsAfter before after rest 0 → OnOk r (Taken' a.frames)
    → OnOk r HoldsNone → IfErr r (Stopped a.frames)
    → TakesPiece Taken' HoldsNone Stopped after stream r
piece_ends Taken Taken' HoldsNone Stopped before after stream rest (Ok done) a last stands taken none
    stopped = (amid_none Taken Taken' before after stream rest a last stands taken, none)
piece_ends Taken Taken' HoldsNone Stopped before after stream rest (Err e) a last stands taken none
    stopped = amid_stopped Stopped before stream rest a.frames e a.taking stopped

pub piece_short : (framer : Framing) (stream piece : List ℕ) (out : ℕ) → Stands framer stream out
    → framer.fed + length piece ≤ 2 ^ 48 → length (stream ++ piece) ≤ 2 ^ 48
piece_short framer stream piece out stands room =
    omega (arith, stands.fed, room, length-append stream piece)

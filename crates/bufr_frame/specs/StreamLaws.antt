-- How starts, frames and rests go on as octets follow: for `feed` and `take_next`, for the law
-- `sure_stays` and for crates above.
use Rattle.std.proofs.Common.{◌≡◌, ℕ, zero, suc, ◌+◌, ◌-◌, ◌≤◌, Bool, true, false, cond, eqb}
use Rattle.std.proofs.Common.{nat_lt, nat_le, Option, Some, None, List, [], ◌∷◌, ◌++◌, length, take}
use Rattle.std.proofs.Common.{drop, refl, sym, ap, ◌∙◌, subst, arith, length-append, zero-add}
use Rattle.std.proofs.lemmas.List.{take-append-le, length-take-le, append-nil}
use Rattle.std.proofs.Math.Seq.{take-length, drop-append_seam}
use Rattle.bufr_frame.specs.declared.frames.Found.{Found}
use Rattle.std.proofs.lemmas.Bool.{ltb-false, le-ltb, leb-true, le-leb}
use Rattle.bufr_frame.specs.declared.places.Start.TheVariants.{Frame, Open, Other}
use Rattle.bufr_frame.specs.Starts.{bufr, sevens, agrees, announced, start_by, start_of}
use Rattle.bufr_frame.specs.Streams.{frames_from, cut, sure, rest_from, Stands}
use Rattle.bufr_frame.specs.Framings.{Framing}

disagrees-append : (xs ys zs : List ℕ) → agrees xs ys ≡ false → agrees (xs ++ zs) ys ≡ false
disagrees-append [] ys zs h = cc
disagrees-append (x ∷ xs) [] zs h = cc
disagrees-append (x ∷ xs) (y ∷ ys) zs h =
    elim (eqb x y) as (λ b. cond b (agrees xs ys) false ≡ false
    → cond b (agrees (xs ++ zs) ys) false ≡ false) [
      | true ↦ disagrees-append xs ys zs
      | false ↦ λ _. refl
    ] h

agrees-append : (xs ys zs : List ℕ) → length ys ≤ length xs → agrees xs ys ≡ true
    → agrees (xs ++ zs) ys ≡ true
agrees-append [] [] [] l h = refl
agrees-append [] [] (z ∷ zs) l h = refl
agrees-append [] (y ∷ ys) zs l h = absurd (omega arith)
agrees-append (x ∷ xs) [] zs l h = refl
agrees-append (x ∷ xs) (y ∷ ys) zs l h =
    elim (eqb x y) as (λ b. cond b (agrees xs ys) false ≡ true
    → cond b (agrees (xs ++ zs) ys) false ≡ true) [
      | true ↦ agrees-append xs ys zs (omega arith)
      | false ↦ λ e. e
    ] h

disagrees-drop : (n : ℕ) (xs ys zs : List ℕ) → agrees (drop n xs) ys ≡ false
    → agrees (drop n (xs ++ zs)) ys ≡ false
disagrees-drop zero xs ys zs h = disagrees-append xs ys zs h
disagrees-drop (suc n) [] ys zs h = cc
disagrees-drop (suc n) (x ∷ xs) ys zs h = disagrees-drop n xs ys zs h

agrees-drop : (n : ℕ) (xs ys zs : List ℕ) → n + length ys ≤ length xs → agrees (drop n xs) ys ≡ true
    → agrees (drop n (xs ++ zs)) ys ≡ true
agrees-drop zero xs ys zs l h = agrees-append xs ys zs (omega arith) h
agrees-drop (suc n) [] ys zs l h = absurd (omega arith)
agrees-drop (suc n) (x ∷ xs) ys zs l h = agrees-drop n xs ys zs (omega arith) h

-- a length stays with more octets
pub announced-append : (xs zs : List ℕ) (l : ℕ) → announced xs ≡ Some l
    → announced (xs ++ zs) ≡ Some l
announced-append (a ∷ b ∷ c ∷ d ∷ x ∷ y ∷ z ∷ xs) zs l h = h
announced-append [] zs l h = cc
announced-append (a ∷ []) zs l h = cc
announced-append (a ∷ b ∷ []) zs l h = cc
announced-append (a ∷ b ∷ c ∷ []) zs l h = cc
announced-append (a ∷ b ∷ c ∷ d ∷ []) zs l h = cc
announced-append (a ∷ b ∷ c ∷ d ∷ x ∷ []) zs l h = cc
announced-append (a ∷ b ∷ c ∷ d ∷ x ∷ y ∷ []) zs l h = cc

-- a length takes seven octets
pub announced-length : (xs : List ℕ) (l : ℕ) → announced xs ≡ Some l → 7 ≤ length xs
announced-length (a ∷ b ∷ c ∷ d ∷ x ∷ y ∷ z ∷ xs) l h = omega arith
announced-length [] l h = cc
announced-length (a ∷ []) l h = cc
announced-length (a ∷ b ∷ []) l h = cc
announced-length (a ∷ b ∷ c ∷ []) l h = cc
announced-length (a ∷ b ∷ c ∷ d ∷ []) l h = cc
announced-length (a ∷ b ∷ c ∷ d ∷ x ∷ []) l h = cc
announced-length (a ∷ b ∷ c ∷ d ∷ x ∷ y ∷ []) l h = cc

-- a frame of this length begins here
pub record FrameBegins (octets : List ℕ) (l : ℕ) : Type 0 where
  pub mark : agrees octets bufr ≡ true
  pub told : announced octets ≡ Some l
  pub long : 12 ≤ l
  pub whole : l ≤ length octets
  pub end : agrees (drop (l - 4) octets) sevens ≡ true

frame_by : (o : Option ℕ) (octets : List ℕ) (l : ℕ) → start_by o octets ≡ Frame l
    → (o ≡ Some l) × (12 ≤ l) × (l ≤ length octets) × (agrees (drop (l - 4) octets) sevens ≡ true)
frame_by None octets l h = cc
frame_by (Some k) octets l h =
    elim (nat_lt k 12) as (λ b. nat_lt k 12 ≡ b
    → cond b Other (cond (agrees (drop (k - 4) octets) sevens)
    (cond (nat_le k (length octets)) (Frame k) Open) Other) ≡ Frame l
    → (Some k ≡ Some l) × (12 ≤ l) × (l ≤ length octets)
    × (agrees (drop (l - 4) octets) sevens ≡ true)) [
      | true ↦ λ _ e. cc
      | false ↦ λ short. elim (agrees (drop (k - 4) octets) sevens) as
          (λ b. agrees (drop (k - 4) octets) sevens ≡ b
          → cond b (cond (nat_le k (length octets)) (Frame k) Open) Other ≡ Frame l
          → (Some k ≡ Some l) × (12 ≤ l) × (l ≤ length octets)
          × (agrees (drop (l - 4) octets) sevens ≡ true)) [
            | true ↦ λ end. elim (nat_le k (length octets)) as
                (λ b. nat_le k (length octets) ≡ b → cond b (Frame k) Open ≡ Frame l
                → (Some k ≡ Some l) × (12 ≤ l) × (l ≤ length octets)
                × (agrees (drop (l - 4) octets) sevens ≡ true)) [
                  | true ↦ λ whole e. let same : k ≡ l = cc in let long : 12 ≤ k =
                      ltb-false k 12 short in let fits : k ≤ length octets =
                      leb-true k (length octets) whole in
                      subst (λ n. (Some k ≡ Some n) × (12 ≤ n) × (n ≤ length octets)
                      × (agrees (drop (n - 4) octets) sevens ≡ true)) same (refl, long, fits, end)
                  | false ↦ λ _ e. cc
                ] refl
            | false ↦ λ _ e. cc
          ] refl
    ] refl h

-- a frame that `start_of` finds begins here
pub begins_from : (octets : List ℕ) (l : ℕ) → start_of octets ≡ Frame l → FrameBegins octets l
begins_from octets l h =
    elim (agrees octets bufr) as (λ b. agrees octets bufr ≡ b
    → cond b (start_by (announced octets) octets) Other ≡ Frame l → FrameBegins octets l) [
      | true ↦ λ mark e. let f = frame_by (announced octets) octets l e in
          record { mark = mark; told = f.0; long = f.1; whole = f.2; end = f.3 }
      | false ↦ λ _ e. cc
    ] refl h

-- `start_of` finds a frame that begins here
pub begins_to : (octets : List ℕ) (l : ℕ) → FrameBegins octets l → start_of octets ≡ Frame l
begins_to octets l b =
    rw (b.mark, b.told, le-ltb l 12 b.long, b.end, le-leb l (length octets) b.whole) refl

FrameBegins-append : (octets more : List ℕ) (l : ℕ) → FrameBegins octets l
    → FrameBegins (octets ++ more) l
FrameBegins-append octets more l b = let whole = b.whole in let long = b.long in record {
  mark = agrees-append octets bufr more (omega arith) b.mark;
  told = announced-append octets more l b.told;
  long = b.long;
  whole = omega (arith, length-append octets more);
  end = agrees-drop (l - 4) octets sevens more (omega arith) b.end;
}

-- a frame stays with more octets
pub Frame-append : (octets more : List ℕ) (l : ℕ) → start_of octets ≡ Frame l
    → start_of (octets ++ more) ≡ Frame l
Frame-append octets more l h =
    begins_to _ l (FrameBegins-append octets more l (begins_from octets l h))

-- octets that begin no frame begin none with more octets
pub Other-append : (octets more : List ℕ) → start_of octets ≡ Other
    → start_of (octets ++ more) ≡ Other
Other-append octets more h =
    elim (agrees octets bufr) as (λ b. agrees octets bufr ≡ b
    → cond b (start_by (announced octets) octets) Other ≡ Other
    → start_of (octets ++ more) ≡ Other) [
      | true ↦ λ mark e. elim (announced octets) as
          (λ o. announced octets ≡ o → start_by o octets ≡ Other
          → start_of (octets ++ more) ≡ Other) [
            | None ↦ λ _ e. cc
            | Some l ↦ λ told e.
                let long_enough = announced-length octets l told in
                let more_mark = agrees-append octets bufr more (omega arith) mark in
                rw (more_mark, announced-append octets more l told)
                (elim (nat_lt l 12) as (λ b. cond b Other
                (cond (agrees (drop (l - 4) octets) sevens)
                (cond (nat_le l (length octets)) (Frame l) Open) Other) ≡ Other
                → cond b Other (cond (agrees (drop (l - 4) (octets ++ more)) sevens)
                (cond (nat_le l (length (octets ++ more))) (Frame l) Open) Other) ≡ Other) [
                  | true ↦ λ _. refl
                  | false ↦ λ e. elim (agrees (drop (l - 4) octets) sevens) as
                      (λ b. agrees (drop (l - 4) octets) sevens ≡ b
                      → cond b (cond (nat_le l (length octets)) (Frame l) Open) Other ≡ Other
                      → cond (agrees (drop (l - 4) (octets ++ more)) sevens)
                      (cond (nat_le l (length (octets ++ more))) (Frame l) Open) Other ≡ Other) [
                        | true ↦ λ _ e. elim (nat_le l (length octets)) as
                            (λ b. cond b (Frame l) Open ≡ Other
                            → cond (agrees (drop (l - 4) (octets ++ more)) sevens)
                            (cond (nat_le l (length (octets ++ more))) (Frame l) Open) Other
                            ≡ Other)
                            [ true ↦ λ e. cc | false ↦ λ e. cc ] e
                        | false ↦ λ no e. rw (disagrees-drop (l - 4) octets sevens more no) refl
                      ] refl e
                ] e)
          ] refl e
      | false ↦ λ no _. rw (disagrees-append octets bufr more no) refl
    ] refl h

-- the frames of all octets are those of the first ones and those of the rest
abbrev PartsFrames : Bool → ℕ → ℕ → ℕ → List ℕ → List ℕ → Type 0
PartsFrames ended place skip out xs more =
    (at : ℕ) → at + length (rest_from out skip xs) ≡ place + length xs →
    frames_from ended place skip (xs ++ more) ≡ take out (frames_from false place skip xs)
    ++ frames_from ended at 0 (rest_from out skip xs ++ more)

-- if no frame begins here, the frames are those after this octet
pub frames_other : (ended : Bool) (place : ℕ) (x : ℕ) (xs : List ℕ) → start_of (x ∷ xs) ≡ Other
    → frames_from ended place 0 (x ∷ xs) ≡ frames_from ended (place + 1) 0 xs
frames_other ended place x xs h = rw (h, frames_from) refl

-- at an open place no frame is sure
pub frames_open : (place : ℕ) (x : ℕ) (xs : List ℕ) → start_of (x ∷ xs) ≡ Open
    → frames_from false place 0 (x ∷ xs) ≡ []
frames_open place x xs h = rw (h, frames_from) refl

-- a frame that begins here is the first
pub frames_frame : (ended : Bool) (place l : ℕ) (x : ℕ) (xs : List ℕ) → start_of (x ∷ xs) ≡ Frame l
    → frames_from ended place 0 (x ∷ xs) ≡ record { place = place; bytes = take l (x ∷ xs) }
    ∷ frames_from ended (place + 1) (l - 1) xs
frames_frame ended place l x xs h = rw (h, frames_from) refl

-- if no frame begins here, the rest is that after this octet
pub rest_other : (out x : ℕ) (xs : List ℕ) → start_of (x ∷ xs) ≡ Other
    → rest_from out 0 (x ∷ xs) ≡ rest_from out 0 xs
rest_other out x xs h = rw (h, rest_from) refl

-- at an open place all is left
pub rest_open : (out x : ℕ) (xs : List ℕ) → start_of (x ∷ xs) ≡ Open
    → rest_from out 0 (x ∷ xs) ≡ x ∷ xs
rest_open out x xs h = rw (h, rest_from) refl

-- before any frame is out, all is left from a frame on
pub rest_none : (l x : ℕ) (xs : List ℕ) → start_of (x ∷ xs) ≡ Frame l
    → rest_from 0 0 (x ∷ xs) ≡ x ∷ xs
rest_none l x xs h = rw (h, rest_from) refl

-- after a frame, the rest is that after its octets
pub rest_frame : (out l x : ℕ) (xs : List ℕ) → start_of (x ∷ xs) ≡ Frame l
    → rest_from (suc out) 0 (x ∷ xs) ≡ rest_from out (l - 1) xs
rest_frame out l x xs h = rw (h, rest_from) refl

-- after the first frames, those of a longer stream come from the octets left and the new ones
pub frames_from-append : (ended : Bool) (place skip out : ℕ) (xs more : List ℕ) → skip ≤ length xs
    → out ≤ length (frames_from false place skip xs) → PartsFrames ended place skip out xs more
frames_from-append ended place zero zero [] more s o at e = let same : at ≡ place = omega arith in
    rw same refl
frames_from-append ended place zero (suc out) [] more s o at e = absurd (omega arith)
frames_from-append ended place (suc skip) out [] more s o at e = absurd (omega arith)
frames_from-append ended place (suc skip) out (x ∷ xs) more s o at e =
    frames_from-append ended (place + 1) skip out xs more (omega arith) o at (omega arith)
frames_from-append ended place zero zero (x ∷ xs) more s o at e =
    elim (start_of (x ∷ xs)) as (λ u. start_of (x ∷ xs) ≡ u
    → frames_from ended place 0 ((x ∷ xs) ++ more)
    ≡ [] ++ frames_from ended at 0 (rest_from 0 0 (x ∷ xs) ++ more)) [
      | Other ↦ λ h. let e2 : at + length (rest_from 0 0 xs) ≡ (place + 1) + length xs =
          omega (arith, ap length (rest_other 0 x xs h)) in
          frames_other ended place x (xs ++ more) (Other-append (x ∷ xs) more h)
          ∙ frames_from-append ended (place + 1) 0 0 xs more (omega arith) (omega arith) at e2
          ∙ ap (λ r. frames_from ended at 0 (r ++ more)) (sym (rest_other 0 x xs h))
      | Open ↦ λ h. let same : at ≡ place = omega (arith, ap length (rest_open 0 x xs h)) in
          rw same (ap (λ r. frames_from ended place 0 (r ++ more)) (sym (rest_open 0 x xs h)))
      | Frame l ↦ λ h. let same : at ≡ place = omega (arith, ap length (rest_none l x xs h)) in
          rw same (ap (λ r. frames_from ended place 0 (r ++ more)) (sym (rest_none l x xs h)))
    ] refl
frames_from-append ended place zero (suc out) (x ∷ xs) more s o at e =
    elim (start_of (x ∷ xs)) as (λ u. start_of (x ∷ xs) ≡ u
    → frames_from ended place 0 ((x ∷ xs) ++ more)
    ≡ take (suc out) (frames_from false place 0 (x ∷ xs))
    ++ frames_from ended at 0 (rest_from (suc out) 0 (x ∷ xs) ++ more)) [
      | Other ↦ λ h. let e2 : at + length (rest_from (suc out) 0 xs) ≡ (place + 1) + length xs =
          omega (arith, ap length (rest_other (suc out) x xs h)) in
          let o2 : suc out ≤ length (frames_from false (place + 1) 0 xs) =
          omega (arith, ap length (frames_other false place x xs h)) in
          frames_other ended place x (xs ++ more) (Other-append (x ∷ xs) more h)
          ∙ frames_from-append ended (place + 1) 0 (suc out) xs more (omega arith) o2 at e2
          ∙ ap (λ (p : List Found × List ℕ). take (suc out) p.0
          ++ frames_from ended at 0 (p.1 ++ more))
          (sym (ap (λ f. (f, rest_from (suc out) 0 xs)) (frames_other false place x xs h)
          ∙ ap (λ r. (frames_from false (place + 1) 0 xs, r)) refl))
          ∙ ap (λ r. take (suc out) (frames_from false place 0 (x ∷ xs))
          ++ frames_from ended at 0 (r ++ more)) (sym (rest_other (suc out) x xs h))
      | Open ↦ λ h. absurd (omega (arith, ap length (frames_open place x xs h)))
      | Frame l ↦ λ h. let whole = (begins_from (x ∷ xs) l h).whole in let long =
          (begins_from (x ∷ xs) l h).long in
          let e2 : at + length (rest_from out (l - 1) xs) ≡ (place + 1) + length xs =
          omega (arith, ap length (rest_frame out l x xs h)) in
          let o2 : out ≤ length (frames_from false (place + 1) (l - 1) xs) =
          omega (arith, ap length (frames_frame false place l x xs h)) in
          frames_frame ended place l x (xs ++ more) (Frame-append (x ∷ xs) more l h)
          ∙ ap (λ b. record { place = place; bytes = b }
          ∷ frames_from ended (place + 1) (l - 1) (xs ++ more))
          (take-append-le l (x ∷ xs) more whole)
          ∙ ap (λ fs. record { place = place; bytes = take l (x ∷ xs) } ∷ fs)
          (frames_from-append ended (place + 1) (l - 1) out xs more (omega arith) o2 at e2)
          ∙ ap (λ f. take (suc out) f ++ frames_from ended at 0 (rest_from out (l - 1) xs ++ more))
          (sym (frames_frame false place l x xs h))
          ∙ ap (λ r. take (suc out) (frames_from false place 0 (x ∷ xs))
          ++ frames_from ended at 0 (r ++ more)) (sym (rest_frame out l x xs h))
    ] refl

-- the rest after some frames, taken in two steps
abbrev Rests : ℕ → ℕ → ℕ → List ℕ → List ℕ → Type 0
Rests skip out n xs more = rest_from (out + n) skip (xs ++ more)
    ≡ rest_from n 0 (rest_from out skip xs ++ more)

-- the rest of a longer stream is that of the octets left and the new ones
pub rest_from-append : (place skip out n : ℕ) (xs more : List ℕ) → skip ≤ length xs
    → out ≤ length (frames_from false place skip xs) → Rests skip out n xs more
rest_from-append place zero zero n [] more s o = ap (λ k. rest_from k 0 more) (zero-add n)
rest_from-append place zero (suc out) n [] more s o = absurd (omega arith)
rest_from-append place (suc skip) out n [] more s o = absurd (omega arith)
rest_from-append place (suc skip) out n (x ∷ xs) more s o =
    rest_from-append (place + 1) skip out n xs more (omega arith) o
rest_from-append place zero zero n (x ∷ xs) more s o =
    elim (start_of (x ∷ xs)) as (λ u. start_of (x ∷ xs) ≡ u → Rests zero zero n (x ∷ xs) more) [
      | Other ↦ λ h. rest_other (0 + n) x (xs ++ more) (Other-append (x ∷ xs) more h)
          ∙ rest_from-append (place + 1) 0 0 n xs more (omega arith) (omega arith)
          ∙ ap (λ r. rest_from n 0 (r ++ more)) (sym (rest_other 0 x xs h))
      | Open ↦ λ h. ap (λ k. rest_from k 0 ((x ∷ xs) ++ more)) (zero-add n)
          ∙ ap (λ r. rest_from n 0 (r ++ more)) (sym (rest_open 0 x xs h))
      | Frame l ↦ λ h. ap (λ k. rest_from k 0 ((x ∷ xs) ++ more)) (zero-add n)
          ∙ ap (λ r. rest_from n 0 (r ++ more)) (sym (rest_none l x xs h))
    ] refl
rest_from-append place zero (suc out) n (x ∷ xs) more s o =
    elim (start_of (x ∷ xs)) as (λ u. start_of (x ∷ xs) ≡ u
    → Rests zero (suc out) n (x ∷ xs) more) [
      | Other ↦ λ h. rest_other (suc out + n) x (xs ++ more) (Other-append (x ∷ xs) more h)
          ∙ rest_from-append (place + 1) 0 (suc out) n xs more (omega arith)
          (omega (arith, ap length (frames_other false place x xs h)))
          ∙ ap (λ r. rest_from n 0 (r ++ more)) (sym (rest_other (suc out) x xs h))
      | Open ↦ λ h. absurd (omega (arith, ap length (frames_open place x xs h)))
      | Frame l ↦ λ h. let whole = (begins_from (x ∷ xs) l h).whole in let long =
          (begins_from (x ∷ xs) l h).long in
          let more_out : suc out + n ≡ suc (out + n) = omega arith in
          ap (λ k. rest_from k 0 ((x ∷ xs) ++ more)) more_out
          ∙ rest_frame (out + n) l x (xs ++ more) (Frame-append (x ∷ xs) more l h)
          ∙ rest_from-append (place + 1) (l - 1) out n xs more (omega arith)
          (omega (arith, ap length (frames_frame false place l x xs h)))
          ∙ ap (λ r. rest_from n 0 (r ++ more)) (sym (rest_frame out l x xs h))
    ] refl

-- no more is left than there was
pub rest_from-length : (out skip : ℕ) (xs : List ℕ) → length (rest_from out skip xs) ≤ length xs
rest_from-length out skip [] = omega arith
rest_from-length out (suc skip) (x ∷ xs) = omega (arith, rest_from-length out skip xs)
rest_from-length out zero (x ∷ xs) =
    elim (start_of (x ∷ xs)) as (λ u. start_of (x ∷ xs) ≡ u
    → length (rest_from out zero (x ∷ xs)) ≤ length (x ∷ xs)) [
      | Other ↦ λ h. omega (arith, ap length (rest_other out x xs h), rest_from-length out 0 xs)
      | Open ↦ λ h. omega (arith, ap length (rest_open out x xs h))
      | Frame l ↦ λ h. elim out as (λ k. length (rest_from k zero (x ∷ xs)) ≤ length (x ∷ xs)) [
        | zero ↦ omega (arith, ap length (rest_none l x xs h))
        | suc k ↦ omega (arith, ap length (rest_frame k l x xs h), rest_from-length k (l - 1) xs)
      ]
    ] refl

-- the octets left follow a place
pub rest_from-place : (out : ℕ) (s : List ℕ)
    → (length s - length (rest_from out 0 s)) + length (rest_from out 0 s) ≡ 0 + length s
rest_from-place out s = omega (arith, rest_from-length out 0 s)

-- the place of the first octet held
abbrev pub place_of : Framing → ℕ
place_of framer = framer.fed - length framer.held

-- the sure frames of a longer stream, by the framer
pub Stands-sure : (v : Framing) (s : List ℕ) (out : ℕ) (more : List ℕ) → Stands v s out
    → sure (s ++ more) ≡ take out (sure s) ++ frames_from false (place_of v) 0 (v.held ++ more)
Stands-sure v s out more st = rw (st.fed, st.held)
    (frames_from-append false 0 0 out s more (omega arith) st.out_of_sure _ (rest_from-place out s))

-- the cut of a longer stream, by the framer
pub Stands-cut : (v : Framing) (s : List ℕ) (out : ℕ) (more : List ℕ) → Stands v s out
    → cut (s ++ more) ≡ take out (sure s) ++ frames_from true (place_of v) 0 (v.held ++ more)
Stands-cut v s out more st = rw (st.fed, st.held)
    (frames_from-append true 0 0 out s more (omega arith) st.out_of_sure _ (rest_from-place out s))

after_taken : {A : Type 0} (n : ℕ) (xs ys zs : List A) → n ≤ length xs → zs ≡ take n xs ++ ys
    → drop n zs ≡ ys
after_taken n xs ys zs l h = let here : length (take n xs) ≡ n = length-take-le n xs l in
    ap (drop n) h ∙ ap (λ k. drop k (take n xs ++ ys)) (sym here) ∙ drop-append_seam (take n xs) ys

-- what a framer hands out for a piece, if it hands out all sure frames
pub Stands-found : (v : Framing) (s : List ℕ) (out : ℕ) (more : List ℕ) → Stands v s out
    → drop out (sure (s ++ more)) ≡ frames_from false (place_of v) 0 (v.held ++ more)
Stands-found v s out more st =
    after_taken out (sure s) _ _ st.out_of_sure (Stands-sure v s out more st)

-- what a framer hands out at the end
pub Stands-ended : (v : Framing) (s : List ℕ) (out : ℕ) → Stands v s out
    → drop out (cut s) ≡ frames_from true (place_of v) 0 v.held
Stands-ended v s out st = rw (append-nil s, append-nil v.held) at
    (after_taken out (sure s) _ _ st.out_of_sure (Stands-cut v s out [] st))

-- a framer after `n` further frames of what it holds and the piece
pub Stands-more : (v : Framing) (s : List ℕ) (out n : ℕ) (more : List ℕ) → Stands v s out
    → n ≤ length (frames_from false (place_of v) 0 (v.held ++ more)) →
    Stands (record { fed = v.fed + length more; held = rest_from n 0 (v.held ++ more) }) (s ++ more)
    (out + n)
Stands-more v s out n more st l =
    let o = st.out_of_sure in
    record {
      fed = omega (arith, st.fed, length-append s more);
      out_of_sure = omega (
        arith,
        ap length (Stands-sure v s out more st),
        length-append (take out (sure s)) (frames_from false (place_of v) 0 (v.held ++ more)),
        length-take-le out (sure s) st.out_of_sure,
      );
      held = rw st.held (sym (rest_from-append 0 0 out n s more (omega arith) st.out_of_sure));
    }

-- a framer after all sure frames
pub Stands-all : (v : Framing) (s : List ℕ) (out : ℕ) (more : List ℕ) → Stands v s out →
    Stands (record {
      fed = v.fed + length more;
      held =
          rest_from (length (frames_from false (place_of v) 0 (v.held ++ more))) 0 (v.held ++ more);
    })
    (s ++ more) (length (sure (s ++ more)))
Stands-all v s out more st =
    let n = length (frames_from false (place_of v) 0 (v.held ++ more)) in
    let all : out + n ≡ length (sure (s ++ more)) = let o = st.out_of_sure in
    omega (
      arith,
      ap length (Stands-sure v s out more st),
      length-append (take out (sure s)) (frames_from false (place_of v) 0 (v.held ++ more)),
      length-take-le out (sure s) st.out_of_sure,
    ) in
    rw all at (Stands-more v s out n more st (omega arith))

-- sure frames stay sure
pub sure-append : (s more : List ℕ) → (new : List Found) × (sure (s ++ more) ≡ sure s ++ new)
sure-append s more =
    let v : Framing = record { fed = length s; held = rest_from (length (sure s)) 0 s } in
    let st : Stands v s (length (sure s)) =
    record { fed = refl; out_of_sure = omega arith; held = refl } in (
      _,
      Stands-sure v s (length (sure s)) more st
          ∙ ap (λ a. a ++ frames_from false (place_of v) 0 (v.held ++ more)) (take-length (sure s)),
    )

-- sure frames begin the cut of each longer stream
pub cut-append : (s more : List ℕ) → (new : List Found) × (cut (s ++ more) ≡ sure s ++ new)
cut-append s more =
    let v : Framing = record { fed = length s; held = rest_from (length (sure s)) 0 s } in
    let st : Stands v s (length (sure s)) =
    record { fed = refl; out_of_sure = omega arith; held = refl } in (
      _,
      Stands-cut v s (length (sure s)) more st
          ∙ ap (λ a. a ++ frames_from true (place_of v) 0 (v.held ++ more)) (take-length (sure s)),
    )

-- the sure frames of a longer stream: those of the stream, and new ones
pub sure-piece : (s more : List ℕ) → sure (s ++ more)
    ≡ sure s ++ drop (length (sure s)) (sure (s ++ more))
sure-piece s more = let a = sure-append s more in
    a.1 ∙ ap (λ fs. sure s ++ fs) (sym (drop-append_seam (sure s) a.0)
    ∙ ap (drop (length (sure s))) (sym a.1))

-- the cut of a stream: its sure frames, and the last ones
pub cut-end : (s : List ℕ) → cut s ≡ sure s ++ drop (length (sure s)) (cut s)
cut-end s = let a = cut-append s [] in let b : cut s ≡ sure s ++ a.0 =
    ap cut (sym (append-nil s)) ∙ a.1 in
    b ∙ ap (λ fs. sure s ++ fs) (sym (drop-append_seam (sure s) a.0)
    ∙ ap (drop (length (sure s))) (sym b))

-- the cut of a longer stream: the sure frames of the stream, and others
pub cut-piece : (s more : List ℕ) → cut (s ++ more)
    ≡ sure s ++ drop (length (sure s)) (cut (s ++ more))
cut-piece s more = let a = cut-append s more in
    a.1 ∙ ap (λ fs. sure s ++ fs) (sym (drop-append_seam (sure s) a.0)
    ∙ ap (drop (length (sure s))) (sym a.1))

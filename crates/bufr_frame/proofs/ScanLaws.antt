-- How far a scan has come: the frames found, and those from here on. For `feed`, `look_end` and
-- `take_next`.
use Rattle.std.proofs.Common.{◌≡◌, ℕ, zero, suc, ◌+◌, ◌-◌, ◌<◌, ◌≤◌, Bool, true, false, List, []}
use Rattle.std.proofs.Common.{◌∷◌, ◌++◌, length, take, drop, refl, sym, ap, ◌∙◌, subst, arith}
use Rattle.std.proofs.Common.{length-append, append_assoc}
use Rattle.std.proofs.lemmas.List.{append-nil, drop-drop, drop_all, length-drop}
use Rattle.bufr_frame.specs.declared.frames.Found.{Found}
use Rattle.bufr_frame.specs.declared.places.Start.TheVariants.{Frame, Open, Other}
use Rattle.bufr_frame.specs.Starts.{start_of}
use Rattle.bufr_frame.specs.Streams.{frames_from, rest_from}
use Rattle.bufr_frame.specs.StreamLaws.{begins_from, frames_other, frames_open, frames_frame}
use Rattle.bufr_frame.specs.StreamLaws.{rest_other, rest_open, rest_frame}

-- the frames found and those from here on are all, and so is the rest after some of them
pub record Scanned (ended : Bool) (place : ℕ) (octets : List ℕ) (frames : List Found)
    (here : ℕ) : Type 0 where
  pub within : here ≤ length octets
  pub all_frames : frames_from ended place 0 octets ≡ frames
      ++ frames_from ended (place + here) 0 (drop here octets)
  pub all_rest : ended ≡ false → (n : ℕ) → rest_from (length frames + n) 0 octets
      ≡ rest_from n 0 (drop here octets)

frames_skip : (ended : Bool) (place skip : ℕ) (xs : List ℕ) → skip ≤ length xs
    → frames_from ended place skip xs ≡ frames_from ended (place + skip) 0 (drop skip xs)
frames_skip ended place zero [] h = refl
frames_skip ended place zero (x ∷ xs) h =
    ap (λ p. frames_from ended p 0 (x ∷ xs)) (let e : place ≡ place + 0 = omega arith in e)
frames_skip ended place (suc skip) [] h = absurd (omega arith)
frames_skip ended place (suc skip) (x ∷ xs) h =
    frames_skip ended (place + 1) skip xs (omega arith)
    ∙ ap (λ p. frames_from ended p 0 (drop skip xs))
    (let e : (place + 1) + skip ≡ place + suc skip = omega arith in e)

rest_skip : (n skip : ℕ) (xs : List ℕ) → skip ≤ length xs
    → rest_from n skip xs ≡ rest_from n 0 (drop skip xs)
rest_skip n zero xs h = refl
rest_skip n (suc skip) [] h = absurd (omega arith)
rest_skip n (suc skip) (x ∷ xs) h = rest_skip n skip xs (omega arith)

pub frames_pass : (ended : Bool) (place d : ℕ) (xs : List ℕ) → d ≤ length xs
    → ((k : ℕ) → k < d → start_of (drop k xs) ≡ Other)
    → frames_from ended place 0 xs ≡ frames_from ended (place + d) 0 (drop d xs)
frames_pass ended place zero xs h o =
    ap (λ p. frames_from ended p 0 xs) (let e : place ≡ place + 0 = omega arith in e)
frames_pass ended place (suc d) [] h o = absurd (omega arith)
frames_pass ended place (suc d) (x ∷ xs) h o =
    frames_other ended place x xs (o 0 (omega arith))
    ∙ frames_pass ended (place + 1) d xs (omega arith) (λ k l. o (suc k) (omega arith))
    ∙ ap (λ p. frames_from ended p 0 (drop d xs))
    (let e : (place + 1) + d ≡ place + suc d = omega arith in e)

pub rest_pass : (n d : ℕ) (xs : List ℕ) → d ≤ length xs
    → ((k : ℕ) → k < d → start_of (drop k xs) ≡ Other)
    → rest_from n 0 xs ≡ rest_from n 0 (drop d xs)
rest_pass n zero xs h o = refl
rest_pass n (suc d) [] h o = absurd (omega arith)
rest_pass n (suc d) (x ∷ xs) h o =
    rest_other n x xs (o 0 (omega arith))
    ∙ rest_pass n d xs (omega arith) (λ k l. o (suc k) (omega arith))

pub scanned_first : (ended : Bool) (place : ℕ) (octets : List ℕ) → Scanned ended place octets [] 0
scanned_first ended place octets = record {
  within = omega arith;
  all_frames =
      ap (λ p. frames_from ended p 0 octets) (let e : place ≡ place + 0 = omega arith in e);
  all_rest = λ _ n. ap (λ k. rest_from k 0 octets) (let e : 0 + n ≡ n = omega arith in e);
}

-- frames and rest are the same from both places on
pub record Passed (ended : Bool) (octets : List ℕ) (from here : ℕ) : Type 0 where
  pub after : from ≤ here
  pub within : here ≤ length octets
  pub same_frames : (place : ℕ) → frames_from ended (place + from) 0 (drop from octets)
      ≡ frames_from ended (place + here) 0 (drop here octets)
  pub same_rest : ended ≡ false → (n : ℕ) → rest_from n 0 (drop from octets)
      ≡ rest_from n 0 (drop here octets)

pub passed_first : (ended : Bool) (octets : List ℕ) (from : ℕ) → from ≤ length octets
    → Passed ended octets from from
passed_first ended octets from room = record {
  after = omega arith;
  within = room;
  same_frames = λ place. refl;
  same_rest = λ e n. refl;
}

pub passed_on : (ended : Bool) (octets : List ℕ) (from here next : ℕ)
    → Passed ended octets from here → here < next → next ≤ length octets
    → ((k : ℕ) → here ≤ k → k < next → start_of (drop k octets) ≡ Other)
    → Passed ended octets from next
passed_on ended octets from here next s later room others =
    let after = s.after in
    let d = next - here in
    let whole : here + d ≡ next = omega arith in
    let far : drop d (drop here octets) ≡ drop next octets =
    drop-drop d here octets ∙ ap (λ k. drop k octets) whole in
    let fits : d ≤ length (drop here octets) = omega (arith, length-drop here octets) in
    let other : (k : ℕ) → k < d → start_of (drop k (drop here octets)) ≡ Other =
    λ k l. ap start_of (drop-drop k here octets) ∙ others (here + k) (omega arith) (omega arith) in
    record {
      after = omega arith;
      within = room;
      same_frames = λ place. s.same_frames place
          ∙ frames_pass ended (place + here) d (drop here octets) fits other
          ∙ ap (λ t. frames_from ended ((place + here) + d) 0 t) far
          ∙ ap (λ p. frames_from ended p 0 (drop next octets))
          (let e : (place + here) + d ≡ place + next = omega arith in e);
      same_rest = λ e n. s.same_rest e n ∙ rest_pass n d (drop here octets) fits other
          ∙ ap (λ t. rest_from n 0 t) far;
    }

passed : (place : ℕ) (t : List ℕ) → start_of t ≡ Open
    → frames_from true place 0 t ≡ frames_from true (place + 1) 0 (drop 1 t)
passed place [] h = refl
passed place (x ∷ xs) h = rw (h, frames_from) refl

pub passed_past : (ended : Bool) (octets : List ℕ) (from here : ℕ) → ended ≡ true
    → Passed ended octets from here → here < length octets → start_of (drop here octets) ≡ Open
    → Passed ended octets from (here + 1)
passed_past ended octets from here is s room h =
    let after = s.after in
    record {
      after = omega arith;
      within = omega arith;
      same_frames = λ place. s.same_frames place
          ∙ subst (λ b. frames_from b (place + here) 0 (drop here octets)
          ≡ frames_from b ((place + here) + 1) 0 (drop 1 (drop here octets))) (sym is)
          (passed (place + here) (drop here octets) h)
          ∙ ap (λ t. frames_from ended ((place + here) + 1) 0 t) (drop-drop 1 here octets)
          ∙ ap (λ p. frames_from ended p 0 (drop (here + 1) octets))
          (let e : (place + here) + 1 ≡ place + (here + 1) = omega arith in e);
      same_rest = λ e n. let no_way : true ≡ false = sym is ∙ e in cc;
    }

pub scanned_passed : (ended : Bool) (place : ℕ) (octets : List ℕ) (frames : List Found)
    (from here : ℕ) → Scanned ended place octets frames from → here ≤ length octets
    → ((p : ℕ) → frames_from ended (p + from) 0 (drop from octets)
    ≡ frames_from ended (p + here) 0 (drop here octets))
    → (ended ≡ false → (n : ℕ) → rest_from n 0 (drop from octets)
    ≡ rest_from n 0 (drop here octets))
    → Scanned ended place octets frames here
scanned_passed ended place octets frames from here s within same_frames same_rest = record {
  within = within;
  all_frames = s.all_frames ∙ ap (λ fs. frames ++ fs) (same_frames place);
  all_rest = λ e n. s.all_rest e n ∙ same_rest e n;
}

pub one_frame : (ended : Bool) (place l : ℕ) (t : List ℕ) → start_of t ≡ Frame l
    → frames_from ended place 0 t
    ≡ record { place = place; bytes = take l t } ∷ frames_from ended (place + l) 0 (drop l t)
one_frame ended place l [] h =
    let b = (begins_from [] l h).whole in let c = (begins_from [] l h).long in absurd (omega arith)
one_frame ended place zero (x ∷ xs) h =
    let c = (begins_from (x ∷ xs) zero h).long in absurd (omega arith)
one_frame ended place (suc l) (x ∷ xs) h =
    let b = (begins_from (x ∷ xs) (suc l) h).whole in
    let less : suc l - 1 ≡ l = omega arith in
    frames_frame ended place (suc l) x xs h
    ∙ ap (λ fs. record { place = place; bytes = take (suc l) (x ∷ xs) } ∷ fs)
    (ap (λ k. frames_from ended (place + 1) k xs) less
    ∙ frames_skip ended (place + 1) l xs (omega arith)
    ∙ ap (λ p. frames_from ended p 0 (drop l xs))
    (let e : (place + 1) + l ≡ place + suc l = omega arith in e))

pub one_rest : (n l : ℕ) (t : List ℕ) → start_of t ≡ Frame l
    → rest_from (suc n) 0 t ≡ rest_from n 0 (drop l t)
one_rest n l [] h =
    let b = (begins_from [] l h).whole in let c = (begins_from [] l h).long in absurd (omega arith)
one_rest n zero (x ∷ xs) h = let c = (begins_from (x ∷ xs) zero h).long in absurd (omega arith)
one_rest n (suc l) (x ∷ xs) h =
    let b = (begins_from (x ∷ xs) (suc l) h).whole in
    let less : suc l - 1 ≡ l = omega arith in
    rest_frame n (suc l) x xs h ∙ ap (λ k. rest_from n k xs) less ∙ rest_skip n l xs (omega arith)

pub frame_fits : (octets : List ℕ) (l : ℕ) → start_of octets ≡ Frame l → l ≤ length octets
frame_fits octets l h = (begins_from octets l h).whole

pub frame_moves : (octets : List ℕ) (l : ℕ) → start_of octets ≡ Frame l → 12 ≤ l
frame_moves octets l h = (begins_from octets l h).long

pub scanned_frame : (ended : Bool) (place : ℕ) (octets : List ℕ) (frames : List Found) (here l : ℕ)
    → Scanned ended place octets frames here → start_of (drop here octets) ≡ Frame l
    → Scanned ended place octets
    (frames ++ record { place = place + here; bytes = take l (drop here octets) } ∷ []) (here + l)
scanned_frame ended place octets frames here l s h =
    let fits = frame_fits (drop here octets) l h in
    let w = s.within in
    let far : drop l (drop here octets) ≡ drop (here + l) octets = drop-drop l here octets in
    let f : Found = record { place = place + here; bytes = take l (drop here octets) } in
    record {
      within = omega (arith, length-drop here octets);
      all_frames =
          s.all_frames
          ∙ ap (λ fs. frames ++ fs) (one_frame ended (place + here) l (drop here octets) h)
          ∙ sym (append_assoc frames (f ∷ [])
          (frames_from ended ((place + here) + l) 0 (drop l (drop here octets))))
          ∙ ap (λ fs. (frames ++ f ∷ []) ++ fs)
          (ap (λ t. frames_from ended ((place + here) + l) 0 t) far
          ∙ ap (λ p. frames_from ended p 0 (drop (here + l) octets))
          (let e : (place + here) + l ≡ place + (here + l) = omega arith in e));
      all_rest =
          λ e n. ap (λ k. rest_from k 0 octets)
          (let more : length (frames ++ f ∷ []) + n
          ≡ length frames + suc n = omega (arith, length-append frames (f ∷ [])) in more)
          ∙ s.all_rest e (suc n) ∙ one_rest n l (drop here octets) h
          ∙ ap (λ t. rest_from n 0 t) far;
    }

-- a scan that has come to its end
pub record ScannedAll (ended : Bool) (place : ℕ) (octets : List ℕ) (frames : List Found)
    (here : ℕ) : Type 0 where
  pub frames_are : frames ≡ frames_from ended place 0 octets
  pub rest_is : ended ≡ false → drop here octets ≡ rest_from (length frames) 0 octets

pub scanned_out : (ended : Bool) (place : ℕ) (octets : List ℕ) (frames : List Found) (here : ℕ)
    → Scanned ended place octets frames here → length octets ≤ here
    → ScannedAll ended place octets frames here
scanned_out ended place octets frames here s h =
    let none : drop here octets ≡ [] = drop_all here octets h in
    record {
      frames_are =
          sym (s.all_frames ∙ ap (λ t. frames ++ frames_from ended (place + here) 0 t) none
          ∙ append-nil frames);
      rest_is =
          λ e. sym
          (ap (λ k. rest_from k 0 octets)
          (let z : length frames ≡ length frames + 0 = omega arith in z) ∙ s.all_rest e 0
          ∙ ap (λ t. rest_from 0 0 t) none ∙ sym none);
    }

pub open_frames : (place : ℕ) (t : List ℕ) → start_of t ≡ Open → frames_from false place 0 t ≡ []
open_frames place [] h = refl
open_frames place (x ∷ xs) h = frames_open place x xs h

pub open_rest : (t : List ℕ) → start_of t ≡ Open → rest_from 0 0 t ≡ t
open_rest [] h = refl
open_rest (x ∷ xs) h = rest_open 0 x xs h

pub scanned_open : (ended : Bool) (place : ℕ) (octets : List ℕ) (frames : List Found) (here : ℕ)
    → ended ≡ false → Scanned ended place octets frames here → start_of (drop here octets) ≡ Open
    → ScannedAll ended place octets frames here
scanned_open ended place octets frames here is s h = record {
  frames_are =
      sym (s.all_frames
      ∙ ap (λ fs. frames ++ fs)
      (ap (λ b. frames_from b (place + here) 0 (drop here octets)) is
      ∙ open_frames (place + here) (drop here octets) h) ∙ append-nil frames);
  rest_is =
      λ e. sym
      (ap (λ k. rest_from k 0 octets) (let z : length frames ≡ length frames + 0 = omega arith in z)
      ∙ s.all_rest e 0 ∙ open_rest (drop here octets) h);
}

pub scanned_end : (ended : Bool) (place : ℕ) (octets : List ℕ) (frames : List Found) (here : ℕ)
    → Scanned ended place octets frames here → start_of (drop here octets) ≡ Open
    → (ended ≡ true → here ≡ length octets) → ScannedAll ended place octets frames here
scanned_end ended place octets frames here s h all =
    elim ended as (λ b. ended ≡ b → ScannedAll ended place octets frames here) [
      | true ↦ λ is. let at : here ≡ length octets = all is in
          scanned_out ended place octets frames here s (omega arith)
      | false ↦ λ is. scanned_open ended place octets frames here is s h
    ] refl

-- `cut` is the only list of frames taken from the left, for the law `cut_is_taken_from_the_left`;
-- and joined frames are their own cut, for `JoinedLaws`.
use Rattle.std.proofs.Common.{◌≡◌, ◌≢◌, ℕ, zero, suc, ◌+◌, ◌-◌, ◌≤◌, Bool, true, false, cond, eqb}
use Rattle.std.proofs.Common.{Some, List, [], ◌∷◌, ◌++◌, length, take, drop, refl, sym, ap, ◌∙◌}
use Rattle.std.proofs.Common.{subst, arith, length-append, ◌⊎◌, inl, inr, append_assoc, eq-eqb}
use Rattle.std.proofs.Common.{length-drop}
use Rattle.std.specs.List.{AllByRecursion, flat_map}
use Rattle.std.proofs.lemmas.List.{length-take-le}
use Rattle.std.proofs.lemmas.Bool.{eqb-true}
use Rattle.std.proofs.lemmas.Bool.Decides.{leb_tells}
use Rattle.std.proofs.Math.Seq.{take-append_seam}
use Rattle.bufr_frame.specs.declared.frames.Found.{Found}
use Rattle.bufr_frame.specs.declared.places.Start.TheVariants.{Frame, Open, Other}
use Rattle.bufr_frame.specs.Starts.{bufr, sevens, agrees, announced, start_of}
use Rattle.bufr_frame.specs.Streams.{frames_from, cut}
use Rattle.bufr_frame.specs.Cuts.{IsFrameAt, IsFrameOf, AreApart, IsInOne, IsCut, frames_at}
use Rattle.bufr_frame.specs.StreamLaws.{begins_from, begins_to, Frame-append, frames_frame}
use Rattle.bufr_frame.specs.StreamLaws.{frames_other}

skipped : (ended : Bool) (place : ℕ) (xs more : List ℕ)
    → frames_from ended place (length xs) (xs ++ more)
    ≡ frames_from ended (place + length xs) 0 more
skipped ended place [] more = ap (λ p. frames_from ended p 0 more)
    (let e : place ≡ place + 0 = omega arith in e)
skipped ended place (x ∷ xs) more =
    skipped ended (place + 1) xs more ∙ ap (λ p. frames_from ended p 0 more)
    (let e : (place + 1) + length xs ≡ place + length (x ∷ xs) = omega arith in e)

-- the octets are one whole frame
abbrev pub IsWhole : List ℕ → Type 0
IsWhole octets = start_of octets ≡ Frame (length octets)

one_more : (ended : Bool) (place : ℕ) (b more : List ℕ) → IsWhole b
    → frames_from ended place 0 (b ++ more) ≡ record { place = place; bytes = b }
    ∷ frames_from ended (place + length b) 0 more
one_more ended place [] more h = let g = begins_from [] 0 h in let l = g.long in
    absurd (omega arith)
one_more ended place (x ∷ xs) more h =
    frames_frame ended place (length (x ∷ xs)) x (xs ++ more)
    (Frame-append (x ∷ xs) more (length (x ∷ xs)) h)
    ∙ ap (λ b. record { place = place; bytes = b } ∷ frames_from ended (place + 1)
    (length (x ∷ xs) - 1) (xs ++ more)) (take-append_seam (x ∷ xs) more)
    ∙ ap (λ n. record { place = place; bytes = x ∷ xs }
    ∷ frames_from ended (place + 1) n (xs ++ more))
    (let e : length (x ∷ xs) - 1 ≡ length xs = omega arith in e)
    ∙ ap (λ fs. record { place = place; bytes = x ∷ xs } ∷ fs)
    (skipped ended (place + 1) xs more ∙ ap (λ p. frames_from ended p 0 more)
    (let e : (place + 1) + length xs ≡ place + length (x ∷ xs) = omega arith in e))

-- the frames of joined frames are these frames, whatever follows
pub frames_from-joined : (ended : Bool) (place : ℕ) (bs : List (List ℕ)) (more : List ℕ)
    → AllByRecursion IsWhole bs →
    frames_from ended place 0 (flat_map (λ b. b) bs ++ more)
    ≡ frames_at place bs ++ frames_from ended (place + length (flat_map (λ b. b) bs)) 0 more
frames_from-joined ended place [] more a =
    ap (λ p. frames_from ended p 0 more) (let e : place ≡ place + 0 = omega arith in e)
frames_from-joined ended place (b ∷ bs) more a =
    ap (λ s. frames_from ended place 0 s) (append_assoc b (flat_map (λ c. c) bs) more)
    ∙ one_more ended place b (flat_map (λ c. c) bs ++ more) a.0
    ∙ ap (λ fs. record { place = place; bytes = b } ∷ fs)
    (frames_from-joined ended (place + length b) bs more a.1
    ∙ ap (λ p. frames_at (place + length b) bs ++ frames_from ended p 0 more)
    (let e : (place + length b) + length (flat_map (λ c. c) bs)
    ≡ place + length (b ++ flat_map (λ c. c) bs) =
    omega (arith, length-append b (flat_map (λ c. c) bs)) in e))

-- lists that agree are the same as far as the second goes
pub agrees_take : (xs ys : List ℕ) → length ys ≤ length xs → agrees xs ys ≡ true
    → take (length ys) xs ≡ ys
agrees_take xs [] l h = refl
agrees_take [] (y ∷ ys) l h = absurd (omega arith)
agrees_take (x ∷ xs) (y ∷ ys) l h =
    elim (eqb x y) as (λ b. eqb x y ≡ b → cond b (agrees xs ys) false ≡ true
    → x ∷ take (length ys) xs ≡ y ∷ ys) [
      | true ↦ λ e k. ap (λ (p : ℕ × List ℕ). p.0 ∷ p.1)
          (ap (λ z. (z, take (length ys) xs)) (eqb-true x y e)
          ∙ ap (λ z. (y, z)) (agrees_take xs ys (omega arith) k))
      | false ↦ λ _ k. cc
    ] refl h

-- octets that begin with others agree with them
pub agrees_from : (xs ys : List ℕ) → take (length ys) xs ≡ ys → agrees xs ys ≡ true
agrees_from [] ys h = refl
agrees_from (x ∷ xs) [] h = refl
agrees_from (x ∷ xs) (y ∷ ys) h =
    let e : eqb x y ≡ true = eq-eqb x y cc in let t : take (length ys) xs ≡ ys = cc in
    rw e (agrees_from xs ys t)

-- `start_of` finds a frame of the stream
pub frame_from : (s : List ℕ) (p l : ℕ) → IsFrameAt s p l → start_of (drop p s) ≡ Frame l
frame_from s p l f =
    let room : length (drop p s) + p ≡ length s = let w = f.whole in
    omega (arith, length-drop p s) in
    let whole = f.whole in
    begins_to (drop p s) l (record {
      mark = agrees_from (drop p s) bufr f.mark;
      told = f.told;
      long = f.long;
      whole = omega arith;
      end = agrees_from (drop (l - 4) (drop p s)) sevens f.end;
    })

-- a frame that `start_of` finds is one of the stream
pub frame_to : (s : List ℕ) (p l : ℕ) → start_of (drop p s) ≡ Frame l → IsFrameAt s p l
frame_to s p l h =
    let b = begins_from (drop p s) l h in
    let w = b.whole in
    let long = b.long in
    let at_least : 4 ≤ length (drop p s) = omega arith in
    let last : 4 ≤ length (drop (l - 4) (drop p s)) =
    omega (arith, length-drop (l - 4) (drop p s)) in
    record {
      mark = agrees_take (drop p s) bufr at_least b.mark;
      told = b.told;
      long = b.long;
      whole = omega (arith, length-drop p s);
      end = agrees_take (drop (l - 4) (drop p s)) sevens last b.end;
    }

-- a frame that begins from `place` on, after the skipped octets
pub record Stood (place skip : ℕ) (xs : List ℕ) (f : Found) : Type 0 where
  pub n : ℕ
  pub at : f.place ≡ place + n
  pub past : skip ≤ n
  pub start : start_of (drop n xs) ≡ Frame (length f.bytes)
  pub octets : f.bytes ≡ take (length f.bytes) (drop n xs)

pub all_weaker : (P Q : Found → Type 0) → ((x : Found) → P x → Q x) → (xs : List Found)
    → AllByRecursion P xs → AllByRecursion Q xs
all_weaker P Q f [] a = tt
all_weaker P Q f (x ∷ xs) a = (f x a.0, all_weaker P Q f xs a.1)

-- if no frame begins here, the frames are those after this octet
pub frames_passed : (place x : ℕ) (xs : List ℕ) → (start_of (x ∷ xs) ≡ Other)
    ⊎ (start_of (x ∷ xs) ≡ Open) → frames_from true place 0 (x ∷ xs)
    ≡ frames_from true (place + 1) 0 xs
frames_passed place x xs (inl h) = frames_other true place x xs h
frames_passed place x xs (inr h) = rw (h, frames_from) refl

-- frames from a place on: each begins there, they are apart, and each frame that begins is inside
-- one
pub record Good (place skip : ℕ) (xs : List ℕ) (fs : List Found) : Type 0 where
  pub each : AllByRecursion (Stood place skip xs) fs
  pub apart : AreApart fs
  pub covers : (n l : ℕ) → skip ≤ n → start_of (drop n xs) ≡ Frame l → IsInOne (place + n) fs

later : (place skip x : ℕ) (xs : List ℕ) (f : Found) → Stood (place + 1) skip xs f
    → Stood place (suc skip) (x ∷ xs) f
later place skip x xs f s = let a = s.at in let p = s.past in
    record { n = suc s.n; at = omega arith; past = omega arith; start = s.start; octets = s.octets }

good_later : (place skip x : ℕ) (xs : List ℕ) (fs : List Found) → Good (place + 1) skip xs fs
    → Good place (suc skip) (x ∷ xs) fs
good_later place skip x xs fs g = record {
  each = all_weaker (Stood (place + 1) skip xs) (Stood place (suc skip) (x ∷ xs))
      (later place skip x xs) fs g.each;
  apart = g.apart;
  covers = λ n l p h. good_covers place skip x xs fs g n l p h;
}
  where
    good_covers : (place skip x : ℕ) (xs : List ℕ) (fs : List Found) → Good (place + 1) skip xs fs
        → (n l : ℕ) → suc skip ≤ n → start_of (drop n (x ∷ xs)) ≡ Frame l → IsInOne (place + n) fs
    good_covers place skip x xs fs g zero l p h = absurd (omega arith)
    good_covers place skip x xs fs g (suc n) l p h =
        subst (λ q. IsInOne q fs) (let e : (place + 1) + n ≡ place + suc n = omega arith in e)
        (g.covers n l (omega arith) h)

nowhere : (place n l : ℕ) → start_of (drop n []) ≡ Frame l → IsInOne (place + n) []
nowhere place zero l h = cc
nowhere place (suc n) l h = cc

later_0 : (place x : ℕ) (xs : List ℕ) (skip : ℕ) (f : Found) → Stood (place + 1) skip xs f
    → Stood place 0 (x ∷ xs) f
later_0 place x xs skip f s = let a = s.at in
    record { n = suc s.n; at = omega arith; past = omega arith; start = s.start; octets = s.octets }

passed_covers : (place x : ℕ) (xs : List ℕ) (fs : List Found)
    → ((l : ℕ) → start_of (x ∷ xs) ≢ Frame l) → Good (place + 1) 0 xs fs → (n l : ℕ) → 0 ≤ n
    → start_of (drop n (x ∷ xs)) ≡ Frame l → IsInOne (place + n) fs
passed_covers place x xs fs never g zero l p h = absurd (never l h)
passed_covers place x xs fs never g (suc n) l p h =
    subst (λ q. IsInOne q fs) (let e : (place + 1) + n ≡ place + suc n = omega arith in e)
    (g.covers n l (omega arith) h)

good_passed : (place x : ℕ) (xs : List ℕ) (fs : List Found)
    → ((l : ℕ) → start_of (x ∷ xs) ≢ Frame l) → Good (place + 1) 0 xs fs → Good place 0 (x ∷ xs) fs
good_passed place x xs fs never g = record {
  each = all_weaker (Stood (place + 1) 0 xs) (Stood place 0 (x ∷ xs)) (later_0 place x xs 0) fs
      g.each;
  apart = g.apart;
  covers = passed_covers place x xs fs never g;
}

frame_covers : (place x l : ℕ) (xs b : List ℕ) (fs : List Found) → length b ≡ l → 12 ≤ l
    → Good (place + 1) (l - 1) xs fs → (n k : ℕ) → 0 ≤ n → start_of (drop n (x ∷ xs)) ≡ Frame k
    → IsInOne (place + n) (record { place = place; bytes = b } ∷ fs)
frame_covers place x l xs b fs e long g zero k p h = inl (omega arith, omega arith)
frame_covers place x l xs b fs e long g (suc n) k p h =
    elim (leb_tells (l - 1) n) [
      | inl q ↦ let past = q.1 in inr (subst (λ z. IsInOne z fs)
          (let same : (place + 1) + n ≡ place + suc n = omega arith in same) (g.covers n k past h))
      | inr q ↦ let below = q.1 in inl (omega arith, omega arith)
    ]

good_frame : (place x l : ℕ) (xs : List ℕ) (fs : List Found) → start_of (x ∷ xs) ≡ Frame l
    → Good (place + 1) (l - 1) xs fs
    → Good place 0 (x ∷ xs) (record { place = place; bytes = take l (x ∷ xs) } ∷ fs)
good_frame place x l xs fs h g =
    let b = begins_from (x ∷ xs) l h in
    let long = b.long in
    let size : length (take l (x ∷ xs)) ≡ l = length-take-le l (x ∷ xs) b.whole in
    record {
      each = (
        record {
          n = 0;
          at = let e : place ≡ place + 0 = omega arith in e;
          past = omega arith;
          start = h ∙ ap Frame (sym size);
          octets = ap (λ k. take k (x ∷ xs)) (sym size);
        },
        all_weaker (Stood (place + 1) (l - 1) xs) (Stood place 0 (x ∷ xs))
            (later_0 place x xs (l - 1)) fs g.each,
      );
      apart = (
        all_weaker (Stood (place + 1) (l - 1) xs) (λ f. place + length (take l (x ∷ xs)) ≤ f.place)
            (λ f s. let a = s.at in let p = s.past in omega arith) fs g.each,
        g.apart,
      );
      covers = frame_covers place x l xs (take l (x ∷ xs)) fs size long g;
    }

-- the frames that the scan finds are such
pub good : (place skip : ℕ) (xs : List ℕ) → Good place skip xs (frames_from true place skip xs)
good place skip [] = record { each = tt; apart = tt; covers = λ n l _ h. nowhere place n l h }
good place (suc skip) (x ∷ xs) = good_later place skip x xs _ (good (place + 1) skip xs)
good place zero (x ∷ xs) =
    elim (start_of (x ∷ xs)) as (λ u. start_of (x ∷ xs) ≡ u
    → Good place zero (x ∷ xs) (frames_from true place zero (x ∷ xs))) [
      | Other ↦ λ h. subst (Good place 0 (x ∷ xs)) (sym (frames_passed place x xs (inl h)))
          (good_passed place x xs _ (λ l k. let e : Other ≡ Frame l = sym h ∙ k in cc)
          (good (place + 1) 0 xs))
      | Open ↦ λ h. subst (Good place 0 (x ∷ xs)) (sym (frames_passed place x xs (inr h)))
          (good_passed place x xs _ (λ l k. let e : Open ≡ Frame l = sym h ∙ k in cc)
          (good (place + 1) 0 xs))
      | Frame l ↦ λ h. subst (Good place 0 (x ∷ xs)) (sym (frames_frame true place l x xs h))
          (good_frame place x l xs _ h (good (place + 1) (l - 1) xs))
    ] refl

stood_of : (s : List ℕ) (f : Found) → Stood 0 0 s f → IsFrameOf s f
stood_of s f t =
    let same : t.n ≡ f.place = let a = t.at in omega arith in
    record {
      stands = frame_to s f.place (length f.bytes)
          (subst (λ n. start_of (drop n s) ≡ Frame (length f.bytes)) same t.start);
      octets = subst (λ n. f.bytes ≡ take (length f.bytes) (drop n s)) same t.octets;
    }

-- `cut` is the list of frames taken from the left
pub cut_is : (s : List ℕ) → IsCut s (cut s)
cut_is s = let g = good 0 0 s in record {
  each = all_weaker (Stood 0 0 s) (IsFrameOf s) (stood_of s) (cut s) g.each;
  apart = g.apart;
  covers = λ p l f. subst (λ q. IsInOne q (cut s)) (let e : 0 + p ≡ p = omega arith in e)
      (g.covers p l (omega arith) (frame_from s p l f));
}

-- ---- there is one such list
in_later : (place : ℕ) (fs : List Found) (bound : ℕ) → AllByRecursion (λ g. bound ≤ g.place) fs
    → IsInOne place fs → bound ≤ place
in_later place [] bound a i = absurd i
in_later place (f ∷ fs) bound a (inl i) = let b = a.0 in let j = i.0 in omega arith
in_later place (f ∷ fs) bound a (inr i) = in_later place fs bound a.1 i

-- the frames of a stream from a place on
record CutFrom (s : List ℕ) (from : ℕ) (fs : List Found) : Type 0 where
  pub each : AllByRecursion (IsFrameOf s) fs
  pub after : AllByRecursion (λ g. from ≤ g.place) fs
  pub apart : AreApart fs
  pub covers : (place l : ℕ) → from ≤ place → IsFrameAt s place l → IsInOne place fs

tail_of : (s : List ℕ) (from : ℕ) (f : Found) (fs : List Found) → CutFrom s from (f ∷ fs)
    → CutFrom s (f.place + length f.bytes) fs
tail_of s from f fs c = record {
  each = c.each.1;
  after = c.apart.0;
  apart = c.apart.1;
  covers = λ p l past at. let b = c.after.0 in
      elim (c.covers p l (omega arith) at)
      [ inl i ↦ let j = i.1 in absurd (omega arith) | inr i ↦ i ];
}

head_le : (s : List ℕ) (from : ℕ) (f g : Found) (gs : List Found) → CutFrom s from (g ∷ gs)
    → from ≤ f.place → IsFrameOf s f → g.place ≤ f.place
head_le s from f g gs c past o =
    elim (c.covers f.place (length f.bytes) past o.stands) [
      | inl i ↦ i.0
      | inr i ↦ let b = in_later f.place gs (g.place + length g.bytes) c.apart.0 i in
          omega arith
    ]

same_frame : (s : List ℕ) (f g : Found) → f.place ≡ g.place → IsFrameOf s f → IsFrameOf s g → f ≡ g
same_frame s f g p a b =
    let t : Some (length f.bytes) ≡ Some (length g.bytes) =
    sym a.stands.told ∙ ap (λ q. announced (drop q s)) p ∙ b.stands.told in
    let l : length f.bytes ≡ length g.bytes = cc in
    let bytes : f.bytes ≡ g.bytes =
    a.octets ∙ ap (λ n. take n (drop f.place s)) l
    ∙ ap (λ q. take (length g.bytes) (drop q s)) p ∙ sym b.octets in
    ap (λ q. record f { place = q }) p ∙ ap (λ z. record g { bytes = z }) bytes

cut_same : (s : List ℕ) (from : ℕ) (fs gs : List Found) → CutFrom s from fs → CutFrom s from gs
    → fs ≡ gs
cut_same s from [] [] c d = refl
cut_same s from [] (g ∷ gs) c d =
    absurd (c.covers g.place (length g.bytes) d.after.0 d.each.0.stands)
cut_same s from (f ∷ fs) [] c d =
    absurd (d.covers f.place (length f.bytes) c.after.0 c.each.0.stands)
cut_same s from (f ∷ fs) (g ∷ gs) c d =
    let le = head_le s from f g gs d c.after.0 c.each.0 in
    let ge = head_le s from g f fs c d.after.0 d.each.0 in
    let here : f.place ≡ g.place = omega arith in
    let one : f ≡ g = same_frame s f g here c.each.0 d.each.0 in
    let rest : CutFrom s (f.place + length f.bytes) gs =
    subst (λ h. CutFrom s (h.place + length h.bytes) gs) (sym one) (tail_of s from g gs d) in
    ap (λ h. h ∷ fs) one ∙ ap (λ hs. g ∷ hs)
    (cut_same s (f.place + length f.bytes) fs gs (tail_of s from f fs c) rest)

all_any : (fs : List Found) → AllByRecursion (λ g. 0 ≤ g.place) fs
all_any [] = tt
all_any (f ∷ fs) = (omega arith, all_any fs)

cut_from : (s : List ℕ) (fs : List Found) → IsCut s fs → CutFrom s 0 fs
cut_from s fs c =
    record {
      each = c.each;
      after = all_any fs;
      apart = c.apart;
      covers =
          λ p l _ at. c.covers p l at;
    }

-- no other list is the cut
pub cut_only : (s : List ℕ) (fs : List Found) → IsCut s fs → fs ≡ cut s
cut_only s fs c = cut_same s 0 fs (cut s) (cut_from s fs c) (cut_from s (cut s) (cut_is s))

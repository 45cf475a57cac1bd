-- What a call of `take_next` passes, hands out and holds: for `take_next`.
use Rattle.std.proofs.Common.{◌≡◌, ℕ, zero, suc, ◌+◌, ◌-◌, ◌<◌, ◌≤◌, ◌⊎◌, true, false, cond, eqb}
use Rattle.std.proofs.Common.{Option, Some, None, List, [], ◌∷◌, ◌++◌, length, take, drop, refl}
use Rattle.std.proofs.Common.{sym, ap, ◌∙◌, subst, arith, inl, inr, length-append, length-drop}
use Rattle.std.proofs.Common.{append_assoc, take-append-drop}
use Rattle.std.specs.Prelude.{slice_get, IfSome}
use Rattle.std.proofs.lemmas.List.{append-nil, drop-drop, drop_all, take_all, drop-take}
use Rattle.std.proofs.lemmas.List.{drop-append-le, take-append-le, take_rest, length-take-le}
use Rattle.std.proofs.lemmas.Option.{slice_get_within}
use Rattle.std.proofs.lemmas.Bool.Decides.{leb_tells}
use Rattle.std.proofs.Math.Seq.{take-add}
use Rattle.bufr_frame.specs.declared.places.TheConstants.{LONGEST}
use Rattle.bufr_frame.specs.declared.frames.Found.{Found}
use Rattle.bufr_frame.specs.declared.places.Start.TheVariants.{Frame, Open, Other}
use Rattle.bufr_frame.specs.declared.reaching.Reached.{Reached}
use Rattle.bufr_frame.specs.declared.reaching.Stop.TheVariants.{Held, Piece, Nowhere}
use Rattle.bufr_frame.specs.Starts.{agrees, announced, bufr, start_of}
use Rattle.bufr_frame.specs.Framings.{Framing}
use Rattle.bufr_frame.specs.Streams.{frames_from, rest_from, sure, Stands}
use Rattle.bufr_frame.specs.NextFrames.{taken_in, IsNextFrame, IsNoFrame, StandsAfter}
use Rattle.bufr_frame.specs.Reaches.{Extends, IsPassedTo, Reaches, StandsInPiece, StopsAt}
use Rattle.bufr_frame.specs.Reaches.{StopsNowhere, HandsOver, HandsOverFrame, KeepsPart, HandsOverNone}
use Rattle.bufr_frame.specs.Reaches.{TakesOneOrNone}
use Rattle.bufr_frame.specs.StreamLaws.{Frame-append, Other-append, announced-append, begins_from}
use Rattle.bufr_frame.specs.StreamLaws.{rest_none, rest_from-length, place_of, Stands-sure}
use Rattle.bufr_frame.specs.StreamLaws.{Stands-more}
use Rattle.bufr_frame.proofs.MarkLaws.{no_mark}
use Rattle.bufr_frame.proofs.OpenLaws.{open_to, unannounced_short}
use Rattle.bufr_frame.proofs.ScanLaws.{frames_pass, rest_pass, one_frame, one_rest, open_frames}
use Rattle.bufr_frame.proofs.ScanLaws.{open_rest, frame_fits, frame_moves}

-- ---- lists that go on

pub extends_more : (a b more : List ℕ) → Extends a b → Extends a (b ++ more)
extends_more a b more e = (e.0 ++ more, ap (λ xs. xs ++ more) e.1 ∙ append_assoc a e.0 more)

pub extends_front : (a b : List ℕ) → Extends a b → take (length a) b ≡ a
extends_front a b e =
    ap (take (length a)) e.1 ∙ take-append-le (length a) a e.0 (omega arith)
    ∙ take_all (length a) a (omega arith)

-- ---- what a call passes

pub passed_none : (held piece : List ℕ) → IsPassedTo (held ++ take 0 piece) held
passed_none held piece = record {
  n = 0;
  within = omega arith;
  rest = sym (append-nil held);
  others = λ k l. absurd (omega arith);
}

pub passed_more : (all held more : List ℕ) → IsPassedTo all held
    → IsPassedTo (all ++ more) (held ++ more)
passed_more all held more p =
    let within = p.within in
    record {
      n = p.n;
      within = omega (arith, length-append all more);
      rest = ap (λ h. h ++ more) p.rest ∙ sym (drop-append-le p.n all more within);
      others = λ k l. ap start_of (drop-append-le k all more (omega arith))
          ∙ Other-append (drop k all) more (p.others k l);
    }

pub passed_then : (all held later : List ℕ) → IsPassedTo all held → IsPassedTo held later
    → IsPassedTo all later
passed_then all held later p q =
    let within = p.within in
    let further = q.within in
    let size : length held ≡ length all - p.n = ap length p.rest ∙ length-drop p.n all in
    record {
      n = p.n + q.n;
      within = omega arith;
      rest = q.rest ∙ ap (drop q.n) p.rest ∙ drop-drop q.n p.n all;
      others = λ k l. elim (leb_tells p.n k) [
        | inl past ↦ let above = past.1 in
            ap (λ j. start_of (drop j all)) (let e : k ≡ p.n + (k - p.n) = omega arith in e)
            ∙ ap start_of (sym (drop-drop (k - p.n) p.n all))
            ∙ ap (λ h. start_of (drop (k - p.n) h)) (sym p.rest)
            ∙ q.others (k - p.n) (omega arith)
        | inr before ↦ p.others k before.1
      ];
    }

pub passed_other : (held : List ℕ) (next : ℕ) → start_of held ≡ Other → next ≤ length held
    → ((k : ℕ) → 1 ≤ k → k < next → agrees (drop k held) bufr ≡ false)
    → IsPassedTo held (drop next held)
passed_other held next first room others = record {
  n = next;
  within = room;
  rest = refl;
  others = λ k l. elim (leb_tells 1 k) [
    | inl later ↦ no_mark (drop k held) (others k later.1 l)
    | inr none ↦ let low = none.1 in
        subst (λ j. start_of (drop j held) ≡ Other) (let e : 0 ≡ k = omega arith in e) first
  ];
}

disagrees_front : (n : ℕ) (xs ys : List ℕ) → (length ys ≤ n) ⊎ (length xs ≤ n)
    → agrees xs ys ≡ false → agrees (take n xs) ys ≡ false
disagrees_front zero xs [] l h =
    elim xs as (λ (zs : List ℕ). agrees zs [] ≡ false → agrees (take 0 zs) [] ≡ false)
    [ [] ↦ λ e. e | x ∷ zs ↦ λ e. cc ] h
disagrees_front zero [] (y ∷ ys) l h = h
disagrees_front zero (x ∷ xs) (y ∷ ys) l h =
    elim l [ inl a ↦ absurd (omega arith) | inr a ↦ absurd (omega arith) ]
disagrees_front (suc n) [] ys l h = h
disagrees_front (suc n) (x ∷ xs) [] l h = h
disagrees_front (suc n) (x ∷ xs) (y ∷ ys) l h =
    elim (eqb x y) as
    (λ b. cond b (agrees xs ys) false ≡ false → cond b (agrees (take n xs) ys) false ≡ false) [
      | true ↦
          λ e. disagrees_front n xs ys
          (elim l [ inl a ↦ inl (omega arith) | inr a ↦ inr (omega arith) ]) e
      | false ↦ λ e. refl
    ] h

disagrees_longer : (n : ℕ) (xs ys : List ℕ) → agrees (take n xs) ys ≡ false → agrees xs ys ≡ false
disagrees_longer zero xs ys h = cc
disagrees_longer (suc n) [] ys h = h
disagrees_longer (suc n) (x ∷ xs) [] h = h
disagrees_longer (suc n) (x ∷ xs) (y ∷ ys) h =
    elim (eqb x y) as
    (λ b. cond b (agrees (take n xs) ys) false ≡ false → cond b (agrees xs ys) false ≡ false)
    [ true ↦ λ e. disagrees_longer n xs ys e | false ↦ λ e. refl ] h

pub disagrees_near : (octets : List ℕ) (n k : ℕ) → k ≤ n
    → agrees (drop k (take n octets)) bufr ≡ false → agrees (drop k octets) bufr ≡ false
disagrees_near octets n k low h =
    let m = n - k in
    let whole : n ≡ k + m = omega arith in
    disagrees_longer m (drop k octets) bufr
    (subst (λ t. agrees t bufr ≡ false) (drop-take k m octets)
    (subst (λ j. agrees (drop k (take j octets)) bufr ≡ false) whole h))

others_front : (rest : List ℕ) (skip n k : ℕ) → k < skip → (4 ≤ n) ⊎ (length rest ≤ skip + n)
    → agrees (drop k rest) bufr ≡ false → start_of (drop k (take (skip + n) rest)) ≡ Other
others_front rest skip n k low enough h =
    let m = (skip - k) + n in
    let whole : skip + n ≡ k + m = omega arith in
    ap (λ j. start_of (drop k (take j rest))) whole
    ∙ ap start_of (drop-take k m rest)
    ∙ no_mark (take m (drop k rest)) (disagrees_front m (drop k rest) bufr
    (elim enough [ inl a ↦ inl (omega arith) | inr a ↦ inr (omega (arith, length-drop k rest)) ]) h)

pub passed_begun : (rest : List ℕ) (skip n : ℕ) → skip + n ≤ length rest
    → (4 ≤ n) ⊎ (length rest ≤ skip + n)
    → ((k : ℕ) → k < skip → agrees (drop k rest) bufr ≡ false)
    → IsPassedTo (take (skip + n) rest) (take n (drop skip rest))
passed_begun rest skip n room enough others =
    let size : length (take (skip + n) rest) ≡ skip + n = length-take-le (skip + n) rest room in
    record {
      n = skip;
      within = omega arith;
      rest = sym (drop-take skip n rest);
      others = λ k l. others_front rest skip n k l enough (others k l);
    }

-- ---- what a call hands out and holds

-- passing octets changes no frame
pub passed_frames : (place : ℕ) (all held : List ℕ) → IsPassedTo all held
    → frames_from false place 0 all ≡ frames_from false (place + (length all - length held)) 0 held
passed_frames place all held p =
    let within = p.within in
    let size : length held ≡ length all - p.n = ap length p.rest ∙ length-drop p.n all in
    frames_pass false place p.n all p.within p.others
    ∙ ap (λ h. frames_from false (place + p.n) 0 h) (sym p.rest)
    ∙ ap (λ q. frames_from false q 0 held)
    (let e : place + p.n ≡ place + (length all - length held) = omega arith in e)

pub passed_rest : (out : ℕ) (all held : List ℕ) → IsPassedTo all held
    → rest_from out 0 all ≡ rest_from out 0 held
passed_rest out all held p =
    rest_pass out p.n all p.within p.others ∙ ap (rest_from out 0) (sym p.rest)

pub takes_none : (place : ℕ) (all held : List ℕ) → IsPassedTo all held → start_of held ≡ Open
    → HandsOverNone place all held
takes_none place all held p h = record {
  none = passed_frames place all held p ∙ open_frames (place + (length all - length held)) held h;
  held_is = sym (passed_rest 0 all held p ∙ open_rest held h);
}

pub takes_held : (place l : ℕ) (all held left : List ℕ) (frame : Found) → IsPassedTo all held
    → start_of held ≡ Frame l → left ≡ rest_from 0 0 (drop l held)
    → frame ≡ record { place = place + (length all - length held); bytes = take l held }
    → HandsOverFrame place all left frame
takes_held place l all held left frame p h rest is =
    let fs =
    passed_frames place all held p
    ∙ one_frame false (place + (length all - length held)) l held h in
    record {
      next = ap (λ (xs : List Found). slice_get xs 0) fs ∙ ap Some (sym is);
      held_is = rest ∙ sym (passed_rest 1 all held p ∙ one_rest 0 l held h);
    }

pub frame_front : (octets : List ℕ) (l : ℕ) → start_of octets ≡ Frame l
    → start_of (take l octets) ≡ Frame l
frame_front octets l h =
    let size : length (take l octets) ≡ l = length-take-le l octets (frame_fits octets l h) in
    let long = frame_moves octets l h in
    let whole : take l octets ++ drop l octets ≡ octets = take-append-drop l octets in
    let same : start_of (take l octets ++ drop l octets) ≡ Frame l = ap start_of whole ∙ h in
    elim (start_of (take l octets)) as (λ u. start_of (take l octets) ≡ u → u ≡ Frame l) [
      | Other ↦ λ e. let no : Other ≡ Frame l = sym (Other-append (take l octets) (drop l octets) e)
          ∙ same in cc
      | Frame k ↦ λ e. sym (Frame-append (take l octets) (drop l octets) k e) ∙ same
      | Open ↦ λ e. absurd (open_front octets l h e)
    ] refl
  where
    open_front : (octets : List ℕ) (l : ℕ) → start_of octets ≡ Frame l
        → start_of (take l octets) ≡ Open → ⊥
    open_front octets l h e =
        let size : length (take l octets) ≡ l = length-take-le l octets (frame_fits octets l h) in
        let long = frame_moves octets l h in
        let whole : take l octets ++ drop l octets ≡ octets = take-append-drop l octets in
        let b = begins_from octets l h in
        elim (announced (take l octets)) as (λ o. announced (take l octets) ≡ o → ⊥) [
          | None ↦ λ none. let few = unannounced_short (take l octets) none in omega arith
          | Some k ↦ λ told.
              let more : announced (take l octets ++ drop l octets) ≡ Some k =
              announced-append (take l octets) (drop l octets) k told in
              let same : Some k ≡ Some l = sym more ∙ ap announced whole ∙ b.told in
              let is : k ≡ l = cc in
              let waits = open_to (take l octets) 0 k e told in
              let told_too : Some k ≡ Some waits.l = sym told ∙ waits.told in
              let is_too : k ≡ waits.l = cc in
              let short = waits.short in
              omega arith
        ] refl

pub takes_piece : (place skip l : ℕ) (all held rest : List ℕ) (frame : Found) → IsPassedTo all held
    → StandsInPiece held rest skip l
    → frame ≡ record { place = place + (length all + skip); bytes = take l (drop skip rest) }
    → HandsOverFrame place (all ++ take (skip + l) rest) [] frame
takes_piece place skip l all held rest frame p s is =
    let fits = frame_fits (drop skip rest) l s.frame in
    let long = frame_moves (drop skip rest) l s.frame in
    let within = s.within in
    let room : skip + l ≤ length rest = omega (arith, length-drop skip rest) in
    let x = take (skip + l) rest in
    let front = take l (drop skip rest) in
    let begun : IsPassedTo x front = passed_begun rest skip l room (inl (omega arith)) s.others in
    let more : IsPassedTo (all ++ x) x =
    subst (λ h. IsPassedTo (all ++ x) (h ++ x)) s.nothing (passed_more all held x p) in
    let reached : IsPassedTo (all ++ x) front = passed_then (all ++ x) x front more begun in
    let size : length x ≡ skip + l = length-take-le (skip + l) rest room in
    let long_front : length front ≡ l = length-take-le l (drop skip rest) fits in
    let here : place + (length all + skip) ≡ place + (length (all ++ x) - length front) =
    omega (arith, length-append all x) in
    let itself : front ≡ take l front = sym (take_all l front (omega arith)) in
    takes_held place l (all ++ x) front [] frame reached (frame_front (drop skip rest) l s.frame)
    (ap (rest_from 0 0) (sym (drop_all l front (omega arith))))
    (is ∙ ap (λ (q : ℕ). let f : Found = record { place = q; bytes = front } in f) here
    ∙ ap (λ (b : List ℕ). let f : Found =
    record { place = place + (length (all ++ x) - length front); bytes = b } in f) itself)

-- ---- a call under way

-- the octets kept only grew, and the call passed all but the octets held
pub record Reaching (held before kept piece : List ℕ) (from taken : ℕ) : Type 0 where
  pub kept_on : Extends before kept
  pub within : from ≤ length kept
  pub taken_in : taken ≤ length piece
  pub short : length (drop from kept) ≤ LONGEST
  pub passed : IsPassedTo (held ++ take taken piece) (drop from kept)

pub reaching_first : (kept piece : List ℕ) (from : ℕ) → from ≤ length kept
    → length (drop from kept) ≤ LONGEST → Reaching (drop from kept) kept kept piece from 0
reaching_first kept piece from within short = record {
  kept_on = ([], sym (append-nil kept));
  within = within;
  taken_in = omega arith;
  short = short;
  passed = passed_none (drop from kept) piece;
}

pub other_inside : (octets : List ℕ) (from : ℕ) → start_of (drop from octets) ≡ Other
    → from + 1 ≤ length octets
other_inside octets from h = elim (leb_tells (from + 1) (length octets)) [
  | inl inside ↦ inside.1
  | inr outside ↦
      let out = outside.1 in
      let none : drop from octets ≡ [] = drop_all from octets (omega arith) in
      let e : Open ≡ Other = sym (ap start_of none) ∙ h in
      cc
]

pub reaching_other : (held before kept piece : List ℕ) (from taken next : ℕ)
    → Reaching held before kept piece from taken → start_of (drop from kept) ≡ Other
    → from + 1 ≤ next → next ≤ length kept
    → ((k : ℕ) → from + 1 ≤ k → k < next → agrees (drop k kept) bufr ≡ false)
    → Reaching held before kept piece next taken
reaching_other held before kept piece from taken next r h later room others =
    let d = next - from in
    let whole : from + d ≡ next = omega arith in
    let far : drop d (drop from kept) ≡ drop next kept =
    drop-drop d from kept ∙ ap (λ k. drop k kept) whole in
    let size = length-drop from kept in
    let short = r.short in
    let over : IsPassedTo (drop from kept) (drop d (drop from kept)) =
    passed_other (drop from kept) d h (omega arith)
    (λ k a b. ap (λ t. agrees t bufr) (drop-drop k from kept)
    ∙ others (from + k) (omega arith) (omega arith)) in
    record {
      kept_on = r.kept_on;
      within = room;
      taken_in = r.taken_in;
      short = omega (arith, length-drop next kept);
      passed =
          passed_then (held ++ take taken piece) (drop from kept) (drop next kept) r.passed
          (subst (IsPassedTo (drop from kept)) far over);
    }

pub reaching_more : (held before kept after piece : List ℕ) (from taken n : ℕ)
    → Reaching held before kept piece from taken
    → KeepsPart (drop from kept) kept after (drop taken piece) n
    → Reaching held before after piece from (taken + n)
reaching_more held before kept after piece from taken n r m =
    let rest = drop taken piece in
    let within = r.within in
    let in_rest = m.within in
    let taken_in = r.taken_in in
    let now_held : drop from after ≡ drop from kept ++ m.kept =
    ap (drop from) m.appended ∙ drop-append-le from kept m.kept within in
    let all : held ++ take (taken + n) piece ≡ (held ++ take taken piece) ++ take n rest =
    ap (λ t. held ++ t) (take-add taken n piece)
    ∙ sym (append_assoc held (take taken piece) (take n rest)) in
    let more : IsPassedTo ((held ++ take taken piece) ++ take n rest) (drop from kept ++ m.kept) =
    passed_then _ _ _
    (passed_more (held ++ take taken piece) (drop from kept) (take n rest) r.passed) m.passed in
    let short = m.short in
    record {
      kept_on = subst (Extends before) (sym m.appended) (extends_more before kept m.kept r.kept_on);
      within = omega (arith, ap length m.appended, length-append kept m.kept);
      taken_in = omega (arith, length-drop taken piece);
      short = omega (arith, ap length now_held, length-append (drop from kept) m.kept);
      passed =
          subst (λ t. IsPassedTo t (drop from after)) (sym all)
          (subst (IsPassedTo ((held ++ take taken piece) ++ take n rest)) (sym now_held) more);
    }

-- what is left to do
abbrev pub left_to_do : List ℕ → List ℕ → ℕ → ℕ → ℕ
left_to_do kept piece from taken =
    (length piece - taken) + (length piece - taken) + (length kept - from)

pub less_to_do : (kept after piece : List ℕ) (from taken n : ℕ) → from ≤ length kept
    → taken ≤ length piece → KeepsPart (drop from kept) kept after (drop taken piece) n
    → left_to_do after piece from (taken + n) < left_to_do kept piece from taken
less_to_do kept after piece from taken n within inside m =
    let some = m.some in
    let in_rest = m.within in
    let held = drop from kept in
    let taken_more : length (take n (drop taken piece)) ≡ n =
    length-take-le n (drop taken piece) in_rest in
    let p_within = m.passed.within in
    let rest : length (held ++ m.kept) ≡ length (held ++ take n (drop taken piece)) - m.passed.n =
    ap length m.passed.rest ∙ length-drop m.passed.n (held ++ take n (drop taken piece)) in
    let few : length m.kept ≤ n =
    omega (arith, length-append held m.kept, length-append held (take n (drop taken piece))) in
    omega (arith, ap length m.appended, length-append kept m.kept, length-drop taken piece)

-- ---- results of a call

pub rest_here : (o : Option ℕ) (t : List ℕ) → IfSome o (λ l. start_of t ≡ Frame l)
    → (o ≡ None → start_of t ≡ Open) → rest_from 0 0 t ≡ t
rest_here None t some none = open_rest t (none refl)
rest_here (Some l) t some none = frame_rest l t some
  where
    frame_rest : (l : ℕ) (t : List ℕ) → start_of t ≡ Frame l → rest_from 0 0 t ≡ t
    frame_rest l [] h = refl
    frame_rest l (x ∷ xs) h = rest_none l x xs h

length_all : (held piece : List ℕ) (taken : ℕ) → taken ≤ length piece
    → length (held ++ take taken piece) ≡ length held + taken
length_all held piece taken room =
    length-append held (take taken piece)
    ∙ ap (λ n. length held + n) (length-take-le taken piece room)

pub answers_held : (fed : ℕ) (held kept after piece : List ℕ) (r : Reached) (l next from : ℕ)
    (frame : Found) → length held ≤ fed → Reaches held kept piece r → r.stop ≡ Held l
    → r.from + l ≤ next → next ≤ length kept
    → rest_from 0 0 (drop (r.from + l) kept) ≡ rest_from 0 0 (drop next kept)
    → rest_from 0 0 (drop next kept) ≡ drop next kept → drop from after ≡ drop next kept
    → from ≤ length after → from ≤ length (drop from after)
    → frame
    ≡ record { place = (fed + r.taken) - (length kept - r.from); bytes = take l (drop r.from kept) }
    → HandsOver fed held after piece (record { found = Some frame; from = from; taken = r.taken })
answers_held fed held kept after piece r l next from frame known s stop past room passed here same
    within half is =
    let now = drop r.from kept in
    let all = held ++ take r.taken piece in
    let start : start_of now ≡ Frame l = subst (StopsAt now (drop r.taken piece)) stop s.stops in
    let short = s.short in
    let some = s.within in
    let size = length-drop r.from kept in
    let p_within = s.passed.within in
    let fewer : length now ≡ length all - s.passed.n =
    ap length s.passed.rest ∙ length-drop s.passed.n all in
    let sum = length_all held piece r.taken s.taken in
    let left : drop from after ≡ rest_from 0 0 (drop l now) =
    same ∙ sym (passed ∙ here) ∙ ap (rest_from 0 0) (sym (drop-drop l r.from kept)) in
    let place : (fed + r.taken) - (length kept - r.from)
    ≡ (fed - length held) + (length all - length now) = omega arith in
    record {
      within = within;
      half = half;
      short = omega (arith, ap length same, length-drop next kept);
      taken = s.taken;
      all = λ e. cc;
      found = takes_held (fed - length held) l all now (drop from after) frame s.passed start left
          (is
          ∙ ap (λ (q : ℕ). let f : Found = record { place = q; bytes = take l now } in f) place);
    }

pub piece_room : (held kept piece : List ℕ) (r : Reached) (skip l : ℕ) → Reaches held kept piece r
    → r.stop ≡ Piece skip l → (r.taken + skip) + l ≤ length piece
piece_room held kept piece r skip l s stop =
    let at : StandsInPiece (drop r.from kept) (drop r.taken piece) skip l =
    subst (StopsAt (drop r.from kept) (drop r.taken piece)) stop s.stops in
    let fits = frame_fits (drop skip (drop r.taken piece)) l at.frame in
    let long = frame_moves (drop skip (drop r.taken piece)) l at.frame in
    let within = at.within in
    let taken = s.taken in
    omega (arith, length-drop skip (drop r.taken piece), length-drop r.taken piece)

pub answers_piece : (fed : ℕ) (held kept after piece : List ℕ) (r : Reached) (skip l from : ℕ)
    (frame : Found) → length held ≤ fed → Reaches held kept piece r → r.stop ≡ Piece skip l
    → drop from after ≡ drop r.from kept → from ≤ length after → from ≤ length (drop from after)
    → frame
    ≡ record { place = fed + (r.taken + skip); bytes = take l (drop (r.taken + skip) piece) }
    → HandsOver fed held after piece
    (record { found = Some frame; from = from; taken = (r.taken + skip) + l })
answers_piece fed held kept after piece r skip l from frame known s stop same within half is =
    let now = drop r.from kept in
    let rest = drop r.taken piece in
    let all = held ++ take r.taken piece in
    let at : StandsInPiece now rest skip l = subst (StopsAt now rest) stop s.stops in
    let sum = length_all held piece r.taken s.taken in
    let place : fed + (r.taken + skip) ≡ (fed - length held) + (length all + skip) = omega arith in
    let far : drop (r.taken + skip) piece ≡ drop skip rest = sym (drop-drop skip r.taken piece) in
    let none : drop from after ≡ [] = same ∙ at.nothing in
    let more : held ++ take ((r.taken + skip) + l) piece ≡ all ++ take (skip + l) rest =
    ap (λ n. held ++ take n piece)
    (let e : (r.taken + skip) + l ≡ r.taken + (skip + l) = omega arith in e)
    ∙ ap (λ t. held ++ t) (take-add r.taken (skip + l) piece)
    ∙ sym (append_assoc held (take r.taken piece) (take (skip + l) rest)) in
    let frame_is : frame
    ≡
    record {
      place = (fed - length held) + (length all + skip);
      bytes = take l
          (drop skip rest);
    } =
    is
    ∙ ap (λ (q : ℕ). let f : Found =
    record { place = q; bytes = take l (drop (r.taken + skip) piece) } in f) place
    ∙ ap (λ (t : List ℕ). let f : Found =
    record { place = (fed - length held) + (length all + skip); bytes = take l t } in f) far in
    let one : HandsOverFrame (fed - length held) (all ++ take (skip + l) rest) [] frame =
    takes_piece (fed - length held) skip l all now rest frame s.passed at frame_is in
    record {
      within = within;
      half = half;
      short = omega (arith, ap length none);
      taken = piece_room held kept piece r skip l s stop;
      all = λ e. cc;
      found = subst (λ t. HandsOverFrame (fed - length held) t (drop from after) frame) (sym more)
          (subst (λ t. HandsOverFrame (fed - length held) (all ++ take (skip + l) rest) t frame)
          (sym none) one);
    }

pub reaches_piece : (kept piece : List ℕ) (from skip l : ℕ) → from ≤ length kept
    → drop from kept ≡ [] → skip ≤ length piece
    → ((k : ℕ) → k < skip → agrees (drop k piece) bufr ≡ false)
    → start_of (drop skip piece) ≡ Frame l
    → Reaches (drop from kept) kept piece
    (record { from = from; taken = 0; stop = Piece skip l })
reaches_piece kept piece from skip l within none room others frame = record {
  within = within;
  taken = omega arith;
  short = omega (arith, ap length none);
  passed = passed_none (drop from kept) piece;
  stops = record { nothing = none; within = room; others = others; frame = frame };
}

pub answers_lent : (fed : ℕ) (kept piece : List ℕ) (from skip l : ℕ) (frame : Found)
    → length (drop from kept) ≤ fed → from ≤ length kept → from ≤ length (drop from kept)
    → drop from kept ≡ [] → skip ≤ length piece
    → ((k : ℕ) → k < skip → agrees (drop k piece) bufr ≡ false)
    → start_of (drop skip piece) ≡ Frame l
    → frame ≡ record { place = fed + skip; bytes = take l (drop skip piece) }
    → HandsOver fed (drop from kept) kept piece
    (record { found = Some frame; from = from; taken = skip + l })
answers_lent fed kept piece from skip l frame known within half none room others at is =
    let zero_more : 0 + skip ≡ skip = omega arith in
    subst (λ n. HandsOver fed (drop from kept) kept piece
    (record { found = Some frame; from = from; taken = n + l })) zero_more
    (answers_piece fed (drop from kept) kept kept piece
    (record { from = from; taken = 0; stop = Piece skip l }) skip l from frame known
    (reaches_piece kept piece from skip l within none room others at) refl refl within half
    (subst (λ n. frame ≡ record { place = fed + n; bytes = take l (drop n piece) })
    (sym zero_more) is))

pub answers_none : (fed : ℕ) (held kept after piece : List ℕ) (r : Reached) (from : ℕ)
    → Reaches held kept piece r → r.stop ≡ Nowhere
    → drop from after ≡ drop r.from kept → from ≤ length after → from ≤ length (drop from after)
    → HandsOver fed held after piece (record { found = None; from = from; taken = r.taken })
answers_none fed held kept after piece r from s stop same within half =
    let now = drop r.from kept in
    let at : StopsNowhere now (drop r.taken piece) =
    subst (StopsAt now (drop r.taken piece)) stop s.stops in
    let taken = s.taken in
    let short = s.short in
    record {
      within = within;
      half = half;
      short = omega (arith, ap length same);
      taken = s.taken;
      all = λ _. omega (arith, ap length at.nothing, length-drop r.taken piece);
      found = subst (λ t. HandsOverNone (fed - length held) (held ++ take r.taken piece) t) (sym same)
          (takes_none (fed - length held) (held ++ take r.taken piece) now s.passed at.waits);
    }

-- ---- the framer after it

pub taken_is : (piece : List ℕ) (taken : ℕ) → taken ≤ length piece
    → taken_in piece (take (length piece - taken) (drop taken piece)) ≡ take taken piece
taken_is piece taken room =
    ap (λ n. take n piece)
    (let e : length piece - length (take (length piece - taken) (drop taken piece))
    ≡ taken = omega (arith, ap length (take_rest piece taken), length-drop taken piece) in e)

get_after : (xs ys : List Found) → slice_get (xs ++ ys) (length xs) ≡ slice_get ys 0
get_after [] ys = refl
get_after (x ∷ xs) ys = get_after xs ys

pub next_frame : (v : Framing) (taken held : List ℕ) (found : Option Found)
    → TakesOneOrNone found (place_of v) (v.held ++ taken) held → IfSome found (IsNextFrame v taken)
next_frame v taken held None t = tt
next_frame v taken held (Some frame) t = λ stream out stands.
    let fits = stands.out_of_sure in
    let here : length (take out (sure stream)) ≡ out = length-take-le out (sure stream) fits in
    let later = frames_from false (place_of v) 0 (v.held ++ taken) in
    ap (λ (fs : List Found). slice_get fs out) (Stands-sure v stream out taken stands)
    ∙ ap (slice_get (take out (sure stream) ++ later)) (sym here)
    ∙ get_after (take out (sure stream)) later ∙ t.next

pub stands_next : (v : Framing) (taken held : List ℕ) (n : ℕ) (found : Option Found)
    → length taken ≡ n → TakesOneOrNone found (place_of v) (v.held ++ taken) held
    → IfSome found (λ frame. StandsAfter v (record { fed = v.fed + n; held = held }) taken 1)
stands_next v taken held n None size t = tt
stands_next v taken held n (Some frame) size t = λ stream out stands.
    let later = frames_from false (place_of v) 0 (v.held ++ taken) in
    let some : 0 < length later = slice_get_within later 0 frame t.next in
    let st = Stands-more v stream out 1 taken stands (omega arith) in
    subst (λ k. Stands (record { fed = v.fed + k; held = held }) (stream ++ taken) (out + 1)) size
    (subst (λ h. Stands (record { fed = v.fed + length taken; held = h }) (stream ++ taken)
    (out + 1))
    (sym t.held_is) st)

pub no_frame : (v : Framing) (taken held : List ℕ) → HandsOverNone (place_of v) (v.held ++ taken) held
    → IsNoFrame v taken
no_frame v taken held t = λ stream out stands.
    let fits = stands.out_of_sure in
    let all = Stands-sure v stream out taken stands in
    omega (
      arith,
      ap length all,
      length-append (take out (sure stream)) (frames_from false (place_of v) 0 (v.held ++ taken)),
      length-take-le out (sure stream) fits,
      ap length t.none,
    )

pub stands_on : (v : Framing) (taken held : List ℕ) (n : ℕ) → length taken ≡ n
    → HandsOverNone (place_of v) (v.held ++ taken) held
    → StandsAfter v (record { fed = v.fed + n; held = held }) taken 0
stands_on v taken held n size t = λ stream out stands.
    let st = Stands-more v stream out 0 taken stands (omega arith) in
    subst (λ k. Stands (record { fed = v.fed + k; held = held }) (stream ++ taken) (out + 0)) size
    (subst (λ h. Stands (record { fed = v.fed + length taken; held = h }) (stream ++ taken)
    (out + 0))
    (sym t.held_is) st)

pub held_taken : (place : ℕ) (all held : List ℕ) (found : Option Found)
    → TakesOneOrNone found place all held → length held ≤ length all
held_taken place all held None t = omega (arith, ap length t.held_is, rest_from-length 0 0 all)
held_taken place all held (Some frame) t =
    omega (arith, ap length t.held_is, rest_from-length 1 0 all)

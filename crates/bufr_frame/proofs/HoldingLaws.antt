-- `Stands` and `StandsFor` agree: the rest begins at the first place to hold, and no earlier one is
-- such. For the law `framer_holds_what_it_must`.
use Rattle.std.proofs.Common.{◌≡◌, ℕ, zero, suc, ◌+◌, ◌-◌, ◌<◌, ◌≤◌, false, Some, None, List, []}
use Rattle.std.proofs.Common.{◌∷◌, length, take, drop, refl, sym, ap, ◌∙◌, subst, arith, inl, inr}
use Rattle.std.proofs.Common.{slice_get}
use Rattle.std.specs.List.{AllByRecursion}
use Rattle.std.proofs.lemmas.List.{length-take-le, length-drop, drop_all}
use Rattle.std.proofs.lemmas.Bool.Decides.{leb_tells}
use Rattle.bufr_frame.specs.declared.frames.Found.{Found}
use Rattle.bufr_frame.specs.declared.places.Start.TheVariants.{Frame, Open, Other}
use Rattle.bufr_frame.specs.Framings.{Framing}
use Rattle.bufr_frame.specs.Starts.{announced, start_of}
use Rattle.bufr_frame.specs.Streams.{frames_from, sure, rest_from, Stands}
use Rattle.bufr_frame.specs.Holdings.{IsNextAt, IsHeldAt, IsAfter, AreHeld, StandsFor}
use Rattle.bufr_frame.specs.StreamLaws.{announced-length, begins_from, frames_other, frames_open}
use Rattle.bufr_frame.specs.StreamLaws.{frames_frame, rest_other, rest_open, rest_none, rest_frame}
use Rattle.bufr_frame.proofs.ScanLaws.{one_frame}
use Rattle.bufr_frame.specs.CutLaws.{all_weaker}
use Rattle.bufr_frame.proofs.OpenLaws.{open_from, open_to, tail_from, tail_to}
use Rattle.bufr_frame.proofs.SureLaws.{all_past, sure_is, sure_only}

-- the frames end up to a place
abbrev EndBy : ℕ → List Found → Type 0
EndBy place fs = AllByRecursion (λ f. f.place + length f.bytes ≤ place) fs

end_by : (p q : ℕ) (fs : List Found) → p ≤ q → EndBy p fs → EndBy q fs
end_by p q fs h a =
    all_weaker (λ f. f.place + length f.bytes ≤ p) (λ f. f.place + length f.bytes ≤ q)
    (λ f b. omega arith) fs a

-- the rest begins at the first place, after the frames handed out, with a frame or an open start
record RestsAt (place skip out : ℕ) (xs : List ℕ) (fs : List Found) (rest : List ℕ) : Type 0 where
  pub n : ℕ
  pub within : n ≤ length xs
  pub rest_is : rest ≡ drop n xs
  pub past : skip ≤ n
  pub ended : EndBy (place + n) (take out fs)
  pub others : (j : ℕ) → skip ≤ j → EndBy (place + j) (take out fs) → j < n → start_of (drop j xs)
      ≡ Other
  pub stop : start_of (drop n xs) ≡ Other → ⊥
  pub later : drop out fs ≡ frames_from false (place + n) 0 (drop n xs)

rests_later : (place skip out x : ℕ) (xs : List ℕ) (fs : List Found) (rest : List ℕ)
    → RestsAt (place + 1) skip out xs fs rest → RestsAt place (suc skip) out (x ∷ xs) fs rest
rests_later place skip out x xs fs rest r =
    let within = r.within in
    let past = r.past in
    record {
      n = suc r.n;
      within = omega arith;
      rest_is = r.rest_is;
      past = omega arith;
      ended = end_by ((place + 1) + r.n) (place + suc r.n) (take out fs) (omega arith) r.ended;
      others = later_others place skip out x xs fs r.n r.others;
      stop = r.stop;
      later =
          r.later
          ∙ ap (λ p. frames_from false p 0 (drop r.n xs))
          (let e : (place + 1) + r.n ≡ place + suc r.n = omega arith in e);
    }
  where
    later_others : (place skip out x : ℕ) (xs : List ℕ) (fs : List Found) (n : ℕ)
        → ((j : ℕ) → skip ≤ j → EndBy ((place + 1) + j) (take out fs) → j < n
        → start_of (drop j xs) ≡ Other)
        → (j : ℕ) → suc skip ≤ j → EndBy (place + j) (take out fs) → j < suc n
        → start_of (drop j (x ∷ xs)) ≡ Other
    later_others place skip out x xs fs n o zero a b l = absurd (omega arith)
    later_others place skip out x xs fs n o (suc j) a b l =
        o j (omega arith) (end_by (place + suc j) ((place + 1) + j) (take out fs) (omega arith) b)
        (omega arith)

rests_passed : (place out x : ℕ) (xs : List ℕ) (fs : List Found) (rest : List ℕ)
    → start_of (x ∷ xs) ≡ Other → RestsAt (place + 1) 0 out xs fs rest
    → RestsAt place 0 out (x ∷ xs) fs rest
rests_passed place out x xs fs rest h r =
    let t = rests_later place 0 out x xs fs rest r in
    record {
      n = t.n;
      within = t.within;
      rest_is = t.rest_is;
      past = omega arith;
      ended = t.ended;
      others = passed_others place out x xs fs t.n h t.others;
      stop = t.stop;
      later = t.later;
    }
  where
    passed_others : (place out x : ℕ) (xs : List ℕ) (fs : List Found) (n : ℕ)
        → start_of (x ∷ xs) ≡ Other
        → ((j : ℕ) → 1 ≤ j → EndBy (place + j) (take out fs) → j < n
        → start_of (drop j (x ∷ xs)) ≡ Other)
        → (j : ℕ) → 0 ≤ j → EndBy (place + j) (take out fs) → j < n
        → start_of (drop j (x ∷ xs)) ≡ Other
    passed_others place out x xs fs n h o zero a b l = h
    passed_others place out x xs fs n h o (suc j) a b l = o (suc j) (omega arith) b l

rests_frame : (place l out x : ℕ) (xs b : List ℕ) (fs : List Found) (rest : List ℕ) → length b ≡ l
    → 1 ≤ l → RestsAt (place + 1) (l - 1) out xs fs rest
    → RestsAt place 0 (suc out) (x ∷ xs) (record { place = place; bytes = b } ∷ fs) rest
rests_frame place l out x xs b fs rest size long r =
    let t = rests_later place (l - 1) out x xs fs rest r in
    let past = t.past in
    record {
      n = t.n;
      within = t.within;
      rest_is = t.rest_is;
      past = omega arith;
      ended = (omega arith, t.ended);
      others = λ j a ends below. let first = ends.0 in t.others j (omega arith) ends.1 below;
      stop = t.stop;
      later = t.later;
    }

rests_here : (place out x : ℕ) (xs : List ℕ) (fs : List Found) → out ≡ 0
    → (start_of (x ∷ xs) ≡ Other → ⊥) → fs ≡ frames_from false place 0 (x ∷ xs)
    → RestsAt place 0 out (x ∷ xs) fs (x ∷ xs)
rests_here place out x xs fs none h e = record {
  n = 0;
  within = omega arith;
  rest_is = refl;
  past = omega arith;
  ended = subst (λ k. EndBy (place + 0) (take k fs)) (sym none) tt;
  others = λ j a b l. absurd (omega arith);
  stop = h;
  later =
      ap (λ k. drop k fs) none ∙ e
      ∙ ap (λ p. frames_from false p 0 (x ∷ xs)) (let z : place ≡ place + 0 = omega arith in z);
}

rests_at : (place skip out : ℕ) (xs : List ℕ) → skip ≤ length xs
    → out ≤ length (frames_from false place skip xs)
    → RestsAt place skip out xs (frames_from false place skip xs) (rest_from out skip xs)
rests_at place zero zero [] s o =
    record {
      n = 0;
      within = omega arith;
      rest_is = refl;
      past = omega arith;
      ended = tt;
      others = λ j a b
          l. absurd (omega arith);
      stop = λ e. cc;
      later = refl;
    }
rests_at place zero (suc out) [] s o = absurd (omega arith)
rests_at place (suc skip) out [] s o = absurd (omega arith)
rests_at place (suc skip) out (x ∷ xs) s o =
    rests_later place skip out x xs (frames_from false (place + 1) skip xs) (rest_from out skip xs)
    (rests_at (place + 1) skip out xs (omega arith) o)
rests_at place zero out (x ∷ xs) s o =
    elim (start_of (x ∷ xs)) as
    (λ u. start_of (x ∷ xs) ≡ u
    → RestsAt place zero out (x ∷ xs) (frames_from false place zero (x ∷ xs))
    (rest_from out zero (x ∷ xs))) [
      | Other ↦ λ h.
          subst (λ fs. RestsAt place 0 out (x ∷ xs) fs (rest_from out 0 (x ∷ xs)))
          (sym (frames_other false place x xs h))
          (subst (λ r. RestsAt place 0 out (x ∷ xs) (frames_from false (place + 1) 0 xs) r)
          (sym (rest_other out x xs h))
          (rests_passed place out x xs (frames_from false (place + 1) 0 xs) (rest_from out 0 xs) h
          (rests_at (place + 1) 0 out xs (omega arith)
          (omega (arith, ap length (frames_other false place x xs h))))))
      | Open ↦ λ h.
          let none : out ≡ 0 = omega (arith, ap length (frames_open place x xs h)) in
          subst (λ r. RestsAt place 0 out (x ∷ xs) (frames_from false place 0 (x ∷ xs)) r)
          (sym (rest_open out x xs h))
          (rests_here place out x xs (frames_from false place 0 (x ∷ xs)) none
          (λ e. let n : Open ≡ Other = sym h ∙ e in cc) refl)
      | Frame l ↦
          λ h. rests_at_frame place l out x xs h o
          (λ k fits. rests_at (place + 1) (l - 1) k xs
          (let b = (begins_from (x ∷ xs) l h).whole in let c = (begins_from (x ∷ xs) l h).long in
          omega arith) fits)
    ] refl
  where
    rests_at_frame : (place l out x : ℕ) (xs : List ℕ) → start_of (x ∷ xs) ≡ Frame l
        → out ≤ length (frames_from false place 0 (x ∷ xs))
        → ((k : ℕ) → k ≤ length (frames_from false (place + 1) (l - 1) xs)
        → RestsAt (place + 1) (l - 1) k xs (frames_from false (place + 1) (l - 1) xs)
        (rest_from k (l - 1) xs))
        → RestsAt place 0 out (x ∷ xs) (frames_from false place 0 (x ∷ xs))
        (rest_from out 0 (x ∷ xs))
    rests_at_frame place l zero x xs h o more =
        subst (λ r. RestsAt place 0 0 (x ∷ xs) (frames_from false place 0 (x ∷ xs)) r)
        (sym (rest_none l x xs h))
        (rests_here place 0 x xs (frames_from false place 0 (x ∷ xs)) refl
        (λ e. let n : Frame l ≡ Other = sym h ∙ e in cc) refl)
    rests_at_frame place l (suc out) x xs h o more =
        let b = begins_from (x ∷ xs) l h in
        let long = b.long in
        let size : length (take l (x ∷ xs)) ≡ l = length-take-le l (x ∷ xs) b.whole in
        subst (λ fs. RestsAt place 0 (suc out) (x ∷ xs) fs (rest_from (suc out) 0 (x ∷ xs)))
        (sym (frames_frame false place l x xs h))
        (subst (λ r. RestsAt place 0 (suc out) (x ∷ xs)
        (record { place = place; bytes = take l (x ∷ xs) }
        ∷ frames_from false (place + 1) (l - 1) xs) r) (sym (rest_frame out l x xs h))
        (rests_frame place l out x xs (take l (x ∷ xs)) (frames_from false (place + 1) (l - 1) xs)
        (rest_from out (l - 1) xs) size (omega arith)
        (more out (omega (arith, ap length (frames_frame false place l x xs h))))))

-- ---- in words
get_dropped : (xs : List Found) (k : ℕ) (y : Found) (ys : List Found) → drop k xs ≡ y ∷ ys
    → slice_get xs k ≡ Some y
get_dropped [] zero y ys e = cc
get_dropped [] (suc k) y ys e = cc
get_dropped (x ∷ xs) zero y ys e = let same : x ≡ y = cc in ap Some same
get_dropped (x ∷ xs) (suc k) y ys e = get_dropped xs k y ys e

got_of_all : (P : Found → Type 0) (xs : List Found) (k : ℕ) (y : Found) → slice_get xs k ≡ Some y
    → AllByRecursion P (drop k xs) → P y
got_of_all P [] zero y e a = cc
got_of_all P [] (suc k) y e a = cc
got_of_all P (x ∷ xs) zero y e a = let same : x ≡ y = cc in subst P same a.0
got_of_all P (x ∷ xs) (suc k) y e a = got_of_all P xs k y e a

module _ (s : List ℕ) (out : ℕ) (fits : out ≤ length (sure s)) where
  abbrev rests : RestsAt 0 0 out s (sure s) (rest_from out 0 s)
  rests = rests_at 0 0 out s (omega arith) fits

  next_after : (q : ℕ) → IsNextAt (sure s) out q → rests.n ≤ q
  next_after q h =
      let all : AllByRecursion (λ f. (0 + rests.n) + 0 ≤ f.place) (drop out (sure s)) =
      subst (AllByRecursion (λ f. (0 + rests.n) + 0 ≤ f.place)) (sym rests.later)
      (all_past false (0 + rests.n) 0 (drop rests.n s)) in
      let one = got_of_all (λ f. (0 + rests.n) + 0 ≤ f.place) (sure s) out h.frame h.next all in
      let here = h.here in
      omega arith

  none_before : (q : ℕ) → IsAfter (sure s) out q → q < rests.n → IsHeldAt s (sure s) out q → ⊥
  none_before q after below h =
      let other : start_of (drop q s) ≡ Other =
      rests.others q (omega arith)
      (end_by q (0 + q) (take out (sure s)) (omega arith) after) below in
      elim h [
        | inl next ↦ let reached = next_after q next in omega arith
        | inr waits ↦ elim waits [
          | inl opens ↦ let e : Open ≡ Other = sym (open_from s q opens) ∙ other in cc
          | inr tail ↦ let e : Open ≡ Other = sym (tail_from s q tail) ∙ other in cc
        ]
      ]

  ended_there : IsAfter (sure s) out rests.n
  ended_there = end_by (0 + rests.n) rests.n (take out (sure s)) (omega arith) rests.ended

  held_there : rests.n < length s → IsHeldAt s (sure s) out rests.n
  held_there inside =
      elim (start_of (drop rests.n s)) as
      (λ u. start_of (drop rests.n s) ≡ u → IsHeldAt s (sure s) out rests.n) [
        | Other ↦ λ h. absurd (rests.stop h)
        | Open ↦
            λ h. elim (announced (drop rests.n s)) as
            (λ o. announced (drop rests.n s) ≡ o → IsHeldAt s (sure s) out rests.n) [
              | Some l ↦ λ told. inr (inl (open_to s rests.n l h told))
              | None ↦ λ none. inr (inr (tail_to s rests.n inside h none))
            ] refl
        | Frame l ↦ λ h.
            let f : Found = record { place = 0 + rests.n; bytes = take l (drop rests.n s) } in
            let whole : drop out (sure s) ≡ f
            ∷ frames_from false ((0 + rests.n) + l) 0 (drop l (drop rests.n s)) =
            rests.later ∙ one_frame false (0 + rests.n) l (drop rests.n s) h in
            inl
            (record {
              frame = f;
              next = get_dropped
                  (sure s) out f _ whole;
              here = let e : 0 + rests.n ≡ rests.n = omega arith in e;
            })
      ] refl

  none_at_all : length s ≤ rests.n → (q : ℕ) → IsAfter (sure s) out q → IsHeldAt s (sure s) out q
      → ⊥
  none_at_all out_of q after h =
      let within = rests.within in
      elim (leb_tells (suc q) rests.n) [
        | inl below ↦ none_before q after below.1 h
        | inr past ↦ let beyond = past.1 in elim h [
          | inl next ↦
              let nothing : drop out (sure s) ≡ [] =
              rests.later
              ∙ ap (λ t. frames_from false (0 + rests.n) 0 t) (drop_all rests.n s out_of) in
              got_of_all (λ f. ⊥) (sure s) out next.frame next.next
              (subst (AllByRecursion (λ (f : Found). ⊥)) (sym nothing) tt)
          | inr waits ↦ elim waits [
            | inl opens ↦ let enough = announced-length (drop q s) opens.l opens.told in
                omega (arith, length-drop q s)
            | inr tail ↦ let inside = tail.inside in omega arith
          ]
        ]
      ]

  held_is : AreHeld s (sure s) out (rest_from out 0 s)
  held_is = elim (leb_tells (suc rests.n) (length s)) [
    | inl inside ↦
        inl (
          rests.n,
          record {
            after = ended_there;
            is = held_there inside.1;
            first = λ q after below h. none_before q
                after below h;
          },
          rests.rest_is,
        )
    | inr beyond ↦ let out_of = beyond.1 in
        inr (none_at_all (omega arith), rests.rest_is ∙ drop_all rests.n s (omega arith))
  ]

held_once : (s : List ℕ) (fs : List Found) (out : ℕ) (h k : List ℕ) → AreHeld s fs out h
    → AreHeld s fs out k → h ≡ k
held_once s fs out h k (inl a) (inl b) =
    elim (leb_tells (suc a.0) b.0) [
      | inl below ↦ absurd (b.1.first a.0 a.1.after below.1 a.1.is)
      | inr not_below ↦ elim (leb_tells (suc b.0) a.0) [
        | inl above ↦ absurd (a.1.first b.0 b.1.after above.1 b.1.is)
        | inr not_above ↦ let p = not_below.1 in let q = not_above.1 in a.2
            ∙ ap (λ n. drop n s) (let e : a.0 ≡ b.0 = omega arith in e) ∙ sym b.2
      ]
    ]
held_once s fs out h k (inl a) (inr b) = absurd (b.0 a.0 a.1.after a.1.is)
held_once s fs out h k (inr a) (inl b) = absurd (a.0 b.0 b.1.after b.1.is)
held_once s fs out h k (inr a) (inr b) = a.1 ∙ sym b.1

pub stands_to : (v : Framing) (s : List ℕ) (out : ℕ) → Stands v s out → StandsFor v s out
stands_to v s out st = record {
  fed = st.fed;
  frames = sure s;
  are_sure = sure_is s;
  out_of_sure = st.out_of_sure;
  held = subst (AreHeld s (sure s) out) (sym st.held) (held_is s out st.out_of_sure);
}

pub stands_from : (v : Framing) (s : List ℕ) (out : ℕ) → StandsFor v s out → Stands v s out
stands_from v s out st =
    let same = sure_only s st.frames st.are_sure in
    let fits : out ≤ length (sure s) =
    subst (λ (fs : List Found). out ≤ length fs) same st.out_of_sure in
    let holds : AreHeld s (sure s) out v.held =
    subst (λ fs. AreHeld s fs out v.held) same st.held in
    record {
      fed = st.fed;
      out_of_sure = fits;
      held = held_once s (sure s) out v.held (rest_from out 0 s) holds (held_is s out fits);
    }

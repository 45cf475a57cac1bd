-- `sure` is the longest start of the cut with no open place before a frame: for the law
-- `sure_is_the_longest_clear_front`.
use Rattle.std.proofs.Common.{◌≡◌, ℕ, zero, suc, ◌+◌, ◌-◌, ◌<◌, ◌≤◌, Bool, true, false, Some, None}
use Rattle.std.proofs.Common.{List, [], ◌∷◌, ◌++◌, length, take, drop, refl, sym, ap, ◌∙◌, subst}
use Rattle.std.proofs.Common.{arith, append_assoc, inl, inr}
use Rattle.std.specs.List.{AllByRecursion}
use Rattle.std.proofs.lemmas.List.{length-take-le, take_at, length-drop}
use Rattle.std.proofs.lemmas.Bool.Decides.{leb_tells}
use Rattle.bufr_frame.specs.declared.frames.Found.{Found}
use Rattle.bufr_frame.specs.declared.places.Start.TheVariants.{Frame, Open, Other}
use Rattle.bufr_frame.specs.Starts.{announced, start_of}
use Rattle.bufr_frame.specs.Streams.{frames_from, cut, sure}
use Rattle.bufr_frame.specs.Cuts.{IsInOne, IsCut}
use Rattle.bufr_frame.specs.Sures.{IsOpenAt, AreClear, IsClear, IsSure}
use Rattle.bufr_frame.specs.StreamLaws.{begins_from, frames_other, frames_open, frames_frame}
use Rattle.bufr_frame.specs.StreamLaws.{cut-end}
use Rattle.bufr_frame.specs.CutLaws.{Stood, good, all_weaker, frames_passed, cut_is, cut_only}
use Rattle.bufr_frame.proofs.OpenLaws.{open_from, open_to, unannounced_short}

-- ---- frames come in order
past_by : (place from : ℕ) (fs : List Found) → place ≤ from
    → AllByRecursion (λ f. from ≤ f.place) fs → AllByRecursion (λ f. place ≤ f.place) fs
past_by place from fs h a =
    all_weaker (λ f. from ≤ f.place) (λ f. place ≤ f.place) (λ f b. omega arith) fs a

pub all_past : (ended : Bool) (place skip : ℕ) (xs : List ℕ)
    → AllByRecursion (λ f. place + skip ≤ f.place) (frames_from ended place skip xs)
all_past ended place skip [] = tt
all_past ended place (suc skip) (x ∷ xs) =
    past_by (place + suc skip) ((place + 1) + skip) _ (omega arith)
    (all_past ended (place + 1) skip xs)
all_past ended place zero (x ∷ xs) =
    elim (start_of (x ∷ xs)) as
    (λ u. start_of (x ∷ xs) ≡ u
    → AllByRecursion (λ f. place + 0 ≤ f.place) (frames_from ended place zero (x ∷ xs))) [
      | Other ↦
          λ h. subst (AllByRecursion (λ f. place + 0 ≤ f.place))
          (sym (frames_other ended place x xs h))
          (past_by (place + 0) ((place + 1) + 0) _ (omega arith) (all_past ended (place + 1) 0 xs))
      | Open ↦
          λ h. elim ended as
          (λ b. AllByRecursion (λ f. place + 0 ≤ f.place) (frames_from b place zero (x ∷ xs))) [
            | true ↦
                subst (AllByRecursion (λ f. place + 0 ≤ f.place))
                (sym (frames_passed place x xs (inr h)))
                (past_by (place + 0) ((place + 1) + 0) _ (omega arith)
                (all_past true (place + 1) 0 xs))
            | false ↦
                subst (AllByRecursion (λ f. place + 0 ≤ f.place))
                (sym (frames_open place x xs h)) tt
          ]
      | Frame l ↦
          λ h. subst (AllByRecursion (λ f. place + 0 ≤ f.place))
          (sym (frames_frame ended place l x xs h)) (
            omega arith,
            past_by (place + 0) ((place + 1) + (l - 1)) _ (omega arith)
                (all_past ended (place + 1) (l - 1) xs),
          )
    ] refl

-- ---- no place between sure frames is open
-- no place is open up to the first frame, nor between a frame and the next
abbrev GapsClear : ℕ → List ℕ → ℕ → List Found → Type 0
GapsClear place xs low [] = Unit {0}
GapsClear place xs low (f ∷ fs) =
    ((n : ℕ) → low ≤ place + n → place + n < f.place → start_of (drop n xs) ≡ Open → ⊥)
    × GapsClear place xs (f.place + length f.bytes) fs

gaps_later : (place x : ℕ) (xs : List ℕ) (low : ℕ) (fs : List Found) → place < low
    → AllByRecursion (λ f. place < f.place) fs → GapsClear (place + 1) xs low fs
    → GapsClear place (x ∷ xs) low fs
gaps_later place x xs low [] below past g = tt
gaps_later place x xs low (f ∷ fs) below past g =
    let here = past.0 in (
      one_later place x xs low f below g.0,
      gaps_later place x xs (f.place + length f.bytes) fs (omega arith) past.1 g.1,
    )
  where
    one_later : (place x : ℕ) (xs : List ℕ) (low : ℕ) (f : Found) → place < low
        → ((n : ℕ) → low ≤ (place + 1) + n → (place + 1) + n < f.place → start_of (drop n xs) ≡ Open
        → ⊥)
        → (n : ℕ) → low ≤ place + n → place + n < f.place → start_of (drop n (x ∷ xs)) ≡ Open → ⊥
    one_later place x xs low f below g zero a b h = omega arith
    one_later place x xs low f below g (suc n) a b h = g n (omega arith) (omega arith) h

gaps_first : (place x : ℕ) (xs : List ℕ) (fs : List Found) → start_of (x ∷ xs) ≡ Other
    → AllByRecursion (λ f. place < f.place) fs → GapsClear (place + 1) xs ((place + 1) + 0) fs
    → GapsClear place (x ∷ xs) (place + 0) fs
gaps_first place x xs [] other past g = tt
gaps_first place x xs (f ∷ fs) other past g =
    let here = past.0 in (
      one_first place x xs f other g.0,
      gaps_later place x xs (f.place + length f.bytes) fs (omega arith) past.1 g.1,
    )
  where
    one_first : (place x : ℕ) (xs : List ℕ) (f : Found) → start_of (x ∷ xs) ≡ Other
        → ((n : ℕ) → (place + 1) + 0 ≤ (place + 1) + n → (place + 1) + n < f.place
        → start_of (drop n xs) ≡ Open → ⊥)
        → (n : ℕ) → place + 0 ≤ place + n → place + n < f.place → start_of (drop n (x ∷ xs)) ≡ Open
        → ⊥
    one_first place x xs f other g zero a b h = let e : Other ≡ Open = sym other ∙ h in cc
    one_first place x xs f other g (suc n) a b h = g n (omega arith) (omega arith) h

past_strictly : (place skip : ℕ) (xs : List ℕ)
    → AllByRecursion (λ f. place < f.place) (frames_from false (place + 1) skip xs)
past_strictly place skip xs =
    all_weaker (λ f. (place + 1) + skip ≤ f.place) (λ f. place < f.place) (λ f b. omega arith)
    (frames_from false (place + 1) skip xs) (all_past false (place + 1) skip xs)

gaps : (place skip : ℕ) (xs : List ℕ)
    → GapsClear place xs (place + skip) (frames_from false place skip xs)
gaps place skip [] = tt
gaps place (suc skip) (x ∷ xs) =
    gaps_later place x xs (place + suc skip) (frames_from false (place + 1) skip xs) (omega arith)
    (past_strictly place skip xs)
    (subst (λ low. GapsClear (place + 1) xs low (frames_from false (place + 1) skip xs))
    (let e : (place + 1) + skip ≡ place + suc skip = omega arith in e)
    (gaps (place + 1) skip xs))
gaps place zero (x ∷ xs) =
    elim (start_of (x ∷ xs)) as
    (λ u. start_of (x ∷ xs) ≡ u
    → GapsClear place (x ∷ xs) (place + 0) (frames_from false place zero (x ∷ xs))) [
      | Other ↦
          λ h. subst (GapsClear place (x ∷ xs) (place + 0)) (sym (frames_other false place x xs h))
          (gaps_first place x xs (frames_from false (place + 1) 0 xs) h (past_strictly place 0 xs)
          (gaps (place + 1) 0 xs))
      | Open ↦ λ h. subst (GapsClear place (x ∷ xs) (place + 0)) (sym (frames_open place x xs h)) tt
      | Frame l ↦ λ h.
          let b = begins_from (x ∷ xs) l h in
          let long = b.long in
          let size : length (take l (x ∷ xs)) ≡ l = length-take-le l (x ∷ xs) b.whole in
          subst (GapsClear place (x ∷ xs) (place + 0)) (sym (frames_frame false place l x xs h)) (
            λ n a c. absurd (omega arith),
            gaps_later place x xs (place + length (take l (x ∷ xs)))
                (frames_from false (place + 1) (l - 1) xs) (omega arith)
                (past_strictly place (l - 1) xs)
                (subst (λ low. GapsClear (place + 1) xs low
                (frames_from false (place + 1) (l - 1) xs))
                (let e : (place + 1) + (l - 1)
                ≡ place + length (take l (x ∷ xs)) =
                omega arith in e) (gaps (place + 1) (l - 1) xs)),
          )
    ] refl

-- ---- so the sure frames are clear
in_left : (place : ℕ) (fs gs : List Found) → IsInOne place fs → IsInOne place (fs ++ gs)
in_left place [] gs i = absurd i
in_left place (f ∷ fs) gs (inl i) = inl i
in_left place (f ∷ fs) gs (inr i) = inr (in_left place fs gs i)

in_right : (place : ℕ) (fs gs : List Found) → IsInOne place gs → IsInOne place (fs ++ gs)
in_right place [] gs i = i
in_right place (f ∷ fs) gs i = inr (in_right place fs gs i)

clear_by : (s : List ℕ) (before : List Found) (low : ℕ) (fs : List Found)
    → ((q : ℕ) → q < low → IsOpenAt s q → IsInOne q before) → GapsClear 0 s low fs
    → AreClear s before fs
clear_by s before low [] covered g = tt
clear_by s before low (f ∷ fs) covered g =
    let here : (q : ℕ) → q < f.place → IsOpenAt s q → IsInOne q before = λ q below o.
    elim (leb_tells low q) [
      | inl past ↦ let at_least = past.1 in
          absurd (g.0 q (omega arith) (omega arith) (open_from s q o))
      | inr under ↦ covered q under.1 o
    ] in (
      here,
      clear_by s (before ++ f ∷ []) (f.place + length f.bytes) fs
          (λ q below o. elim (leb_tells f.place q) [
            | inl past ↦ in_right q before (f ∷ []) (inl (past.1, below))
            | inr under ↦ in_left q before (f ∷ []) (here q under.1 o)
          ]) g.1,
    )

sure_clear : (s : List ℕ) → IsClear s (sure s)
sure_clear s = record {
  rest = drop (length (sure s)) (cut s);
  first = subst (IsCut s) (cut-end s) (cut_is s);
  clear = clear_by s [] 0 (sure s) (λ q below o. absurd (omega arith)) (gaps 0 0 s);
}

-- ---- before the next frame of the cut a place is open
-- before the frame `g`, and in none of the frames found, a place is open
record Stopped (place skip : ℕ) (xs : List ℕ) (fs : List Found) (g : Found) : Type 0 where
  pub n : ℕ
  pub l : ℕ
  pub past : skip ≤ n
  pub opens : start_of (drop n xs) ≡ Open
  pub told : announced (drop n xs) ≡ Some l
  pub before : place + n < g.place
  pub outside : IsInOne (place + n) fs → ⊥

stopped_later : (place skip x : ℕ) (xs : List ℕ) (fs : List Found) (g : Found)
    → Stopped (place + 1) skip xs fs g → Stopped place (suc skip) (x ∷ xs) fs g
stopped_later place skip x xs fs g t = let past = t.past in let below = t.before in record {
  n = suc t.n;
  l = t.l;
  past = omega arith;
  opens = t.opens;
  told = t.told;
  before = omega arith;
  outside =
      λ i. t.outside
      (subst (λ q. IsInOne q fs)
      (let e : place + suc t.n ≡ (place + 1) + t.n = omega arith in e) i);
}

stopped_any : (place skip : ℕ) (xs : List ℕ) (fs : List Found) (g : Found)
    → Stopped place skip xs fs g → Stopped place 0 xs fs g
stopped_any place skip xs fs g t =
    record {
      n = t.n;
      l = t.l;
      past = omega arith;
      opens = t.opens;
      told = t.told;
      before = t.before;
      outside = t.outside;
    }

stopped_frame : (place l x : ℕ) (xs b : List ℕ) (fs : List Found) (g : Found) → length b ≡ l → 1 ≤ l
    → Stopped (place + 1) (l - 1) xs fs g
    → Stopped place 0 (x ∷ xs) (record { place = place; bytes = b } ∷ fs) g
unfolding stopped_later
stopped_frame place l x xs b fs g size long t =
    let past = t.past in
    let below = t.before in
    let moved = stopped_later place (l - 1) x xs fs g t in
    record {
      n = suc t.n;
      l = t.l;
      past = omega arith;
      opens = t.opens;
      told = t.told;
      before = omega arith;
      outside =
          λ i. elim i [ inl j ↦ let c = j.1 in absurd (omega arith) | inr j ↦ moved.outside j ];
    }

nothing_after : (place : ℕ) (xs : List ℕ) (g : Found) → length xs ≤ 6 → Stood place 0 xs g → ⊥
nothing_after place xs g few t =
    let b = begins_from (drop t.n xs) (length g.bytes) t.start in
    let long = b.long in
    let whole = b.whole in
    omega (arith, length-drop t.n xs)

stopped_open : (place x : ℕ) (xs : List ℕ) (g : Found) (gs : List Found) → start_of (x ∷ xs) ≡ Open
    → frames_from true (place + 1) 0 xs ≡ g ∷ gs → Stopped place 0 (x ∷ xs) [] g
stopped_open place x xs g gs h e =
    let all : AllByRecursion (Stood (place + 1) 0 xs) (g ∷ gs) =
    subst (AllByRecursion (Stood (place + 1) 0 xs)) e (good (place + 1) 0 xs).each in
    let here = all.0.at in
    elim (announced (x ∷ xs)) as (λ o. announced (x ∷ xs) ≡ o → Stopped place 0 (x ∷ xs) [] g) [
      | None ↦ λ none. let few = unannounced_short (x ∷ xs) none in
          absurd (nothing_after (place + 1) xs g (omega arith) all.0)
      | Some l ↦
          λ told.
          record {
            n = 0;
            l = l;
            past = omega arith;
            opens = h;
            told = told;
            before = omega arith;
            outside = λ i. i;
          }
    ] refl

stopped : (place skip : ℕ) (xs : List ℕ) (g : Found) (gs : List Found)
    → frames_from true place skip xs ≡ frames_from false place skip xs ++ g ∷ gs
    → Stopped place skip xs (frames_from false place skip xs) g
stopped place skip [] g gs e = cc
stopped place (suc skip) (x ∷ xs) g gs e =
    stopped_later place skip x xs (frames_from false (place + 1) skip xs) g
    (stopped (place + 1) skip xs g gs e)
stopped place zero (x ∷ xs) g gs e =
    elim (start_of (x ∷ xs)) as
    (λ u. start_of (x ∷ xs) ≡ u
    → Stopped place zero (x ∷ xs) (frames_from false place zero (x ∷ xs)) g) [
      | Other ↦ λ h.
          let both : frames_from true (place + 1) 0 xs ≡ frames_from false (place + 1) 0 xs ++ g
          ∷ gs =
          sym (frames_other true place x xs h) ∙ e
          ∙ ap (λ (fs : List Found). fs ++ g ∷ gs) (frames_other false place x xs h) in
          subst (λ fs. Stopped place 0 (x ∷ xs) fs g) (sym (frames_other false place x xs h))
          (stopped_any place 1 (x ∷ xs) (frames_from false (place + 1) 0 xs) g
          (stopped_later place 0 x xs (frames_from false (place + 1) 0 xs) g
          (stopped (place + 1) 0 xs g gs both)))
      | Open ↦ λ h.
          let after : frames_from true (place + 1) 0 xs ≡ g ∷ gs =
          sym (frames_passed place x xs (inr h)) ∙ e
          ∙ ap (λ (fs : List Found). fs ++ g ∷ gs) (frames_open place x xs h) in
          subst (λ fs. Stopped place 0 (x ∷ xs) fs g) (sym (frames_open place x xs h))
          (stopped_open place x xs g gs h after)
      | Frame l ↦ λ h.
          let b = begins_from (x ∷ xs) l h in
          let long = b.long in
          let f : Found = record { place = place; bytes = take l (x ∷ xs) } in
          let both : f ∷ frames_from true (place + 1) (l - 1) xs ≡ f
          ∷ (frames_from false (place + 1) (l - 1) xs ++ g ∷ gs) =
          sym (frames_frame true place l x xs h) ∙ e
          ∙ ap (λ (fs : List Found). fs ++ g ∷ gs) (frames_frame false place l x xs h) in
          let rest : frames_from true (place + 1) (l - 1) xs
          ≡ frames_from false (place + 1) (l - 1) xs ++ g ∷ gs = cc in
          subst (λ fs. Stopped place 0 (x ∷ xs) fs g) (sym (frames_frame false place l x xs h))
          (stopped_frame place l x xs (take l (x ∷ xs)) (frames_from false (place + 1) (l - 1) xs) g
          (length-take-le l (x ∷ xs) b.whole) (omega arith)
          (stopped (place + 1) (l - 1) xs g gs rest))
    ] refl

-- ---- so no longer start of the cut is clear
-- one list in two parts, twice; the first part is once longer by `g` and more
record Splits (xs ys us vs : List Found) : Type 0 where
  pub g : Found
  pub gs : List Found
  pub longer : xs ≡ us ++ g ∷ gs
  pub others : vs ≡ g ∷ (gs ++ ys)

splits : (xs ys us vs : List Found) → xs ++ ys ≡ us ++ vs → length us < length xs
    → Splits xs ys us vs
splits [] ys us vs e l = absurd (omega arith)
splits (x ∷ xs) ys [] vs e l = record { g = x; gs = xs; longer = refl; others = sym e }
splits (x ∷ xs) ys (u ∷ us) vs e l =
    let same : x ≡ u = cc in
    let rest : xs ++ ys ≡ us ++ vs = cc in
    let t = splits xs ys us vs rest (omega arith) in
    let more = t.longer in
    record { g = t.g; gs = t.gs; longer = cc; others = t.others }

clear_at : (s : List ℕ) (before us : List Found) (g : Found) (gs : List Found)
    → AreClear s before (us ++ g ∷ gs) → (q : ℕ) → q < g.place → IsOpenAt s q
    → IsInOne q (before ++ us)
clear_at s before [] g gs c q below o = in_left q before [] (c.0 q below o)
clear_at s before (u ∷ us) g gs c q below o =
    subst (IsInOne q) (append_assoc before (u ∷ []) us)
    (clear_at s (before ++ u ∷ []) us g gs c.1 q below o)

sure_longest : (s : List ℕ) (others : List Found) → IsClear s others
    → length others ≤ length (sure s)
sure_longest s others c =
    elim (leb_tells (length others) (length (sure s))) [
      | inl fits ↦ fits.1
      | inr longer ↦
          let e : others ++ c.rest ≡ sure s ++ drop (length (sure s)) (cut s) =
          cut_only s (others ++ c.rest) c.first ∙ cut-end s in
          let t = splits others c.rest (sure s) (drop (length (sure s)) (cut s)) e longer.1 in
          let whole : cut s ≡ sure s ++ t.g ∷ (t.gs ++ c.rest) =
          cut-end s ∙ ap (λ (fs : List Found). sure s ++ fs) t.others in
          let stop = stopped 0 0 s t.g (t.gs ++ c.rest) whole in
          let below = stop.before in
          let place : 0 + stop.n ≡ stop.n = omega arith in
          let inside : IsInOne stop.n (sure s) =
          clear_at s [] (sure s) t.g t.gs (subst (AreClear s []) t.longer c.clear) stop.n
          (omega arith) (open_to s stop.n stop.l stop.opens stop.told) in
          absurd (stop.outside (subst (λ q. IsInOne q (sure s)) (sym place) inside))
    ]

pub sure_is : (s : List ℕ) → IsSure s (sure s)
sure_is s = record { clear = sure_clear s; longest = sure_longest s }

pub sure_only : (s : List ℕ) (fs : List Found) → IsSure s fs → fs ≡ sure s
sure_only s fs c =
    let not_less = c.longest (sure s) (sure_clear s) in
    let not_more = sure_longest s fs c.clear in
    let same : length (sure s) ≡ length fs = omega arith in
    let e : fs ++ c.clear.rest ≡ sure s ++ drop (length (sure s)) (cut s) =
    cut_only s (fs ++ c.clear.rest) c.clear.first ∙ cut-end s in
    let front : take (length fs) (fs ++ c.clear.rest) ≡ fs =
    take_at fs c.clear.rest (length fs) refl in
    let other : take (length fs) (sure s ++ drop (length (sure s)) (cut s)) ≡ sure s =
    take_at (sure s) (drop (length (sure s)) (cut s)) (length fs) same in
    let both : take (length fs) (fs ++ c.clear.rest)
    ≡ take (length fs) (sure s ++ drop (length (sure s)) (cut s)) = ap (take (length fs)) e in
    cc

-- Open places and cut-off `BUFR` in words are open starts: for the laws
-- `sure_is_the_longest_clear_front` and `framer_holds_what_it_must`.
use Rattle.std.proofs.Common.{◌≡◌, ℕ, ◌+◌, ◌-◌, ◌<◌, ◌≤◌, true, false, cond, eqb, nat_lt, nat_le}
use Rattle.std.proofs.Common.{Some, None, List, [], ◌∷◌, length, take, drop, refl, sym, ap, ◌∙◌}
use Rattle.std.proofs.Common.{subst, arith, eq-eqb, length-drop}
use Rattle.std.specs.List.{AllByRecursion}
use Rattle.std.proofs.lemmas.List.{drop-drop}
use Rattle.std.proofs.lemmas.Bool.{eqb-true, le-ltb, ltb-false, leb-false, lt-leb}
use Rattle.bufr_frame.specs.declared.places.Start.TheVariants.{Frame, Open, Other}
use Rattle.bufr_frame.specs.Starts.{bufr, sevens, agrees, announced, start_by, start_of}
use Rattle.bufr_frame.specs.Sures.{IsOpenAt}
use Rattle.bufr_frame.specs.Holdings.{IsTailAt}
use Rattle.bufr_frame.specs.CutLaws.{agrees_take, agrees_from}
use Rattle.bufr_frame.specs.StreamLaws.{announced-length}

all_agree : (xs ys : List ℕ) → AllByRecursion (λ x. x ≡ 55) xs → AllByRecursion (λ x. x ≡ 55) ys
    → agrees xs ys ≡ true
all_agree [] ys a b = refl
all_agree (x ∷ xs) [] a b = refl
all_agree (x ∷ xs) (y ∷ ys) a b =
    let e : eqb x y ≡ true = eq-eqb x y (a.0 ∙ sym b.0) in rw e (all_agree xs ys a.1 b.1)

agree_all : (xs ys : List ℕ) → length xs ≤ length ys → agrees xs ys ≡ true
    → AllByRecursion (λ x. x ≡ 55) ys → AllByRecursion (λ x. x ≡ 55) xs
agree_all [] ys l h b = tt
agree_all (x ∷ xs) [] l h b = absurd (omega arith)
agree_all (x ∷ xs) (y ∷ ys) l h b =
    elim (eqb x y) as
    (λ v. eqb x y ≡ v → cond v (agrees xs ys) false ≡ true
    → AllByRecursion (λ x. x ≡ 55) (x ∷ xs)) [
      | true ↦ λ e k. (eqb-true x y e ∙ b.0, agree_all xs ys (omega arith) k b.1)
      | false ↦ λ _ k. cc
    ] refl h

sevens_all : AllByRecursion (λ x. x ≡ 55) sevens
sevens_all = (refl, (refl, (refl, (refl, tt))))

agrees_fronts : (xs ys : List ℕ) → agrees xs ys ≡ true → take (length ys) xs ≡ take (length xs) ys
agrees_fronts [] [] h = refl
agrees_fronts [] (y ∷ ys) h = refl
agrees_fronts (x ∷ xs) [] h = refl
agrees_fronts (x ∷ xs) (y ∷ ys) h =
    elim (eqb x y) as
    (λ v. eqb x y ≡ v → cond v (agrees xs ys) false ≡ true → x ∷ take (length ys) xs ≡ y
    ∷ take (length xs) ys) [
      | true ↦ λ e k. let same : x ≡ y = eqb-true x y e in let rest = agrees_fronts xs ys k in cc
      | false ↦ λ _ k. cc
    ] refl h

fronts_agree : (xs ys : List ℕ) → take (length ys) xs ≡ take (length xs) ys → agrees xs ys ≡ true
fronts_agree [] ys h = refl
fronts_agree (x ∷ xs) [] h = refl
fronts_agree (x ∷ xs) (y ∷ ys) h =
    let e : eqb x y ≡ true =
    eq-eqb x y cc in let rest : take (length ys) xs ≡ take (length xs) ys =
    cc in rw e (fronts_agree xs ys rest)

-- the octets at an open place
record Opens (t : List ℕ) (l : ℕ) : Type 0 where
  pub long : 12 ≤ l
  pub end : agrees (drop (l - 4) t) sevens ≡ true
  pub short : length t < l

open_parts : (l : ℕ) (t : List ℕ) → start_by (Some l) t ≡ Open → Opens t l
open_parts l t h =
    elim (nat_lt l 12) as
    (λ b. nat_lt l 12 ≡ b
    → cond b Other
    (cond (agrees (drop (l - 4) t) sevens) (cond (nat_le l (length t)) (Frame l) Open) Other)
    ≡ Open → Opens t l) [
      | true ↦ λ _ e. cc
      | false ↦
          λ long e. elim (agrees (drop (l - 4) t) sevens) as
          (λ b. agrees (drop (l - 4) t) sevens ≡ b
          → cond b (cond (nat_le l (length t)) (Frame l) Open) Other ≡ Open → Opens t l) [
            | true ↦
                λ end e. elim (nat_le l (length t)) as
                (λ b. nat_le l (length t) ≡ b → cond b (Frame l) Open ≡ Open → Opens t l) [
                  | true ↦ λ _ e. cc
                  | false ↦
                      λ no_room _.
                      record {
                        long = ltb-false l 12 long;
                        end = end;
                        short = leb-false l
                            (length t) no_room;
                      }
                ] refl e
            | false ↦ λ _ e. cc
          ] refl e
    ] refl h

marked : (t : List ℕ) → start_of t ≡ Open
    → (agrees t bufr ≡ true) × (start_by (announced t) t ≡ Open)
marked t h =
    elim (agrees t bufr) as
    (λ b. agrees t bufr ≡ b → cond b (start_by (announced t) t) Other ≡ Open
    → (agrees t bufr ≡ true) × (start_by (announced t) t ≡ Open)) [
      | true ↦ λ mark e. (mark, e)
      | false ↦ λ _ e. cc
    ] refl h

pub open_from : (s : List ℕ) (p : ℕ) → IsOpenAt s p → start_of (drop p s) ≡ Open
open_from s p o =
    let t = drop p s in
    let long = o.long in
    let short = o.short in
    let enough = announced-length (drop p s) o.l o.told in
    let fewer : length (drop p s) < o.l = omega (arith, length-drop p s) in
    let far : drop (o.l - 4) (drop p s) ≡ drop (p + o.l - 4) s =
    drop-drop (o.l - 4) p s
    ∙ ap (λ k. drop k s) (let e : p + (o.l - 4) ≡ p + o.l - 4 = omega arith in e) in
    let end : agrees (drop (o.l - 4) (drop p s)) sevens ≡ true =
    ap (λ u. agrees u sevens) far ∙ all_agree (drop (p + o.l - 4) s) sevens o.end sevens_all in
    let mark : agrees (drop p s) bufr ≡ true = agrees_from (drop p s) bufr o.mark in
    let at_least : nat_lt o.l 12 ≡ false = le-ltb o.l 12 long in
    let not_whole : nat_le o.l (length (drop p s)) ≡ false = lt-leb o.l (length (drop p s)) fewer in
    rw (mark, o.told, at_least, end, not_whole) refl

pub open_to : (s : List ℕ) (p l : ℕ) → start_of (drop p s) ≡ Open → announced (drop p s) ≡ Some l
    → IsOpenAt s p
open_to s p l h told =
    let m = marked (drop p s) h in
    let parts = open_parts l (drop p s) (subst (λ o. start_by o (drop p s) ≡ Open) told m.1) in
    let long = parts.long in
    let fewer = parts.short in
    let enough = announced-length (drop p s) l told in
    let last : length (drop (l - 4) (drop p s)) ≤ 4 =
    omega (arith, length-drop (l - 4) (drop p s)) in
    let sevens_left = agree_all (drop (l - 4) (drop p s)) sevens last parts.end sevens_all in
    let far : drop (l - 4) (drop p s) ≡ drop (p + l - 4) s =
    drop-drop (l - 4) p s
    ∙ ap (λ k. drop k s) (let e : p + (l - 4) ≡ p + l - 4 = omega arith in e) in
    record {
      l = l;
      mark =
          agrees_take (drop p s) bufr (let four : 4 ≤ length (drop p s) = omega arith in four) m.0;
      told = told;
      long = long;
      short = omega (arith, length-drop p s);
      end = subst (AllByRecursion (λ x. x ≡ 55)) far sevens_left;
    }

pub short_unannounced : (t : List ℕ) → length t ≤ 6 → announced t ≡ None
short_unannounced [] h = refl
short_unannounced (a ∷ []) h = refl
short_unannounced (a ∷ b ∷ []) h = refl
short_unannounced (a ∷ b ∷ c ∷ []) h = refl
short_unannounced (a ∷ b ∷ c ∷ d ∷ []) h = refl
short_unannounced (a ∷ b ∷ c ∷ d ∷ x ∷ []) h = refl
short_unannounced (a ∷ b ∷ c ∷ d ∷ x ∷ y ∷ []) h = refl
short_unannounced (a ∷ b ∷ c ∷ d ∷ x ∷ y ∷ z ∷ t) h = absurd (omega arith)

pub unannounced_short : (t : List ℕ) → announced t ≡ None → length t ≤ 6
unannounced_short (a ∷ b ∷ c ∷ d ∷ x ∷ y ∷ z ∷ t) h = cc
unannounced_short [] h = omega arith
unannounced_short (a ∷ []) h = omega arith
unannounced_short (a ∷ b ∷ []) h = omega arith
unannounced_short (a ∷ b ∷ c ∷ []) h = omega arith
unannounced_short (a ∷ b ∷ c ∷ d ∷ []) h = omega arith
unannounced_short (a ∷ b ∷ c ∷ d ∷ x ∷ []) h = omega arith
unannounced_short (a ∷ b ∷ c ∷ d ∷ x ∷ y ∷ []) h = omega arith

pub tail_from : (s : List ℕ) (p : ℕ) → IsTailAt s p → start_of (drop p s) ≡ Open
tail_from s p t =
    let inside = t.inside in
    let short = t.short in
    let few : length (drop p s) ≤ 6 = omega (arith, length-drop p s) in
    let mark : agrees (drop p s) bufr ≡ true = fronts_agree (drop p s) bufr t.mark in
    rw (mark, short_unannounced (drop p s) few) refl

pub tail_to : (s : List ℕ) (p : ℕ) → p < length s → start_of (drop p s) ≡ Open
    → announced (drop p s) ≡ None → IsTailAt s p
tail_to s p inside h none =
    let few = unannounced_short (drop p s) none in
    let m = marked (drop p s) h in
    record {
      inside = inside;
      short = omega (arith, length-drop p s);
      mark = agrees_fronts (drop p s) bufr m.0;
    }

-- Joined frames are their own cut: for the law `joined_frames_are_cut_apart` and for crates above.
use Rattle.std.proofs.Common.{◌≡◌, ℕ, zero, suc, ◌+◌, ◌-◌, ◌≤◌, true, List, [], ◌∷◌, ◌++◌, length}
use Rattle.std.proofs.Common.{take, drop, refl, sym, ap, ◌∙◌, arith, take-append-drop}
use Rattle.std.specs.List.{AllByRecursion, flat_map}
use Rattle.std.proofs.lemmas.List.{append-nil, length-take-le, take_at}
use Rattle.std.proofs.lemmas.Grind.{flat_map-append}
use Rattle.bufr_frame.specs.Streams.{frames_from, cut}
use Rattle.bufr_frame.specs.Cuts.{IsOneFrame, frames_at}
use Rattle.bufr_frame.specs.CutLaws.{IsWhole, frame_from, frames_from-joined}

-- lists of octets, joined
abbrev flat : List (List ℕ) → List ℕ
flat frames = flat_map (λ b. b) frames

whole : (bs : List (List ℕ)) → AllByRecursion IsOneFrame bs → AllByRecursion IsWhole bs
whole [] a = tt
whole (b ∷ bs) a = (frame_from b 0 (length b) a.0, whole bs a.1)

-- the cut of joined frames and what follows
pub cut-followed : (bs : List (List ℕ)) (more : List ℕ) → AllByRecursion IsOneFrame bs
    → cut (flat_map (λ b. b) bs ++ more) ≡ frames_at 0 bs
    ++ frames_from true (length (flat_map (λ b. b) bs)) 0 more
cut-followed bs more a =
    frames_from-joined true 0 bs more (whole bs a)
    ∙ ap (λ p. frames_at 0 bs ++ frames_from true p 0 more)
    (let e : 0 + length (flat bs) ≡ length (flat bs) = omega arith in e)

-- the cut of joined frames
pub cut-joined : (bs : List (List ℕ)) → AllByRecursion IsOneFrame bs
    → cut (flat_map (λ b. b) bs) ≡ frames_at 0 bs
cut-joined bs a = ap cut (sym (append-nil (flat bs))) ∙ cut-followed bs [] a
    ∙ append-nil (frames_at 0 bs)

length-frames_at : (place : ℕ) (bs : List (List ℕ)) → length (frames_at place bs) ≡ length bs
length-frames_at place [] = refl
length-frames_at place (b ∷ bs) = ap suc (length-frames_at (place + length b) bs)

first_whole : (k : ℕ) (bs : List (List ℕ)) → AllByRecursion IsOneFrame bs
    → AllByRecursion IsOneFrame (take k bs)
first_whole zero bs a = tt
first_whole (suc k) [] a = tt
first_whole (suc k) (b ∷ bs) a = (a.0, first_whole k bs a.1)

take_past : (n : ℕ) (xs ys : List ℕ) → length xs ≤ n
    → take n (xs ++ ys) ≡ xs ++ take (n - length xs) ys
take_past n [] ys h = ap (λ k. take k ys) (let e : n ≡ n - 0 = omega arith in e)
take_past zero (x ∷ xs) ys h = absurd (omega arith)
take_past (suc n) (x ∷ xs) ys h =
    ap (λ zs. x ∷ zs) (take_past n xs ys (omega arith)
    ∙ ap (λ k. xs ++ take k ys) (let e : n - length xs ≡ suc n - length (x ∷ xs) = omega arith in
    e))

-- the cut of a part that contains the first `k` of joined frames begins with these
pub cut-front : (bs : List (List ℕ)) (k n : ℕ) → AllByRecursion IsOneFrame bs → k ≤ length bs
    → length (flat_map (λ b. b) (take k bs)) ≤ n → take k (cut (take n (flat_map (λ b. b) bs)))
    ≡ frames_at 0 (take k bs)
cut-front bs k n a fits room =
    let parts : flat bs ≡ flat (take k bs) ++ flat (drop k bs) =
    ap (λ (cs : List (List ℕ)). flat cs) (sym (take-append-drop k bs))
    ∙ flat_map-append (λ b. b) (take k bs) (drop k bs) in
    let more = take (n - length (flat (take k bs))) (flat (drop k bs)) in
    let front : take n (flat bs) ≡ flat (take k bs) ++ more =
    ap (take n) parts ∙ take_past n (flat (take k bs)) (flat (drop k bs)) room in
    let size : length (frames_at 0 (take k bs)) ≡ k =
    length-frames_at 0 (take k bs) ∙ length-take-le k bs fits in
    ap (λ (s : List ℕ). take k (cut s)) front ∙ ap (take k)
    (cut-followed (take k bs) more (first_whole k bs a))
    ∙ take_at (frames_at 0 (take k bs)) (frames_from true (length (flat (take k bs))) 0 more) k
    size

-- A stream has no fewer octets than frames, and no fewer than its frames have: for crates above
-- that count frames and the octets outside them.
use Rattle.std.proofs.Common.{◌≡◌, ℕ, zero, suc, ◌+◌, ◌-◌, ◌≤◌, Bool, true, false, List, [], ◌∷◌}
use Rattle.std.proofs.Common.{length, take, refl, arith}
use Rattle.std.specs.Prelude.{sum_by}
use Rattle.std.proofs.lemmas.List.{length-take}
use Rattle.std.proofs.lemmas.List.Sums.{sum_by-cons}
use Rattle.bufr_frame.specs.declared.frames.Found.{Found}
use Rattle.bufr_frame.specs.declared.places.Start.TheVariants.{Frame, Open, Other}
use Rattle.bufr_frame.specs.Starts.{start_of}
use Rattle.bufr_frame.specs.Streams.{frames_from, cut, sure}
use Rattle.bufr_frame.specs.StreamLaws.{frames_other, frames_open, frames_frame}

frames_past : (place x : ℕ) (xs : List ℕ) → start_of (x ∷ xs) ≡ Open
    → frames_from true place 0 (x ∷ xs) ≡ frames_from true (place + 1) 0 xs
frames_past place x xs h = rw (h, frames_from) refl

-- at most as many frames as octets, and at most as many octets in them as after the skipped ones
abbrev Few : List Found → ℕ → ℕ → Type 0
Few frames skip long =
    (length frames ≤ long) × (sum_by (λ (f : Found). length f.bytes) frames ≤ long - skip)

few_same : (frames others : List Found) (long : ℕ) → frames ≡ others → Few others 0 long
    → Few frames 0 (suc long)
few_same frames others long e h = rw e (omega (arith, h.0), omega (arith, h.1))

few_frame : (frames others : List Found) (place l x : ℕ) (xs : List ℕ)
    → frames ≡ record { place = place; bytes = take l (x ∷ xs) } ∷ others
    → Few others (l - 1) (length xs) → Few frames 0 (suc (length xs))
few_frame frames others place l x xs e h =
    let f : Found = record { place = place; bytes = take l (x ∷ xs) } in
    let long = length-take l (x ∷ xs) in
    let sum = sum_by-cons (λ (g : Found). length g.bytes) f others in
    rw e (omega (arith, h.0), omega (arith, h.1, sum, long))

-- the frames of any octets are few
few : (ended : Bool) (place skip : ℕ) (xs : List ℕ)
    → Few (frames_from ended place skip xs) skip (length xs)
few ended place skip [] = (omega arith, omega arith)
few ended place (suc skip) (x ∷ xs) =
    let h = few ended (place + 1) skip xs in (omega (arith, h.0), omega (arith, h.1))
few ended place zero (x ∷ xs) =
    elim (start_of (x ∷ xs)) as (λ u. start_of (x ∷ xs) ≡ u
    → Few (frames_from ended place zero (x ∷ xs)) 0 (length (x ∷ xs))) [
      | Other ↦ λ h. few_same _ _ (length xs) (frames_other ended place x xs h)
          (few ended (place + 1) 0 xs)
      | Open ↦ λ h. elim ended as (λ b. Few (frames_from b place zero (x ∷ xs)) 0
          (length (x ∷ xs))) [
            | true ↦ few_same _ _ (length xs) (frames_past place x xs h)
                (few true (place + 1) 0 xs)
            | false ↦ rw (frames_open place x xs h) (omega arith, omega arith)
          ]
      | Frame l ↦ λ h. few_frame _ _ place l x xs (frames_frame ended place l x xs h)
          (few ended (place + 1) (l - 1) xs)
    ] refl

-- a stream has no more sure frames than octets
pub sure_few : (stream : List ℕ) → length (sure stream) ≤ length stream
sure_few stream = (few false 0 0 stream).0

-- a cut has no more frames than the stream has octets
pub cut_few : (stream : List ℕ) → length (cut stream) ≤ length stream
cut_few stream = (few true 0 0 stream).0

-- the sure frames have no more octets than the stream
pub sure_short : (stream : List ℕ)
    → sum_by (λ (f : Found). length f.bytes) (sure stream) ≤ length stream
sure_short stream = omega (arith, (few false 0 0 stream).1)

-- the frames of the cut have no more octets than the stream
pub cut_short : (stream : List ℕ)
    → sum_by (λ (f : Found). length f.bytes) (cut stream) ≤ length stream
cut_short stream = omega (arith, (few true 0 0 stream).1)

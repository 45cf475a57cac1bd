-- The octets of entries as frames: for `laws::texts_are_cut_apart`.
use Rattle.std.proofs.Common.{◌≡◌, ℕ, ◌+◌, ◌≤◌, Option, Some, List, [], ◌∷◌, ◌++◌, length, take}
use Rattle.std.proofs.Common.{refl, sym, ap, subst, ◌∙◌}
use Rattle.std.specs.Prelude.{map}
use Rattle.std.specs.List.{AllByRecursion, flat_map}
use Rattle.std.proofs.lemmas.List.{take-map, length-map}
use Rattle.bufr_frame.specs.Streams.{cut}
use Rattle.bufr_frame.specs.Cuts.{IsOneFrame, frames_at}
use Rattle.bufr_entries.specs.declared.entry.Entry.{Entry}
use Rattle.bufr_entries.specs.Entries.{kept}
use Rattle.bufr_entries.specs.Orders.{kept-kept}
use Rattle.bufr_gather.specs.Archives.{entries_of}
use Rattle.bufr_gather.specs.Texts.{text}
use Rattle.bufr_gather.specs.TextLaws.{AreFrames, FramesOfTexts, FramesOfFronts, TellOwn}
use Rattle.bufr_gather.specs.TextLaws.{TextsTell}
use Rattle.bufr_gather.specs.TextFacts.{kept_each}

-- joined frames are cut apart
abbrev pub Joined : Type 0
Joined = (frames : List (List ℕ)) → AllByRecursion IsOneFrame frames
    → cut (flat_map (λ octets. octets) frames) ≡ frames_at 0 frames

-- so are beginnings of joined frames
abbrev pub Fronts : Type 0
Fronts = (frames : List (List ℕ)) (k n : ℕ) → AllByRecursion IsOneFrame frames → k ≤ length frames
    → length (flat_map (λ octets. octets) (take k frames)) ≤ n
    → take k (cut (take n (flat_map (λ octets. octets) frames))) ≡ frames_at 0 (take k frames)

-- the octets of each entry
abbrev octets_of : List Entry → List (List ℕ)
octets_of es = map (λ e. e.bytes) es

flat_bytes : (es : List Entry) → flat_map (λ b. b) (octets_of es) ≡ text es
flat_bytes [] = refl
flat_bytes (e ∷ es) = ap (λ (m : List ℕ). e.bytes ++ m) (flat_bytes es)

all_frames : (es : List Entry) → AreFrames es → AllByRecursion IsOneFrame (octets_of es)
all_frames [] a = tt
all_frames (e ∷ es) a = (a.0, all_frames es a.1)

kept_frames : (es : List Entry) → AreFrames es → AllByRecursion IsOneFrame (octets_of (kept es))
kept_frames es a = all_frames (kept es) (kept_each (λ e. IsOneFrame e.bytes) es a)

pub frames_of_texts : Joined → FramesOfTexts
frames_of_texts joined es a =
    ap cut (sym (flat_bytes (kept es))) ∙ joined (octets_of (kept es)) (kept_frames es a)

pub frames_of_fronts : Fronts → FramesOfFronts
frames_of_fronts fronts es k n a few room =
    let ks = kept es in
    let bs = octets_of ks in
    let first : take k bs ≡ octets_of (take k ks) = take-map (λ (e : Entry). e.bytes) k ks in
    let whole : flat_map (λ b. b) (take k bs) ≡ text (take k ks) =
    ap (flat_map (λ b. b)) first ∙ flat_bytes (take k ks) in
    ap (λ (s : List ℕ). take k (cut (take n s))) (sym (flat_bytes ks))
    ∙ fronts bs k n (kept_frames es a)
    (subst (λ m. k ≤ m) (sym (length-map ks (λ (e : Entry). e.bytes))) few)
    (subst (λ (s : List ℕ). length s ≤ n) (sym whole) room)
    ∙ ap (frames_at 0) first

told_of_frames : (reports_in : List ℕ → List (Option Entry)) (place : ℕ) (es : List Entry)
    → TellOwn reports_in es
    → entries_of (flat_map (λ f. reports_in f.bytes) (frames_at place (octets_of es))) ≡ es
told_of_frames reports_in place [] own = refl
told_of_frames reports_in place (e ∷ es) own =
    let frames = frames_at (place + length e.bytes) (octets_of es) in
    let more = flat_map (λ f. reports_in f.bytes) frames in
    ap (λ (rs : List (Option Entry)). entries_of (rs ++ more)) own.0
    ∙ ap (λ (xs : List Entry). e ∷ xs) (told_of_frames reports_in (place + length e.bytes) es own.1)

pub texts_tell : Joined → TextsTell
texts_tell joined reports_in es frames own =
    let each = kept_each (λ e. reports_in e.bytes ≡ Some e ∷ []) es own in
    ap (λ fs. kept (entries_of (flat_map (λ f. reports_in f.bytes) fs)))
    (frames_of_texts joined es frames)
    ∙ ap kept (told_of_frames reports_in 0 (kept es) each) ∙ kept-kept es

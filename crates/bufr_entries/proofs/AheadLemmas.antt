-- Octets of waiting entries, read ahead: for `Waiting`.
use Rattle.std.proofs.Common.{◌≡◌, ℕ, ◌+◌, ◌-◌, ◌≤◌, List, [], ◌∷◌, ◌++◌, length, take, drop, sym, ap, ◌∙◌}
use Rattle.std.proofs.Common.{arith, append_assoc, length-append, length-drop, map, reverse, subst, Bool, true, false, Option, Some, None}
use Rattle.std.specs.Option.{option_map, option_to_list}
use Rattle.std.proofs.lemmas.List.{append-nil, length-take-le, take-append-drop, map-append, reverse-append}
use Rattle.std.proofs.lemmas.List.Concat.{flat_map-append}
use Rattle.std.proofs.Math.Seq.{drop-append_seam, take-append_seam}
use Rattle.bufr_entries.specs.Octets.{PutsBehind}
use Rattle.bufr_entries.specs.Pages.{octets_waiting, waits_in, marked, AreLast, HaveParts}
use Rattle.bufr_entries.specs.Keeping.{first_of}
use Rattle.bufr_entries.proofs.PageLemmas.{parts-push}
use Rattle.bufr_entries.specs.declared.entry.Entry.{Entry}
use Rattle.bufr_entries.specs.declared.waiting.WaitingEntry.{WaitingEntry}

-- the octets of a waiting entry
abbrev octets_in : List ℕ → WaitingEntry → List ℕ
octets_in os e = take e.len (drop e.from os)

ends : (xs ys bs cs : List ℕ) → xs ++ bs ≡ ys ++ cs → length bs ≡ length cs → (xs ≡ ys) × (bs ≡ cs)
ends xs ys bs cs e n =
    let all : length (xs ++ bs) ≡ length (ys ++ cs) = ap length e in
    let m : length xs ≡ length ys = omega (arith, all, length-append xs bs, length-append ys cs, n) in (
      sym (take-append_seam xs bs) ∙ ap (take (length xs)) e
          ∙ ap (λ k. take k (ys ++ cs)) m ∙ take-append_seam ys cs,
      sym (drop-append_seam xs bs) ∙ ap (drop (length xs)) e
          ∙ ap (λ k. drop k (ys ++ cs)) m ∙ drop-append_seam ys cs,
    )

pub none-last : (os : List ℕ) (es : List WaitingEntry) (g : List ℕ) → g ≡ [] → AreLast os es g
none-last os es g n =
    (octets_waiting os es, sym (append-nil (octets_waiting os es)) ∙ ap (λ xs. octets_waiting os es ++ xs) (sym n))

pub part-last : (os : List ℕ) (es : List WaitingEntry) (n : ℕ) (g : List ℕ)
    → g ≡ octets_waiting os (drop n es) → AreLast os es g
part-last os es n g h = (
  octets_waiting os (take n es),
  ap (octets_waiting os) (sym (take-append-drop n es))
      ∙ flat_map-append (octets_in os) (take n es) (drop n es)
      ∙ ap (λ xs. octets_waiting os (take n es) ++ xs) (sym h),
)

last-ends : (os : List ℕ) (ys : List WaitingEntry) (e : WaitingEntry) (before g : List ℕ)
    → e.from + e.len ≤ length os → octets_waiting os (ys ++ e ∷ []) ≡ before ++ g
    → e.len ≤ length g
    → (octets_waiting os ys ≡ before ++ take (length g - e.len) g)
    × (take e.len (drop e.from os) ≡ drop (length g - e.len) g)
last-ends os ys e before g fits h long =
    let k = length g - e.len in
    let b = take e.len (drop e.from os) in
    let room : e.len ≤ length (drop e.from os) = omega (arith, fits, length-drop e.from os) in
    let n : length b ≡ length (drop k g) =
    omega (arith, length-take-le e.len (drop e.from os) room, length-drop k g, long) in
    ends (octets_waiting os ys) (before ++ take k g) b (drop k g)
    (ap (λ xs. octets_waiting os ys ++ xs) (sym (append-nil b)) ∙ sym (flat_map-append (octets_in os) ys (e ∷ []))
    ∙ h ∙ ap (λ xs. before ++ xs) (sym (take-append-drop k g))
    ∙ sym (append_assoc before (take k g) (drop k g))) n

parts-split : (os : List ℕ) (ys : List WaitingEntry) (e : WaitingEntry) → HaveParts os (ys ++ e ∷ [])
    → HaveParts os ys × (e.from + e.len ≤ length os)
parts-split os [] e h = (tt, h.0)
parts-split os (y ∷ ys) e h = let r = parts-split os ys e h.1 in ((h.0, r.0), r.1)

parts-grown : (os xs : List ℕ) (es : List WaitingEntry) (e : WaitingEntry)
    → e.from + e.len ≤ length (os ++ xs) → HaveParts os es → HaveParts (os ++ xs) (es ++ e ∷ [])
parts-grown os xs [] e f h = (f, tt)
parts-grown os xs (d ∷ es) e f h =
    (omega (arith, h.0, length-append os xs), parts-grown os xs es e f h.1)

parts-pushed : (os ps xs : List ℕ) (es fs : List WaitingEntry) (e : WaitingEntry)
    → e.from ≡ length os → e.len ≡ length xs → HaveParts os es → ps ≡ os ++ xs
    → fs ≡ es ++ e ∷ [] → HaveParts ps fs
parts-pushed os ps xs es fs e a b h p f =
    subst (λ zs. HaveParts zs fs) (sym p) (subst (HaveParts (os ++ xs)) (sym f)
    (parts-grown os xs es e (omega (arith, a, b, length-append os xs)) h))

pub no-fewer : (o : Option (List ℕ)) (b : Bool) (os ps : List ℕ) → PutsBehind o b os ps
    → length os ≤ length ps
no-fewer None b os ps h = omega (arith, ap length h.1)
no-fewer (Some xs) b os ps h = omega (arith, ap length h.1, length-append os xs)

pub parts-put : (o : Option (List ℕ)) (b : Bool) (os ps : List ℕ) (es fs : List WaitingEntry)
    (e : WaitingEntry) → e.from ≡ length os → e.from + e.len ≡ length ps → HaveParts os es
    → PutsBehind o b os ps → (b ≡ true → fs ≡ es ++ e ∷ []) → (b ≡ false → fs ≡ es)
    → HaveParts ps fs
parts-put None b os ps es fs e a n h put there none =
    subst (λ zs. HaveParts zs fs) (sym put.1) (subst (HaveParts os) (sym (none put.0)) h)
parts-put (Some xs) b os ps es fs e a n h put there none =
    parts-pushed os ps xs es fs e a
    (omega (arith, a, n, ap length put.1, length-append os xs)) h put.1 (there put.0)

pub entries-put : (o : Option (List ℕ)) (b : Bool) (os ps : List ℕ) (es fs : List WaitingEntry)
    (e : WaitingEntry) (s : List Entry) → e.from ≡ length os → e.from + e.len ≡ length ps
    → HaveParts os es → PutsBehind o b os ps → (b ≡ true → fs ≡ es ++ e ∷ [])
    → (b ≡ false → fs ≡ es) → map (waits_in os) es ≡ s
    → map (waits_in ps) fs ≡ s ++ option_to_list (option_map (marked e.mark) o)
entries-put None b os ps es fs e s a n h put there none v =
    ap (λ zs. map (waits_in zs) fs) put.1 ∙ ap (map (waits_in os)) (none put.0) ∙ v
    ∙ sym (append-nil s)
entries-put (Some xs) b os ps es fs e s a n h put there none v =
    parts-push os ps xs es fs e.mark s e.from e.len a
    (omega (arith, a, n, ap length put.1, length-append os xs)) h put.1 (there put.0) v

pub last-octets : (os : List ℕ) (es ys : List WaitingEntry) (e : WaitingEntry) (g : List ℕ)
    → es ≡ ys ++ e ∷ [] → HaveParts os es × AreLast os es g → e.len ≤ length g
    → drop (length g - e.len) g ≡ take e.len (drop e.from os)
last-octets os es ys e g is a long =
    let fits = (parts-split os ys e (subst (HaveParts os) is a.0)).1 in
    sym ((last-ends os ys e a.1.0 g fits (ap (octets_waiting os) (sym is) ∙ a.1.1) long).1)

pub last-taken : (os : List ℕ) (es ys : List WaitingEntry) (e : WaitingEntry) (g h : List ℕ) (k : ℕ)
    → es ≡ ys ++ e ∷ [] → HaveParts os es × AreLast os es g → e.len ≤ length g
    → k ≡ length g - e.len → h ≡ take k g → HaveParts os ys × AreLast os ys h
last-taken os es ys e g h k is a long left taken =
    let parts = parts-split os ys e (subst (HaveParts os) is a.0) in
    let two = last-ends os ys e a.1.0 g parts.1 (ap (octets_waiting os) (sym is) ∙ a.1.1) long in (
      parts.0,
      (a.1.0, two.0 ∙ ap (λ xs. a.1.0 ++ xs) (sym (taken ∙ ap (λ n. take n g) left))),
    )

pub last-read : (os ps : List ℕ) (es ys zs : List WaitingEntry) (e : WaitingEntry) (g : List ℕ)
    → es ≡ ys ++ e ∷ [] → HaveParts os es → ps ≡ os → zs ≡ ys → AreLast ps zs g
    → HaveParts os ys × AreLast os ys g
last-read os ps es ys zs e g is a p z h = (
  (parts-split os ys e (subst (HaveParts os) is a)).0,
  (h.0, sym (ap (λ xs. octets_waiting xs zs) p ∙ ap (octets_waiting os) z) ∙ h.1),
)

pub last-seen : (os xs : List ℕ) (es ys : List WaitingEntry) (e : WaitingEntry) (s : List Entry)
    → es ≡ ys ++ e ∷ [] → map (waits_in os) es ≡ s → xs ≡ take e.len (drop e.from os)
    → Some (marked e.mark xs) ≡ first_of (reverse s)
last-seen os xs es ys e s is v o =
    ap (λ zs. Some (marked e.mark zs)) o
    ∙ ap first_of (sym (reverse-append (map (waits_in os) ys) (waits_in os e ∷ []))
    ∙ ap reverse (sym (map-append (waits_in os) ys (e ∷ [])) ∙ ap (map (waits_in os)) (sym is) ∙ v))

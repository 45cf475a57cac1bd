-- A text of a column, found and copied before it is filled.
use Rattle.std.proofs.Common.{◌≡◌, ℕ, zero, suc, ◌+◌, ◌-◌, ◌*◌, ◌/◌, ◌%◌, ◌<◌, ◌≤◌, Bool, true, cond, List}
use Rattle.std.proofs.Common.{[], ◌∷◌, ◌++◌, length, take, drop, replicate, get_or, Option, Some, None}
use Rattle.std.proofs.Common.{IfSome, IfNone, subst}
use Rattle.std.proofs.Common.{refl, sym, ap, ◌∙◌, arith, append-nil, append_assoc, length-append}
use Rattle.std.specs.Prelude.{◌==◌, option_map}
use Rattle.std.specs.List.{list_all}
use Rattle.std.proofs.lemmas.List.{length-drop, length-replicate, length-take-le, take_all, take_at}
use Rattle.std.proofs.lemmas.List.{take-append-drop}
use Rattle.bufr_bits.specs.Bits.{bits, numbers, number_at, octets_at}
use Rattle.bufr_bits.specs.BitLaws.{some_is}
use Rattle.bufr_bits.specs.Ends.{BitPlace, left}
use Rattle.bufr_bits.specs.NumberLaws.{length-numbers}
use Rattle.bufr_bits.specs.OctetLaws.{length-bits, numbers-bits}
use Rattle.bufr_tables.specs.declared.element.Kind.TheVariants as kinds
use Rattle.bufr_expand.specs.declared.operators.Spec.{Spec}
use Rattle.bufr_fields.specs.declared.field.Raw.{Raw}
use Rattle.bufr_fields.specs.declared.field.Raw.TheVariants.{Number, Text}
use Rattle.bufr_fields.specs.Forms.{has_form_by}
use Rattle.bufr_data.specs.Compressed.Reading.{filled}
use Rattle.bufr_data.specs.Compressed.Indexed.{Opens, column_from, one_at, one_behind}
use Rattle.bufr_data.specs.declared.compressed.index.ColumnStart.{ColumnStart}
use Rattle.bufr_data.specs.Subsets.{filled as filled_bits}
use Rattle.bufr_data.proofs.CompressedFacts.Passed.{minimum_there, octets_some}
use Rattle.bufr_data.proofs.CompressedFacts.Values.{filled_is, form_there, value_there}
use Rattle.bufr_data.proofs.PlainFacts.Filled.{filled_whole}

-- what holds anyway holds if there is nothing
pub if_none : {A : Type 0} {P : Type 0} (r : Option A) → P → IfNone r P
if_none None p = p
if_none (Some x) p = tt

-- a text of all octets is not filled
pub filled_own : (octets : ℕ) (own : List ℕ) → length own ≡ octets
    → ◌≡◌ {A = Raw} (Text own) (filled octets own)
filled_own octets own long =
    let t = list_all (λ x. x == 255) own in
    let none : octets - length own ≡ 0 = omega (arith, long) in
    let within : length own ≤ octets = omega (arith, long) in
    ap (λ xs. Text xs) (sym (ap (λ m. take octets own ++ replicate m (cond t 255 32)) none
    ∙ append-nil (take octets own) ∙ take_all octets own within))
    ∙ filled_is octets own (cond t 255 32) t refl refl within

-- a reader that goes back
pub back_again : (r0 r1 r2 r3 : BitPlace) (passed taken start : ℕ)
    → r1 ≡ record r0 { place = r0.place + passed } → r2 ≡ record r1 { place = r1.place + taken }
    → r3 ≡ record r2 { place = start } → start ≡ r0.place → left r3 ≡ left r0
back_again r0 r1 r2 r3 passed taken start is1 is2 is3 same =
    ap left (is3 ∙ ap (λ (r : BitPlace). record r { place = start }) (is2
    ∙ ap (λ (r : BitPlace). record r { place = r.place + taken }) is1))
    ∙ ap (λ s. drop s (bits r0.octets)) same

-- the minimum is the text of all subsets
pub text_flat : (spec : Spec) (index : ℕ) (front mid same : List Bool) (b k count : ℕ)
    (rest : List Bool) → spec.kind ≡ kinds.Text → b ≡ spec.width / 8 * 8 → b ≤ length front
    → mid ≡ drop b front → number_at 6 mid ≡ Some (k, rest) → k ≡ 0 → count ≡ spec.width / 8
    → same ≡ front
    → one_at spec index front
    ≡ option_map (λ x. filled (spec.width / 8) x.0) (octets_at count same)
text_flat spec index front mid same b k count rest is size long left found none all at =
    let octets = spec.width / 8 in
    let own = numbers octets 8 front in
    let more : octets * 8 ≤ length front = omega (arith, size, long) in
    let first : one_at spec index front ≡ Some (Text own) =
    rw (minimum_there spec front mid b is size long left, found)
    (ap (λ m. one_behind spec (Text own) m index rest) none) in
    first ∙ ap (λ (v : Raw). Some v) (filled_own octets own (length-numbers octets 8 front))
    ∙ ap (option_map (λ x. filled octets x.0))
    (sym (octets_some octets front more) ∙ (λ i. octets_at (sym all i) (sym at i)))

-- ---- in a room

take_small : (n : ℕ) (xs : List ℕ) → ((i : ℕ) → get_or xs i 0 < 256) → (i : ℕ)
    → get_or (take n xs) i 0 < 256
take_small zero xs small i = omega arith
take_small (suc n) [] small i = omega arith
take_small (suc n) (x ∷ xs) small zero = small 0
take_small (suc n) (x ∷ xs) small (suc i) = take_small n xs (λ j. small (suc j)) i

-- octets with the next bits are the next octets
pub copied_there : (octets room : List ℕ) (from end count own : ℕ) → end ≡ from + 8 * count
    → end ≤ 8 * length octets → own ≤ length room → ((i : ℕ) → get_or room i 0 < 256)
    → bits (take own room) ≡ filled_bits (take (end - from) (drop from (bits octets)))
    → (own ≡ count) × (octets_at count (drop from (bits octets))
    ≡ Some (take own room, drop (count * 8) (drop from (bits octets))))
copied_there octets room from end count own all inside within small is =
    let front = drop from (bits octets) in
    let text = take own room in
    let long : count * 8 ≤ length front =
    omega (arith, all, inside, length-drop from (bits octets), length-bits octets) in
    let wide : end - from ≡ count * 8 = omega (arith, all) in
    let cut : length (take (count * 8) front) ≡ count * 8 = length-take-le (count * 8) front long in
    let whole : length (take (count * 8) front) % 8 ≡ 0 = omega (arith, cut) in
    let same : bits text ≡ take (count * 8) front =
    is ∙ ap (λ m. filled_bits (take m front)) wide ∙ filled_whole (take (count * 8) front) whole in
    let size : length text ≡ own = length-take-le own room within in
    let as_many : own ≡ count = omega (arith, size, length-bits text, ap length same, cut) in
    let parted : front ≡ bits text ++ drop (count * 8) front =
    sym (take-append-drop (count * 8) front) ∙ ap (λ xs. xs ++ drop (count * 8) front) (sym same) in
    let read : numbers count 8 front ≡ text =
    ap (λ m. numbers m 8 front) (sym (size ∙ as_many)) ∙ ap (numbers (length text) 8) parted
    ∙ numbers-bits text (drop (count * 8) front) (take_small own room small) in (
      as_many,
      octets_some count front long ∙ ap (λ xs. Some (xs, drop (count * 8) front)) read,
    )

-- if they are copied to a room
there : (r : BitPlace) (octets : List ℕ) (from : ℕ) → octets ≡ r.octets → from ≡ r.place
    → drop from (bits octets) ≡ left r
there r octets from octets_are place_is = λ i. drop (place_is i) (bits (octets_are i))

pub copied_if : (r : BitPlace) (octets room : List ℕ) (from end count own : ℕ)
    → octets ≡ r.octets → from ≡ r.place → end ≡ from + 8 * count → end ≤ 8 * length octets
    → length room ≡ 71 → ((i : ℕ) → get_or room i 0 < 256)
    → bits (take own room) ≡ filled_bits (take (end - from) (drop from (bits octets)))
    → own ≤ 71
    → octets_at count (left r) ≡ Some (take own room, drop (count * 8) (left r))
copied_if r octets room from end count own octets_are place_is all inside size small is within =
    subst (λ front. octets_at count front ≡ Some (take own room, drop (count * 8) front))
    (there r octets from octets_are place_is)
    (copied_there octets room from end count own all inside (omega (arith, size, within)) small is).1

pub counted_if : (octets room : List ℕ) (from end count own : ℕ)
    → end ≡ from + 8 * count → end ≤ 8 * length octets → length room ≡ 71
    → ((i : ℕ) → get_or room i 0 < 256)
    → bits (take own room) ≡ filled_bits (take (end - from) (drop from (bits octets)))
    → own ≤ 71 → own ≡ count
counted_if octets room from end count own all inside size small is within =
    (copied_there octets room from end count own all inside (omega (arith, size, within)) small is).0

-- the octets after a text are those that fill it
pub filled_room : (octets own filler : ℕ) (t : Bool) (room new piece rest : List ℕ)
    → own ≤ length room
    → own ≤ octets → list_all (λ x. x == 255) (take own room) ≡ t → filler ≡ cond t 255 32
    → piece ≡ replicate (octets - own) filler → new ≡ take own room ++ (piece ++ rest)
    → ◌≡◌ {A = Raw} (Text (take octets new)) (filled octets (take own room))
filled_room octets own filler t room new piece rest within short ones is all becomes =
    let text = take own room in
    let size : length text ≡ own = length-take-le own room within in
    let many : length piece ≡ octets - own =
    ap length all ∙ length-replicate (octets - own) filler in
    let long : length (text ++ piece) ≡ octets =
    omega (arith, length-append text piece, size, many, short) in
    let fits : length text ≤ octets = omega (arith, size, short) in
    let front : take octets new ≡ text ++ piece =
    ap (take octets) (becomes ∙ sym (append_assoc text piece rest))
    ∙ take_at (text ++ piece) rest octets long in
    let joined : text ++ piece ≡ take octets text ++ replicate (octets - length text) filler =
    (λ i. sym (take_all octets text fits) i ++ all i)
    ∙ ap (λ m. take octets text ++ replicate (octets - m) filler) (sym size) in
    ap (λ xs. Text xs) (front ∙ joined) ∙ filled_is octets text filler t ones is fits

-- ---- at a place

-- a text that was found is the value at the index
pub text_is : {A : Type 0} (octets : List ℕ) (n index : ℕ) (p : ColumnStart) (now : A → List ℕ)
    (found : Option A) → Opens octets n p → index < n
    → IfSome found (λ t. one_at p.spec index (drop p.bit (bits octets)) ≡ Some (Text (now t)))
    → IfSome found (λ t. Text (now t)
    ≡ get_or (column_from octets n p).values index (Number 0))
text_is octets n index p now None opens inside is = tt
text_is octets n index p now (Some t) opens inside is =
    some_is _ _ (sym is ∙ value_there octets n index p opens inside)

-- and fits the spec
pub text_formed : {A : Type 0} (octets : List ℕ) (n index : ℕ) (p : ColumnStart) (now : A → List ℕ)
    (found : Option A) → Opens octets n p → index < n
    → IfSome found (λ t. one_at p.spec index (drop p.bit (bits octets)) ≡ Some (Text (now t)))
    → IfSome found (λ t. has_form_by p.spec.kind p.spec.width (Text (now t)) ≡ true)
text_formed octets n index p now None opens inside is = tt
text_formed octets n index p now (Some t) opens inside is =
    form_there octets n index p (Text (now t)) opens inside
    (some_is _ _ (sym is ∙ value_there octets n index p opens inside))

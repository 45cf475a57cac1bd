-- One value of a column after its minimum and width.
use Rattle.std.proofs.Common.{◌≡◌, ℕ, zero, suc, ◌+◌, ◌-◌, ◌*◌, ◌/◌, ◌<◌, ◌≤◌, Bool, true, false}
use Rattle.std.proofs.Common.{cond, List, ◌++◌, length, take, drop, replicate, get_or, Option, Some}
use Rattle.std.proofs.Common.{None, refl, sym, ap, subst, ◌∙◌, arith}
use Rattle.std.specs.Prelude.{◌==◌, option_map, IsSome}
use Rattle.std.specs.List.{list_all}
use Rattle.std.proofs.lemmas.Bool.{le-ltb, lt-ltb, le-leb}
use Rattle.std.proofs.lemmas.List.{length-drop, replicate-append-replicate, take_all}
use Rattle.bufr_bits.specs.Bits.{bits, number_at, octets_at}
use Rattle.bufr_bits.specs.BitLaws.{number_at-bin, number_at_is}
use Rattle.bufr_bits.specs.Ends.{BitPlace, left}
use Rattle.bufr_bits.specs.NumberLaws.{numbers_at_found}
use Rattle.bufr_bits.specs.OctetLaws.{length-bits}
use Rattle.bufr_tables.specs.declared.element.Kind.TheVariants as kinds
use Rattle.bufr_tables.specs.Elements.{same_kind}
use Rattle.bufr_base.specs.AnswerLaws.{ok_value}
use Rattle.bufr_expand.specs.declared.operators.Spec.{Spec}
use Rattle.bufr_fields.specs.declared.field.Raw.{Raw}
use Rattle.bufr_fields.specs.declared.field.Raw.TheVariants.{Number, Text}
use Rattle.bufr_data.specs.declared.compressed.head.ColumnHead.{ColumnHead}
use Rattle.bufr_data.specs.declared.compressed.index.ColumnStart.{ColumnStart}
use Rattle.bufr_fields.specs.Forms.{has_form_by}
use Rattle.bufr_data.specs.Plain.{field_number_at}
use Rattle.bufr_fields.specs.Fits.{HasForm}
use Rattle.bufr_fields.specs.FormLaws.{form_passes}
use Rattle.bufr_data.specs.Compressed.{IsColumn}
use Rattle.bufr_data.specs.Compressed.Reading.{filled}
use Rattle.bufr_data.specs.Compressed.Indexed.{values_of, read_at, HasHead, Opens, raised_of}
use Rattle.bufr_data.specs.Compressed.Indexed.{one_behind, one_at}
use Rattle.bufr_data.proofs.CompressedFacts.{column_found, head_read, ones_of}
use Rattle.bufr_data.proofs.CompressedFacts.Indexed.{one_value}
use Rattle.bufr_data.proofs.CompressedFacts.Walks.{column_form}
use Rattle.bufr_data.proofs.KindFacts.{other_kind}
use Rattle.bufr_data.proofs.ListFacts.{all_at}
use Rattle.bufr_data.proofs.PlainFacts.Passed.{number_missing}
use Rattle.bufr_data.proofs.CompressedFacts.Passed.{octets_none, minimum_there, TextHead, text_raw}
use Rattle.bufr_data.proofs.CompressedFacts.Passed.{number_raw, some_bits}

pub text_without_minimum : (spec : Spec) (index : ℕ) (front : List Bool) (b : ℕ)
    → spec.kind ≡ kinds.Text → b ≡ spec.width / 8 * 8 → length front < b
    → None ≡ one_at spec index front
text_without_minimum spec index front b is size short =
    let less : length front < spec.width / 8 * 8 = omega (arith, size, short) in
    rw (text_raw spec front is, octets_none (spec.width / 8) front less) refl

pub text_without_width : (spec : Spec) (index : ℕ) (front mid : List Bool) (b : ℕ)
    → spec.kind ≡ kinds.Text → b ≡ spec.width / 8 * 8 → b ≤ length front → mid ≡ drop b front
    → number_at 6 mid ≡ None → None ≡ one_at spec index front
text_without_width spec index front mid b is size long left none =
    rw (minimum_there spec front mid b is size long left, none) refl

behind_width : (spec : Spec) (index : ℕ) (front : List Bool) (k : ℕ) (rest : List Bool)
    → (h : TextHead spec front k rest)
    → one_at spec index front ≡ one_behind spec (Text h.own) k index rest
behind_width spec index front k rest h = rw (h.minimum, h.width) refl

wide_behind : (spec : Spec) (own : List ℕ) (k index : ℕ) (rest : List Bool) → spec.width / 8 < k
    → one_behind spec (Text own) k index rest ≡ None
wide_behind spec own zero index rest lt = absurd (omega (arith, lt))
wide_behind spec own (suc k) index rest lt = rw (lt-ltb (spec.width / 8) (suc k) lt) refl

pub text_too_wide : (spec : Spec) (index : ℕ) (front : List Bool) (k : ℕ) (rest : List Bool)
    → TextHead spec front k rest → spec.width / 8 < k → None ≡ one_at spec index front
text_too_wide spec index front k rest h lt =
    sym (behind_width spec index front k rest h ∙ wide_behind spec h.own k index rest lt)

text_behind : (spec : Spec) (own : List ℕ) (k index : ℕ) (rest : List Bool) → (k ≡ 0 → ⊥)
    → k ≤ spec.width / 8
    → one_behind spec (Text own) k index rest
    ≡ option_map (λ x. filled (spec.width / 8) x.0) (octets_at k (drop (index * (k * 8)) rest))
text_behind spec own zero index rest some le = absurd (some refl)
text_behind spec own (suc k) index rest some le = rw (le-ltb (spec.width / 8) (suc k) le) refl

nothing_there : (k c : ℕ) (rest : List Bool) → (k ≡ 0 → ⊥) → length rest < c
    → octets_at k (drop c rest) ≡ None
nothing_there k c rest some short =
    let less : length (drop c rest) < k * 8 =
    omega (arith, length-drop c rest, short, some) in octets_none k (drop c rest) less

pub text_past : (spec : Spec) (index : ℕ) (front : List Bool) (k : ℕ) (rest : List Bool) (c : ℕ)
    → TextHead spec front k rest → (k ≡ 0 → ⊥) → k ≤ spec.width / 8 → c ≡ index * (k * 8)
    → length rest < c → None ≡ one_at spec index front
text_past spec index front k rest c h some le times short =
    sym (behind_width spec index front k rest h ∙ text_behind spec h.own k index rest some le
    ∙ ap (λ m. option_map (λ x. filled (spec.width / 8) x.0) (octets_at k (drop m rest)))
    (sym times)
    ∙ ap (option_map (λ x. filled (spec.width / 8) x.0)) (nothing_there k c rest some short))

pub text_there_is : (spec : Spec) (index : ℕ) (front : List Bool) (k : ℕ) (rest : List Bool) (c : ℕ)
    (last : List Bool) (o : Option (List ℕ × List Bool)) → TextHead spec front k rest
    → (k ≡ 0 → ⊥) → k ≤ spec.width / 8 → c ≡ index * (k * 8) → last ≡ drop c rest
    → octets_at k last ≡ o
    → option_map (λ x. filled (spec.width / 8) x.0) o ≡ one_at spec index front
text_there_is spec index front k rest c last o h some le times behind there =
    sym (behind_width spec index front k rest h ∙ text_behind spec h.own k index rest some le
    ∙ ap (λ m. option_map (λ x. filled (spec.width / 8) x.0) (octets_at k (drop m rest)))
    (sym times)
    ∙ ap (λ xs. option_map (λ x. filled (spec.width / 8) x.0) (octets_at k xs)) (sym behind)
    ∙ ap (option_map (λ x. filled (spec.width / 8) x.0)) there)

pub own_octets : (k : ℕ) (front : List Bool) (own : List ℕ) (rest : List Bool)
    → octets_at k front ≡ Some (own, rest) → length own ≡ k
own_octets k front own rest e = (numbers_at_found k 8 front (own, rest) e).0

pub filled_is : (octets : ℕ) (own : List ℕ) (filler : ℕ) (t : Bool)
    → list_all (λ x. x == 255) own ≡ t → filler ≡ cond t 255 32 → length own ≤ octets
    → ◌≡◌ {A = Raw} (Text (take octets own ++ replicate (octets - length own) filler))
    (filled octets own)
filled_is octets own filler true ones is short =
    let whole : own ≡ replicate (length own) 255 = ones_of own ones in
    let size : length own + (octets - length own) ≡ octets = omega (arith, short) in
    let joined : take octets own ++ replicate (octets - length own) filler ≡ replicate octets 255 =
    ap (λ xs. xs ++ replicate (octets - length own) filler) (take_all octets own short ∙ whole)
    ∙ ap (λ f. replicate (length own) 255 ++ replicate (octets - length own) f) is
    ∙ replicate-append-replicate (length own) (octets - length own) 255
    ∙ ap (λ n. replicate n 255) size in
    rw ones (ap (λ xs. Text xs) joined)
filled_is octets own filler false ones is short =
    let joined : take octets own ++ replicate (octets - length own) filler ≡ own
    ++ replicate (octets - length own) 32 =
    ap (λ xs. xs ++ replicate (octets - length own) filler) (take_all octets own short)
    ∙ ap (λ f. own ++ replicate (octets - length own) f) is in
    rw ones (ap (λ xs. Text xs) joined)

pub narrow_number : (width : ℕ) (front : List Bool) (x : ℕ × List Bool) → width ≤ 64
    → number_at width front ≡ Some x → field_number_at width front ≡ Some x
narrow_number width front x le e = rw (le-leb width 64 le) e

pub number_past : (spec : Spec) (index : ℕ) (front mid rest : List Bool) (m k c : ℕ)
    → same_kind spec.kind kinds.Text ≡ false → field_number_at spec.width front ≡ Some (m, mid)
    → number_at 6 mid ≡ Some (k, rest) → (k ≡ 0 → ⊥) → c ≡ index * k → length rest < c
    → None ≡ one_at spec index front
unfolding number_at
number_past spec index front mid rest m zero c other first second some times short =
    absurd (some refl)
number_past spec index front mid rest m (suc k) c other first second some times short =
    let less : length (drop (index * suc k) rest) < suc k =
    omega (arith, length-drop (index * suc k) rest, short, times) in
    rw (number_raw spec.kind spec.width front other, first, second, lt-ltb _ _ less) refl

-- what two numbers that were read say of a head
pub head_there : (octets : List ℕ) (bit : ℕ) (spec : Spec) (h : ColumnHead) (r0 r1 r2 : BitPlace)
    (more : ℕ) → (spec.kind ≡ kinds.Text → ⊥) → spec.width ≤ 64
    → r0 ≡ record { octets = octets; place = bit }
    → r1 ≡ record r0 { place = r0.place + spec.width } → r2 ≡ record r1 { place = r1.place + 6 }
    → h.first ≡ r2.place → r2.place + more ≡ 8 * length r2.octets
    → number_at spec.width (left r0) ≡ Some (h.minimum, left r1)
    → number_at 6 (left r1) ≡ Some (h.increment_bits, left r2) → HasHead octets bit spec h
head_there octets bit spec h r0 r1 r2 more other narrow is0 is1 is2 first rest one two =
    let at1 : r1 ≡ record { octets = octets; place = bit + spec.width } =
    is1 ∙ ap (λ (r : BitPlace). record r { place = r.place + spec.width }) is0 in
    let at2 : r2 ≡ record { octets = octets; place = bit + spec.width + 6 } =
    is2 ∙ ap (λ (r : BitPlace). record r { place = r.place + 6 }) at1 in
    let size : length r2.octets ≡ length octets = ap (λ (r : BitPlace). length r.octets) at2 in
    let same : bit + spec.width + 6 ≡ h.first = sym (first ∙ ap (λ (r : BitPlace). r.place) at2) in
    record {
      numbers = other_kind spec.kind kinds.Text other;
      narrow = narrow;
      few = (number_at_is 6 h.increment_bits (left r1) (left r2) two).1;
      inside = omega (arith, first, rest, size);
      minimum = ap (λ (r : BitPlace). number_at spec.width (left r)) (sym is0) ∙ one
          ∙ ap (λ (r : BitPlace). Some (h.minimum, left r)) at1;
      increment_bits = ap (λ (r : BitPlace). number_at 6 (left r)) (sym at1) ∙ two
          ∙ ap (λ (r : BitPlace). Some (h.increment_bits, left r)) at2
          ∙ ap (λ b. Some (h.increment_bits, drop b (bits octets))) same;
    }

behind_head : (octets : List ℕ) (bit index : ℕ) (spec : Spec) (h : ColumnHead)
    → HasHead octets bit spec h
    → one_at spec index (drop bit (bits octets))
    ≡ one_behind spec (Number h.minimum) h.increment_bits index (drop h.first (bits octets))
behind_head octets bit index spec h has =
    let front = drop bit (bits octets) in
    rw (
      number_raw spec.kind spec.width front has.numbers,
      narrow_number spec.width front _ has.narrow has.minimum,
      has.increment_bits,
    )
    refl

-- the minimum, if there are no increments
pub minimum_is : (octets : List ℕ) (bit index : ℕ) (spec : Spec) (h : ColumnHead)
    → HasHead octets bit spec h → h.increment_bits ≡ 0
    → Some (Number h.minimum) ≡ one_at spec index (drop bit (bits octets))
minimum_is octets bit index spec h has none =
    sym (behind_head octets bit index spec h has
    ∙ ap (λ k. one_behind spec (Number h.minimum) k index (drop h.first (bits octets))) none)

raised_behind : (spec : Spec) (m k index : ℕ) (rest : List Bool) → (k ≡ 0 → ⊥)
    → one_behind spec (Number m) k index rest
    ≡ raised_of spec.width m k (number_at k (drop (index * k) rest))
raised_behind spec m zero index rest some = absurd (some refl)
raised_behind spec m (suc k) index rest some = refl

-- what the increment at an index raises
pub increment_there : (octets : List ℕ) (bit index : ℕ) (spec : Spec) (h : ColumnHead) (c : ℕ)
    (last : List Bool) (found : Option (ℕ × List Bool)) → HasHead octets bit spec h
    → (h.increment_bits ≡ 0 → ⊥) → c ≡ index * h.increment_bits
    → last ≡ drop c (drop h.first (bits octets)) → number_at h.increment_bits last ≡ found
    → raised_of spec.width h.minimum h.increment_bits found
    ≡ one_at spec index (drop bit (bits octets))
increment_there octets bit index spec h c last found has some times after there =
    let k = h.increment_bits in
    let rest = drop h.first (bits octets) in
    sym (behind_head octets bit index spec h has
    ∙ raised_behind spec h.minimum k index rest some
    ∙ ap (λ m. raised_of spec.width h.minimum k (number_at k (drop m rest))) (sym times)
    ∙ ap (λ xs. raised_of spec.width h.minimum k (number_at k xs)) (sym after)
    ∙ ap (raised_of spec.width h.minimum k) there)

-- too few bits for the increment at an index
pub increment_short : (octets : List ℕ) (bit index : ℕ) (spec : Spec) (h : ColumnHead) (c : ℕ)
    → HasHead octets bit spec h → (h.increment_bits ≡ 0 → ⊥) → c ≡ index * h.increment_bits
    → 8 * length octets < h.first + c + h.increment_bits
    → None ≡ one_at spec index (drop bit (bits octets))
increment_short octets bit index spec h c has some times short =
    let last = drop c (drop h.first (bits octets)) in
    let few : length last < h.increment_bits =
    omega (
      arith,
      short,
      has.inside,
      length-bits octets,
      length-drop h.first (bits octets),
      length-drop c (drop h.first (bits octets)),
      some_bits h.increment_bits some,
    ) in
    increment_there octets bit index spec h c last None has some times refl
    (number_missing h.increment_bits last few)

-- the bits left at an increment
pub increment_left : (octets : List ℕ) (start k : ℕ) → start + k ≤ 8 * length octets
    → k ≤ length (drop start (bits octets))
increment_left octets start k inside =
    omega (arith, inside, length-bits octets, length-drop start (bits octets))

-- a number that is there
pub number_is : (found : Option ℕ) (v : Raw) → option_map (λ n. Number n) found ≡ Some v
    → IsSome found
number_is None v e = absurd cc
number_is (Some n) v e = refl

value_at_column : (spec : Spec) (values : List Raw) (column rest : List Bool) (index : ℕ)
    → IsColumn spec values column → index < length values
    → one_at spec index (column ++ rest) ≡ Some (get_or values index (Number 0))
value_at_column spec values column rest index is inside =
    let one = one_value spec values column rest index is inside in
    let first = head_read spec (column ++ rest) one.minimum one.k one.rest one.heads in
    rw (first, number_at-bin 6 one.k one.rest one.heads.few) one.value

pub value_there : (octets : List ℕ) (n index : ℕ) (p : ColumnStart) → Opens octets n p → index < n
    → one_at p.spec index (drop p.bit (bits octets))
    ≡ Some (get_or (values_of (read_at octets n p)) index (Number 0))
value_there octets n index p opens inside =
    let x = ok_value (read_at octets n p) opens.1 in
    let found = column_found n 1 p.spec (drop p.bit (bits octets)) x.0 x.1 in
    let short : index < length x.0.0 = omega (arith, inside, found.1) in
    ap (one_at p.spec index) found.3
    ∙ value_at_column p.spec x.0.0 found.0 x.0.1 index found.2 short
    ∙ ap (λ vs. Some (get_or vs index (Number 0))) (ap values_of (sym x.1))

pub form_there : (octets : List ℕ) (n index : ℕ) (p : ColumnStart) (v : Raw) → Opens octets n p
    → index < n → v ≡ get_or (values_of (read_at octets n p)) index (Number 0)
    → has_form_by p.spec.kind p.spec.width v ≡ true
form_there octets n index p v opens inside is =
    let x = ok_value (read_at octets n p) opens.1 in
    let found = column_found n 1 p.spec (drop p.bit (bits octets)) x.0 x.1 in
    let short : index < length x.0.0 = omega (arith, inside, found.1) in
    let form =
    all_at (HasForm p.spec) x.0.0 index (Number 0) (column_form p.spec x.0.0 found.0 found.2) short
    in
    let same : v ≡ get_or x.0.0 index (Number 0) =
    is ∙ ap (λ vs. get_or vs index (Number 0)) (ap values_of x.1) in
    form_passes p.spec v (subst (HasForm p.spec) (sym same) form)

pub behind_is : (a b index k : ℕ) → a ≡ index → b ≡ k → a * (8 * b) ≡ index * (k * 8)
behind_is a b index k e f = rw (e, f) (omega arith)

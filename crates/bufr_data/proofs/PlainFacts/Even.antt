-- The starts of subsets of one size can be computed, and a subset begins at each if all bits and
-- items are there.
use Rattle.std.proofs.Common.{◌≡◌, ℕ, zero, suc, ◌+◌, ◌-◌, ◌*◌, ◌<◌, ◌≤◌, Bool, true, false, List, []}
use Rattle.std.proofs.Common.{◌∷◌, length, map, drop, Some, Ok, refl, sym, ap, subst, ◌∙◌, arith}
use Rattle.std.specs.Prelude.{◌^◌, slice_get, IsOk}
use Rattle.std.specs.Bool.{OnTrue}
use Rattle.std.proofs.lemmas.List.{drop-drop, length-drop}
use Rattle.std.proofs.Math.Nat.{mul-le-mul_right}
use Rattle.bufr_base.specs.Answers.{Fails}
use Rattle.bufr_base.specs.declared.failure.Failure.{Failure}
use Rattle.bufr_base.specs.declared.failure.Failure.TheVariants.{Fault, OutOfMemory}
use Rattle.bufr_bits.specs.Bits.{bits}
use Rattle.bufr_bits.specs.OctetLaws.{length-bits}
use Rattle.bufr_expand.specs.Courses.{course}
use Rattle.bufr_expand.specs.Limits.{most_items}
use Rattle.bufr_expand.specs.Trees.{Tree}
use Rattle.bufr_expand.specs.Unrolling.{NumberedField, Allows, Unrolls}
use Rattle.bufr_data.specs.declared.plain.fixed_size.Alike.{Alike}
use Rattle.bufr_fields.specs.declared.field.Subset.{Subset}
use Rattle.bufr_fields.specs.declared.fault.DataFault.{DataFault}
use Rattle.bufr_data.specs.declared.plain.index.SubsetStart.{SubsetStart}
use Rattle.bufr_data.specs.declared.plain.starts.Spacing.{Spacing}
use Rattle.bufr_data.specs.declared.plain.starts.Spacing.TheVariants.{Even}
use Rattle.bufr_data.specs.Data.{subsets_in}
use Rattle.bufr_data.specs.Plain.{fields_at, subsets_at}
use Rattle.bufr_data.specs.Plain.Alike.{IsAlike}
use Rattle.bufr_data.specs.Plain.Even.{start_after, start_here, even_starts, starts_in, HasRoom}
use Rattle.bufr_data.specs.Plain.Numbered.{numbered}
use Rattle.bufr_data.specs.Plain.Starts.{PassesSubset, subset_from, AllBegin, rest_of}
use Rattle.bufr_data.proofs.PlainFacts.Alike.{alike_passes}
use Rattle.bufr_data.proofs.PlainFacts.Starts.{read_there, here_is}
use Rattle.bufr_data.proofs.PlainFacts.Subsets.{fields_at_numbered}

pub many_even : (bit used : ℕ) (each : Alike) (n : ℕ) → length (even_starts bit used each n) ≡ n
many_even bit used each zero = refl
many_even bit used each (suc n) =
    ap suc (many_even (bit + each.bits) (used + each.items) each n)

later : ℕ → ℕ → Alike → ℕ → SubsetStart
later bit used each k = record {
  bit = bit + k * each.bits;
  end = bit + k * each.bits + each.bits;
  used = used + k * each.items;
}

first_even : (bit used : ℕ) (each : Alike) → start_here bit used each ≡ later bit used each 0
unfolding later
first_even bit used each =
    let begins : bit ≡ bit + 0 * each.bits = omega arith in
    let met : used ≡ used + 0 * each.items = omega arith in
    λ t. record { bit = begins t; end = begins t + each.bits; used = met t }

further : (bit used : ℕ) (each : Alike) (k : ℕ)
    → later (bit + each.bits) (used + each.items) each k ≡ later bit used each (suc k)
unfolding later
further bit used each k =
    let begins : bit + each.bits + k * each.bits ≡ bit + suc k * each.bits = omega arith in
    let met : used + each.items + k * each.items ≡ used + suc k * each.items = omega arith in
    λ t. record { bit = begins t; end = begins t + each.bits; used = met t }

one_later : (bit used : ℕ) (each : Alike) (n k : ℕ) → k < n
    → slice_get (even_starts bit used each n) k ≡ Some (later bit used each k)
one_later bit used each zero k below = absurd (omega (arith, below))
one_later bit used each (suc n) zero below = ap (λ x. Some x) (first_even bit used each)
one_later bit used each (suc n) (suc k) below =
    one_later (bit + each.bits) (used + each.items) each n k (omega (arith, below))
    ∙ ap (λ x. Some x) (further bit used each k)

pub one_even : (bit : ℕ) (each : Alike) (n k : ℕ) → k < n
    → slice_get (even_starts bit 0 each n) k ≡ Some (start_after bit each k)
unfolding later
one_even bit each n k below =
    let met : 0 + k * each.items ≡ k * each.items = omega arith in
    one_later bit 0 each n k below
    ∙ (λ t. Some (record {
      bit = bit + k * each.bits;
      end = bit + k * each.bits + each.bits;
      used = met t;
    }))

-- the laws of unrollings
pub record Laws : Type 0 where
  pub unrolled : (tree : Tree) (used : ℕ) (fields : List NumberedField) (met : ℕ) → used ≤ most_items
      → Allows (course tree used) fields met → Unrolls tree used fields met
  pub allowed : (tree : Tree) (used : ℕ) (fields : List NumberedField) (met : ℕ)
      → Unrolls tree used fields met → Allows (course tree used) fields met

-- n subsets of one size begin the bits, with their items after `used` others
pub record StandAlike (octets : List ℕ) (tree : Tree) (each : Alike) (bit used n : ℕ)
    (front : List Bool) : Type 0 where
  pub laws : Laws
  pub alike : IsAlike tree each
  pub there : front ≡ drop bit (bits octets)
  pub inside : bit ≤ 8 * length octets
  pub room : used + n * each.items ≤ most_items
  pub enough : n * each.bits ≤ length front

pub stand_alike : (octets : List ℕ) (tree : Tree) (each : Alike) (bit place n : ℕ)
    → ((tree : Tree) (used : ℕ) (fields : List NumberedField) (met : ℕ)
    → used ≤ most_items → Allows (course tree used) fields met → Unrolls tree used fields met)
    → ((tree : Tree) (used : ℕ) (fields : List NumberedField) (met : ℕ)
    → Unrolls tree used fields met → Allows (course tree used) fields met)
    → IsAlike tree each → bit ≡ place → bit ≤ 8 * length octets → n * each.items ≤ most_items
    → n * each.bits ≤ length (drop place (bits octets))
    → StandAlike octets tree each bit 0 n (drop place (bits octets))
stand_alike octets tree each bit place n unrolled allowed is same inside room enough = record {
  laws = record { unrolled = unrolled; allowed = allowed };
  alike = is;
  there = ap (λ b. drop b (bits octets)) (sym same);
  inside = inside;
  room = omega (arith, room);
  enough = enough;
}

first_passes : (octets : List ℕ) (tree : Tree) (each : Alike) (bit used n : ℕ) (front : List Bool)
    → StandAlike octets tree each bit used (suc n) front
    → PassesSubset (fields_at 1 1 (course tree used) front) (used + each.items)
    (drop each.bits front)
first_passes octets tree each bit used n front h =
    let room : used + suc n * each.items ≤ most_items = h.room in
    let enough : suc n * each.bits ≤ length front = h.enough in
    alike_passes tree each used front (drop each.bits front) h.laws.unrolled h.laws.allowed
    h.alike (omega (arith, room)) (omega (arith, enough)) refl

others_stand : (octets : List ℕ) (tree : Tree) (each : Alike) (bit used n : ℕ) (front : List Bool)
    → StandAlike octets tree each bit used (suc n) front
    → StandAlike octets tree each (bit + each.bits) (used + each.items) n (drop each.bits front)
others_stand octets tree each bit used n front h =
    let room : used + suc n * each.items ≤ most_items = h.room in
    let enough : suc n * each.bits ≤ length front = h.enough in
    let size : length front ≡ 8 * length octets - bit =
    ap length h.there ∙ length-drop bit (bits octets)
    ∙ ap (λ k. k - bit) (length-bits octets) in
    record {
      laws = h.laws;
      alike = h.alike;
      there =
          ap (drop each.bits) h.there ∙ drop-drop each.bits bit (bits octets);
      inside = omega (arith, size, enough, h.inside);
      room = omega (arith, room);
      enough = omega (arith, enough, length-drop each.bits front);
    }

pub alike_begin : (octets : List ℕ) (tree : Tree) (each : Alike) (bit used n : ℕ)
    (front : List Bool) → StandAlike octets tree each bit used n front
    → AllBegin octets tree (even_starts bit used each n)
alike_begin octets tree each bit used zero front h = tt
alike_begin octets tree each bit used (suc n) front h =
    let p = first_passes octets tree each bit used n front h in
    let others = others_stand octets tree each bit used n front h in
    let read = read_there octets tree (start_here bit used each) front _ _ h.there p in (
      (h.inside, subst IsOk (sym read) refl, others.inside, ap rest_of read ∙ others.there),
      alike_begin octets tree each (bit + each.bits) (used + each.items) n (drop each.bits front)
          others,
    )

pub alike_read : (octets : List ℕ) (tree : Tree) (each : Alike) (bit used j n : ℕ)
    (front : List Bool) → StandAlike octets tree each bit used n front
    → subsets_at (course tree) j n used front
    ≡ Ok (record {
      subsets = map (subset_from octets tree) (even_starts bit used each n);
      items = used + n * each.items;
      rest = drop (n * each.bits) front;
    })
unfolding subsets_at
alike_read octets tree each bit used j zero front h =
    let items : used ≡ used + zero * each.items = omega arith in
    let bits : zero ≡ zero * each.bits = omega arith in
    λ t. Ok (record { subsets = []; items = items t; rest = drop (bits t) front })
alike_read octets tree each bit used j (suc n) front h =
    let p = first_passes octets tree each bit used n front h in
    let found : fields_at j 1 (course tree used) front
    ≡ Ok (record { fields = p.0; items = used + each.items; rest = drop each.bits front }) =
    fields_at_numbered j 1 (course tree used) front ∙ ap (numbered j) p.1 in
    let others =
    alike_read octets tree each (bit + each.bits) (used + each.items) (j + 1) n
    (drop each.bits front) (others_stand octets tree each bit used n front h) in
    let here =
    here_is octets tree (start_here bit used each) front (drop each.bits front)
    (used + each.items) h.there p in
    let items : used + each.items + n * each.items ≡ used + suc n * each.items = omega arith in
    let sum : each.bits + n * each.bits ≡ suc n * each.bits = omega arith in
    let rest : drop (n * each.bits) (drop each.bits front) ≡ drop (suc n * each.bits) front =
    drop-drop (n * each.bits) each.bits front ∙ ap (λ k. drop k front) sum in
    rw (found, others)
    (λ t.
    Ok (record {
      subsets =
          here t ∷ map (subset_from octets tree)
          (even_starts (bit + each.bits) (used + each.items) each n);
      items = items t;
      rest = rest t;
    }))

pub all_passed : (octets : List ℕ) (tree : Tree) (each : Alike) (place n : ℕ) (passed : Bool)
    (rest : List Bool)
    → ((tree : Tree) (used : ℕ) (fields : List NumberedField) (met : ℕ)
    → used ≤ most_items → Allows (course tree used) fields met → Unrolls tree used fields met)
    → ((tree : Tree) (used : ℕ) (fields : List NumberedField) (met : ℕ)
    → Unrolls tree used fields met → Allows (course tree used) fields met)
    → IsAlike tree each → place ≤ 8 * length octets → OnTrue passed (n * each.items ≤ most_items)
    → OnTrue passed (n * each.bits ≤ length (drop place (bits octets)))
    → OnTrue passed (rest ≡ drop (n * each.bits) (drop place (bits octets)))
    → OnTrue passed ((subsets : List Subset)
    × (subsets_in tree false n (drop place (bits octets)) ≡ Ok (subsets, rest)))
all_passed octets tree each place n false rest unrolled allowed is inside few enough behind = tt
all_passed octets tree each place n true rest unrolled allowed is inside few enough behind =
    let stand = stand_alike octets tree each place place n unrolled allowed is refl inside few enough in (
      map (subset_from octets tree) (even_starts place 0 each n),
      rw (alike_read octets tree each place 0 1 n (drop place (bits octets)) stand, behind) refl,
    )

pub only_read : (octets : List ℕ) (tree : Tree) (s : SubsetStart) (front rest : List Bool)
    (items : ℕ) → front ≡ drop s.bit (bits octets)
    → PassesSubset (fields_at 1 1 (course tree s.used) front) items rest
    → subsets_at (course tree) 1 1 s.used front
    ≡ Ok (record { subsets = subset_from octets tree s ∷ []; items = items; rest = rest })
unfolding subsets_at
only_read octets tree s front rest items there p =
    let here = here_is octets tree s front rest items there p in
    rw p.1 (λ t. Ok (record { subsets = here t ∷ []; items = items; rest = rest }))

pub only_begins : (octets : List ℕ) (tree : Tree) (bit end items : ℕ) (front rest : List Bool)
    → front ≡ drop bit (bits octets) → bit ≤ end → end ≤ 8 * length octets
    → rest ≡ drop end (bits octets)
    → PassesSubset (fields_at 1 1 (course tree 0) front) items rest
    → AllBegin octets tree (even_starts bit 0 (record { bits = end - bit; items = items }) 1)
only_begins octets tree bit end items front rest there onward ends behind p =
    let each : Alike = record { bits = end - bit; items = items } in
    let whole : end ≡ bit + (end - bit) = omega (arith, onward) in
    let read = read_there octets tree (start_here bit 0 each) front rest items there p in (
      (
        omega (arith, onward, ends),
        subst IsOk (sym read) refl,
        omega (arith, onward, ends),
        ap rest_of read ∙ behind ∙ ap (λ b. drop b (bits octets)) whole,
      ),
      tt,
    )

pub only_fails : (tree : Tree) (used : ℕ) (front : List Bool) (failure : Failure DataFault)
    → Fails failure (fields_at 1 1 (course tree used) front)
    → Fails failure (subsets_at (course tree) 1 1 used front)
unfolding subsets_at
only_fails tree used front (Fault fault) fails = rw fails refl
only_fails tree used front OutOfMemory fails = tt

pub many_kept : (spacing : Spacing) (bit : ℕ) (each : Alike) (count : ℕ)
    (starts : List SubsetStart) → starts_in spacing ≡ starts → spacing ≡ Even bit each count
    → length starts ≡ count
many_kept spacing bit each count starts view is =
    ap length (sym view ∙ ap starts_in is) ∙ many_even bit 0 each count

pub one_kept : (spacing : Spacing) (bit : ℕ) (s : SubsetStart) (each : Alike) (count k : ℕ)
    (starts : List SubsetStart) → starts_in spacing ≡ starts → spacing ≡ Even bit each count
    → k < count → s ≡ start_after bit each k → slice_get starts k ≡ Some s
one_kept spacing bit s each count k starts view is below reckoned =
    ap (λ xs. slice_get xs k) (sym view ∙ ap starts_in is)
    ∙ one_even bit each count k below ∙ ap (λ x. Some x) (sym reckoned)

pub one_fits : (spacing : Spacing) (bit : ℕ) (each : Alike) (count k : ℕ)
    → HasRoom spacing → spacing ≡ Even bit each count → k < count
    → (bit + (k + 1) * each.bits < 2 ^ 64) × (k * each.items < 2 ^ 64)
one_fits spacing bit each count k has is below =
    let room : HasRoom (Even bit each count) = subst HasRoom is has in
    let few : k ≤ count = omega (arith, below) in
    let next : k + 1 ≤ count = omega (arith, below) in (
      omega (arith, room.0, mul-le-mul_right {m = k + 1} {n = count} each.bits next),
      omega (arith, room.1, mul-le-mul_right {m = k} {n = count} each.items few),
    )

-- Section 1 by the places of its octets: if there are enough, only the master table decides. Then the
-- sections that octets spell, by those places.
use Rattle.std.proofs.Common.{◌≡◌, ℕ, ◌≤◌, Bool, true, cond, get_or, List, ◌∷◌, length, drop, Ok, Err}
use Rattle.std.proofs.Common.{◌≢◌, refl, arith, ◌/◌, ◌%◌}
use Rattle.std.proofs.lemmas.Bool.{ne_eqb}
use Rattle.std.specs.Prelude.{◌==◌, nat_le, Option}
use Rattle.bufr_sections.specs.declared.layout.Layout.{Layout}
use Rattle.bufr_sections.specs.declared.fault.Refused.TheVariants.{MasterTable, Section1Length}
use Rattle.bufr_sections.specs.declared.fault.Refused.TheVariants.{Section3Length, Section4Length}
use Rattle.bufr_sections.specs.declared.message.Head.{Head}
use Rattle.bufr_sections.specs.Sections.{head4_of, head3_of, description_of, descriptors_of, two}
use Rattle.bufr_sections.specs.Sections.{envelope_of, head_of, room_of, section_at, section2_at}
use Rattle.bufr_sections.specs.Sections.{sections_of, shortest1}
use Rattle.bufr_sections.specs.SectionsRead.{head4_with, head3_with}

pub head_is : (xs : List ℕ) → 19 ≤ length xs
    → head4_of xs ≡ cond (get_or xs 0 0 == 0) (Ok
    (head4_with xs (drop 19 xs), nat_le 128 (get_or xs 6 0))) (Err (MasterTable (get_or xs 0 0)))
unfolding head4_of
head_is
    (master ∷ c1 ∷ c2 ∷ s1 ∷ s2 ∷ update ∷ flags ∷ category ∷ international ∷ local_category
    ∷ master_version ∷ local_version ∷ y1 ∷ y2 ∷ month ∷ day ∷ hour ∷ minute ∷ second
    ∷ local) long = refl
head_is _ long = absurd (omega arith)

pub head3_is : (xs : List ℕ) → 14 ≤ length xs
    → head3_of xs ≡ cond (get_or xs 0 0 == 0) (Ok
    (head3_with xs (drop 14 xs), nat_le 128 (get_or xs 4 0))) (Err (MasterTable (get_or xs 0 0)))
unfolding head3_of
head3_is
    (master ∷ sub_centre ∷ centre ∷ update ∷ flags ∷ category ∷ local_category ∷ master_version
    ∷ local_version ∷ year ∷ month ∷ day ∷ hour ∷ minute ∷ local) long = refl
head3_is _ long = absurd (omega arith)

-- with master table 0 the octets are a section 1
pub head4_said : (xs : List ℕ) → 19 ≤ length xs → get_or xs 0 0 ≡ 0
    → head4_of xs ≡ Ok (head4_with xs (drop 19 xs), nat_le 128 (get_or xs 6 0))
head4_said xs long master = rw master at (head_is xs long)

-- so they are in edition 3
pub head3_said : (xs : List ℕ) → 14 ≤ length xs → get_or xs 0 0 ≡ 0
    → head3_of xs ≡ Ok (head3_with xs (drop 14 xs), nat_le 128 (get_or xs 4 0))
head3_said xs long master = rw master at (head3_is xs long)

-- with another they are none
pub head4_other : (xs : List ℕ) → 19 ≤ length xs → get_or xs 0 0 ≢ 0
    → head4_of xs ≡ Err (MasterTable (get_or xs 0 0))
head4_other xs long other = rw (ne_eqb (get_or xs 0 0) 0 other) at (head_is xs long)

-- so they are in edition 3
pub head3_other : (xs : List ℕ) → 14 ≤ length xs → get_or xs 0 0 ≢ 0
    → head3_of xs ≡ Err (MasterTable (get_or xs 0 0))
head3_other xs long other = rw (ne_eqb (get_or xs 0 0) 0 other) at (head3_is xs long)

-- what section 3 says, by the places of its octets
pub description_at : (xs : List ℕ) → 4 ≤ length xs
    → description_of xs ≡ Ok (record {
      count = two (get_or xs 1 0) (get_or xs 2 0);
      observed = nat_le 128 (get_or xs 3 0);
      compressed = get_or xs 3 0 / 64 % 2 == 1;
      descriptors = descriptors_of (drop 4 xs);
    })
unfolding description_of
description_at (ignored ∷ n1 ∷ n2 ∷ flags ∷ list) long = refl
description_at _ long = absurd (omega arith)

-- each section at its place
pub sections_found : (octets room one after1 after2 three after3 four left listed contents : List ℕ)
    (layout : Layout) (head : Head) (announced : Bool) (local : Option (List ℕ)) (count : ℕ)
    → room_of octets ≡ Ok (layout, room)
    → section_at (shortest1 layout) Section1Length room ≡ Ok (one, after1)
    → head_of layout one ≡ Ok (head, announced) → section2_at announced after1 ≡ Ok (local, after2)
    → section_at 9 Section3Length after2 ≡ Ok (three, after3) → 4 ≤ length three
    → section_at 4 Section4Length after3 ≡ Ok (four, left) → (length left == 0) ≡ true
    → listed ≡ drop 4 three → contents ≡ drop 1 four → count ≡ two (get_or three 1 0) (get_or three 2 0)
    → envelope_of octets ≡ Ok (record {
      head = head;
      section2 = local;
      observed = nat_le 128 (get_or three 3 0);
      compressed = get_or three 3 0 / 64 % 2 == 1;
      descriptors = descriptors_of listed;
      count = count;
      contents = contents;
    })
unfolding envelope_of sections_of
sections_found octets room one after1 after2 three after3 four left listed contents layout head
    announced local count begins first says second third long fourth ended list rest number =
    let said = description_at three long in
    rw (begins, first, says, second, third, said, fourth, ended, list, rest, number) refl

-- Messages of edition 4 with the same octets from the edition to the second have the same head: for
-- the fields kept from one message to the next.
use Rattle.std.proofs.Common.{◌≡◌, ◌∙◌, ℕ, ◌+◌, ◌-◌, ◌≤◌, Bool, List, [], ◌∷◌, length, take, drop}
use Rattle.std.proofs.Common.{get_or, refl, sym, ap, subst, arith, Ok}
use Rattle.std.specs.Prelude.{◌==◌, ◌||◌, not, nat_lt, codes, bytes_eq}
use Rattle.std.proofs.lemmas.List.{drop-take, length-drop, length-take, take-take}
use Rattle.bufr_base.specs.AnswerLaws.{bind_ok, guard_ok, ok_is, passed_ok}
use Rattle.bufr_sections.specs.declared.fault.Refused.{Refused}
use Rattle.bufr_sections.specs.declared.fault.Refused.TheVariants.{MasterTable, NoEnd, NotBufr}
use Rattle.bufr_sections.specs.declared.fault.Refused.TheVariants.{Section1Length, Section3Length}
use Rattle.bufr_sections.specs.declared.fault.Refused.TheVariants.{Section4Length, TotalLength}
use Rattle.bufr_sections.specs.declared.layout.Layout.{Layout}
use Rattle.bufr_sections.specs.declared.layout.Layout.TheVariants.{Edition4}
use Rattle.bufr_sections.specs.declared.message.Head.{Head}
use Rattle.bufr_sections.specs.Sections.{Envelope, contents_of, description_of}
use Rattle.bufr_sections.specs.Sections.{envelope_of, head4_of, room_in, room_of, section2_at}
use Rattle.bufr_sections.specs.Sections.{section_at, sections_of, three}
use Rattle.bufr_sections.specs.SectionsRead.{head4_with}
use Rattle.bufr_ls_engine.specs.RowSteps.{fields_after_length, fields_from}

-- section 1 of edition 4 after its length
head4_said : (one : List ℕ) (h : Head × Bool) → head4_of one ≡ Ok h
    → (19 ≤ length one) × (h.0 ≡ head4_with (take 19 one) (drop 19 one))
unfolding head4_of
head4_said
    (master ∷ c1 ∷ c2 ∷ s1 ∷ s2 ∷ update ∷ flags ∷ category ∷ international ∷ local_category
    ∷ master_version ∷ local_version ∷ y1 ∷ y2 ∷ month ∷ day ∷ hour ∷ minute ∷ second
    ∷ local) h is =
    let p = passed_ok (master == 0) _ (MasterTable master) h is in
    (omega arith, sym (ap (λ (x : Head × Bool). x.0) p.1))
head4_said _ h is = absurd cc

-- the octets of a section after its length
section_said : (shortest : ℕ) (fault : Refused) (room : List ℕ) (found : List ℕ × List ℕ)
    → section_at shortest fault room ≡ Ok found → (n : ℕ) × (found.0 ≡ take n (drop 3 room))
unfolding section_at
section_said shortest fault (a ∷ b ∷ c ∷ more) found is =
    let g = guard_ok
    (nat_lt (three a b c) shortest || nat_lt (3 + length more) (three a b c)) fault _ found is in
    (three a b c - 3, sym (ap (λ (x : List ℕ × List ℕ). x.0) (ok_is _ _ g.1)))
section_said shortest fault _ found is = absurd cc

-- the octets between section 0 and the end
room_said : (total : ℕ) (rest room : List ℕ) → room_in total rest ≡ Ok room
    → take (length rest - 4) rest ≡ room
unfolding room_in
room_said total rest room is =
    let g3 = guard_ok (not (total == 8 + length rest)) TotalLength _ room is in
    let g4 =
    guard_ok
    (nat_lt (length rest) 4 || not
    (bytes_eq (drop (length rest - 4) rest) (codes "7777"))) NoEnd _ room g3.1 in
    ok_is _ _ g4.1

-- the first octets of a text that was cut twice
front_of_cut : (octets : List ℕ) (n m : ℕ) → 19 ≤ length (take n (drop 3 (take m octets)))
    → take 19 (take n (drop 3 (take m octets))) ≡ take 19 (drop 3 octets)
front_of_cut octets n m long =
    let room = take m octets in
    let one = length-take n (drop 3 room) in
    let after = length-drop 3 room in
    let all = length-take m octets in
    let n_long : 19 ≤ n = omega (arith, long, one, after, all) in
    let m_long : 22 ≤ m = omega (arith, long, one, after, all) in
    let m_is : m ≡ 3 + (m - 3) = omega arith in
    take-take 19 n (drop 3 room) n_long
    ∙ ap (λ k. take 19 (drop 3 (take k octets))) m_is
    ∙ ap (λ (t : List ℕ). take 19 t) (drop-take 3 (m - 3) octets)
    ∙ take-take 19 (m - 3) (drop 3 octets) (omega arith)

-- the head of sections of edition 4
head_of_room : (room : List ℕ) (e : Envelope) → sections_of Edition4 room ≡ Ok e
    → (n : ℕ) × (local : List ℕ) × (19 ≤ length (take n (drop 3 room)))
    × (e.head ≡ head4_with (take 19 (take n (drop 3 room))) local)
unfolding sections_of
head_of_room room e is =
    let one = bind_ok (section_at 22 Section1Length room) _ e is in
    let head = bind_ok (head4_of one.0.0) _ e one.2 in
    let two = bind_ok (section2_at head.0.1 one.0.1) _ e head.2 in
    let three = bind_ok (section_at 9 Section3Length two.0.1) _ e two.2 in
    let said = bind_ok (description_of three.0.0) _ e three.2 in
    let four = bind_ok (section_at 4 Section4Length three.0.1) _ e said.2 in
    let last = bind_ok (contents_of four.0) _ e four.2 in
    let first = section_said 22 Section1Length room one.0 one.1 in
    let read = head4_said one.0.0 head.0 head.1 in (
      first.0,
      drop 19 one.0.0,
      subst (λ (t : List ℕ). 19 ≤ length t) first.1 read.0,
      sym (ap (λ (x : Envelope). x.head) (ok_is _ _ last.2)) ∙ read.1
          ∙ ap (λ (t : List ℕ). head4_with (take 19 t) (drop 19 one.0.0)) first.1,
    )

-- the head of a message of edition 4
head_of_message : (b u f r l1 l2 l3 : ℕ) (rest : List ℕ) (e : Envelope)
    → envelope_of (b ∷ u ∷ f ∷ r ∷ l1 ∷ l2 ∷ l3 ∷ 4 ∷ rest) ≡ Ok e
    → (local : List ℕ) × (e.head ≡ head4_with (take 19 (drop 3 rest)) local)
unfolding envelope_of room_of
head_of_message b u f r l1 l2 l3 rest e is =
    let found = bind_ok (room_of (b ∷ u ∷ f ∷ r ∷ l1 ∷ l2 ∷ l3 ∷ 4 ∷ rest)) _ e is in
    let g1 = guard_ok (not (bytes_eq (b ∷ u ∷ f ∷ r ∷ []) (codes "BUFR"))) NotBufr _ found.0 found.1 in
    let room = bind_ok (room_in (three l1 l2 l3) rest) _ found.0 g1.1 in
    let whole = room_said (three l1 l2 l3) rest room.0 room.1 in
    let at : found.0 ≡ (Edition4, take (length rest - 4) rest) =
    sym (ok_is _ _ room.2) ∙ ap (λ (t : List ℕ). (Edition4, t)) (sym whole) in
    let read =
    head_of_room (take (length rest - 4) rest) e
    (subst (λ (x : Layout × List ℕ). sections_of x.0 x.1 ≡ Ok e) at found.2) in (
      read.1,
      read.3 ∙ ap (λ (t : List ℕ). head4_with t read.1)
          (front_of_cut rest read.0 (length rest - 4) read.2),
    )

-- the same, by the number of the edition
head_by_edition : (octets : List ℕ) (e : Envelope) → envelope_of octets ≡ Ok e
    → get_or octets 7 0 ≡ 4
    → (local : List ℕ) × (e.head ≡ head4_with (drop 4 (take 23 (drop 7 octets))) local)
unfolding envelope_of room_of
head_by_edition (b ∷ u ∷ f ∷ r ∷ l1 ∷ l2 ∷ l3 ∷ edition ∷ rest) e is four =
    let read =
    head_of_message b u f r l1 l2 l3 rest e
    (subst (λ n. envelope_of (b ∷ u ∷ f ∷ r ∷ l1 ∷ l2 ∷ l3 ∷ n ∷ rest) ≡ Ok e) four is) in
    (read.0, read.1 ∙ ap (λ (t : List ℕ). head4_with t read.0) (sym (drop-take 3 19 rest)))
head_by_edition _ e is four = absurd cc

-- the first octet from the edition on is the edition
pub first_is_edition : (octets : List ℕ) → get_or (take 23 (drop 7 octets)) 0 0 ≡ get_or octets 7 0
first_is_edition (b ∷ u ∷ f ∷ r ∷ l1 ∷ l2 ∷ l3 ∷ edition ∷ rest) = refl
first_is_edition _ = refl

-- the fields of a message of edition 4 are those that its octets give
pub kept_fields : (octets head : List ℕ) (e : Envelope) → envelope_of octets ≡ Ok e
    → head ≡ take 23 (drop 7 octets) → get_or head 0 0 ≡ 4
    → fields_from 4 (head4_with (drop 4 head) []) e.count e.observed e.compressed e.descriptors
    ≡ fields_after_length octets e
kept_fields octets head e is same four =
    let edition : get_or octets 7 0 ≡ 4 =
    sym (first_is_edition octets) ∙ ap (λ (t : List ℕ). get_or t 0 0) (sym same) ∙ four in
    let read = head_by_edition octets e is edition in
    ap (λ (t : List ℕ). fields_from 4 (head4_with (drop 4 t) []) e.count e.observed e.compressed
    e.descriptors) same
    ∙ ap (λ (h : Head). fields_from 4 h e.count e.observed e.compressed e.descriptors) (sym read.1)
    ∙ ap (λ n. fields_from n e.head e.count e.observed e.compressed e.descriptors) (sym edition)

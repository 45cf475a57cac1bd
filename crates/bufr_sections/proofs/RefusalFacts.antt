-- Reading refuses for the first cause that the octets give: each step of reading is one test, so
-- its fault is the first cause of the list.
use Rattle.std.proofs.Common.{◌≡◌, ℕ, ◌+◌, ◌-◌, ◌/◌, ◌%◌, ◌<◌, ◌≤◌, Bool, true, false, not, cond}
use Rattle.std.proofs.Common.{get_or, List, [], ◌∷◌, ◌++◌, length, take, drop, Option, Some, None}
use Rattle.std.proofs.Common.{Result, Ok, Err, refl, sym, ap, ◌∙◌, arith, inl, inr, length-drop}
use Rattle.std.proofs.Common.{length-take, get_or-take, get_or-drop}
use Rattle.std.specs.Prelude.{◌==◌, ◌||◌, ◌&&◌, nat_lt, nat_le, if◌then◌else◌, codes, bytes_eq, All}
use Rattle.std.specs.List.{AllByRecursion}
use Rattle.std.proofs.lemmas.Bool.{cases_lt, ltb-true, ltb-false, lt-ltb, le-ltb, eqb-true}
use Rattle.std.proofs.lemmas.Bool.{eqb-false, eq-eqb, ne_eqb}
use Rattle.std.proofs.lemmas.List.{drop_more, drop-drop, drop-take}
use Rattle.std.proofs.lemmas.List.Elements.{All-nil, All-cons, All-head, All-tail}
use Rattle.bufr_base.specs.Answers.{◌>>=◌}
use Rattle.bufr_sections.specs.declared.fault.Refused.{Refused}
use Rattle.bufr_sections.specs.declared.message.Head.{Head}
use Rattle.bufr_sections.specs.declared.layout.Layout.{Layout}
use Rattle.bufr_sections.specs.declared.layout.Layout.TheVariants.{Edition4, Edition3}
use Rattle.bufr_sections.specs.declared.fault.Refused.TheVariants.{NotBufr, TotalLength, NoEnd}
use Rattle.bufr_sections.specs.declared.fault.Refused.TheVariants.{Section1Length, MasterTable}
use Rattle.bufr_sections.specs.declared.fault.Refused.TheVariants.{Section2Length, Section3Length}
use Rattle.bufr_sections.specs.declared.fault.Refused.TheVariants.{Section4Length}
use Rattle.bufr_sections.specs.Sections.{Envelope, three, two, layout_of, layout_or, shortest1}
use Rattle.bufr_sections.specs.Sections.{room_in, room_of, section_at, head_of, section2_at}
use Rattle.bufr_sections.specs.Sections.{Description, descriptors_of, description_of, contents_of}
use Rattle.bufr_sections.specs.Sections.{sections_of, envelope_of}
use Rattle.bufr_sections.specs.SectionsRead.{head4_with, head3_with}
use Rattle.bufr_sections.proofs.HeadFacts.{head_is, head3_is}
use Rattle.bufr_base.specs.AnswerLaws.{or_first, not_false}
use Rattle.bufr_sections.specs.Causes.{octet_at, length_at, room_end, announces_section2, place2}
use Rattle.bufr_sections.specs.Causes.{place3, place4, no_section, Cause, causes_in, causes}
use Rattle.bufr_sections.specs.Causes.{IsFirstRefusal, is_of_sections}

-- ---- the first of causes

-- the first cause that octets give, if any
abbrev first : List Cause → Option Refused
first [] = None
first (c ∷ cs) = cond c.1 (Some c.0) (first cs)

-- the causes before this one don't hold
abbrev Split : List Cause → Refused → Type 0
Split cs fault =
    (before : List Cause) × (after : List Cause) × (cs ≡ before ++ (fault, true) ∷ after)
    × All (λ c. c.1 ≡ false) before

split_more : (g : Refused) (b : Bool) (cs : List Cause) (f : Refused)
    → cond b (Some g) (first cs) ≡ Some f → (first cs ≡ Some f → Split cs f) → Split ((g, b) ∷ cs) f
split_more g true cs f e more =
    let same : g ≡ f = cc in
    ([], cs, ap (λ h. (h, true) ∷ cs) same, All-nil (λ c. c.1 ≡ false))
split_more g false cs f e more =
    let s = more e in (
      (g, false) ∷ s.0,
      s.1,
      ap (λ ds. (g, false) ∷ ds) s.2,
      All-cons (λ c. c.1 ≡ false) (g, false) s.0 refl s.3,
    )

first_takes : (cs : List Cause) (f : Refused) → first cs ≡ Some f → Split cs f
first_takes [] f e = absurd cc
first_takes (c ∷ cs) f e = split_more c.0 c.1 cs f e (first_takes cs f)

first_gives : (before after : List Cause) (f : Refused) → All (λ c. c.1 ≡ false) before
    → first (before ++ (f, true) ∷ after) ≡ Some f
first_gives [] after f all = refl
first_gives (c ∷ before) after f all =
    rw (All-head (λ c. c.1 ≡ false) c before all)
    (first_gives before after f (All-tail (λ c. c.1 ≡ false) c before all))

-- ---- the fault of a result

-- the fault, if any
abbrev fault_of : {A : Type 0} → Result A Refused → Option Refused
fault_of (Ok x) = None
fault_of (Err fault) = Some fault

-- a test, and the steps after it
tested_bind : {A B : Type 0} (b c : Bool) (fault : Refused) (x : Result A Refused)
    (f : A → Result B Refused) (cs : List Cause) → b ≡ c
    → (b ≡ false → fault_of (x >>= f) ≡ first cs)
    → fault_of (cond b (Err fault) x >>= f) ≡ cond c (Some fault) (first cs)
tested_bind true c fault x f cs same more = rw (← same) refl
tested_bind false c fault x f cs same more = rw (← same) (more refl)

-- a step that succeeds, and the steps after it
found_then : {A B : Type 0} (x : Result A Refused) (f : A → Result B Refused) (v : A)
    (cs : List Cause) → x ≡ Ok v → fault_of (f v) ≡ first cs → fault_of (x >>= f) ≡ first cs
found_then x f v cs is more = rw is more

-- a step that a test may refuse, and the steps after it
tested_then : {A B : Type 0} (x : Result A Refused) (f : A → Result B Refused) (b : Bool)
    (fault : Refused) (v : A) (cs : List Cause) → x ≡ cond b (Err fault) (Ok v)
    → (b ≡ false → fault_of (f v) ≡ first cs) → fault_of (x >>= f) ≡ cond b (Some fault) (first cs)
tested_then x f true fault v cs is more = rw is refl
tested_then x f false fault v cs is more = rw is (more refl)

-- a step that a test has to allow, and the steps after it
passed_then : {A B : Type 0} (x : Result A Refused) (f : A → Result B Refused) (b : Bool)
    (fault : Refused) (v : A) (cs : List Cause) → x ≡ cond b (Ok v) (Err fault)
    → (b ≡ true → fault_of (f v) ≡ first cs)
    → fault_of (x >>= f) ≡ cond (not b) (Some fault) (first cs)
passed_then x f true fault v cs is more = rw is (more refl)
passed_then x f false fault v cs is more = rw is refl

same_lt : (a b c d : ℕ) → (a < b → c < d) → (b ≤ a → d ≤ c) → nat_lt a b ≡ nat_lt c d
same_lt a b c d below above = elim (cases_lt a b) [
  | inl lt ↦ lt-ltb a b lt ∙ sym (lt-ltb c d (below lt))
  | inr le ↦ le-ltb a b le ∙ sym (le-ltb c d (above le))
]

none_of : (a b c : Bool) → (a || b || c) ≡ false → (a ≡ false) × (b ≡ false) × (c ≡ false)
none_of true b c e = absurd cc
none_of false true c e = absurd cc
none_of false false true e = absurd cc
none_of false false false e = (refl, refl, refl)

same_or : (a a2 b b2 : Bool) → a ≡ a2 → (a ≡ false → b ≡ b2) → (a || b) ≡ (a2 || b2)
same_or true a2 b b2 e more = rw (← e) refl
same_or false a2 b b2 e more = rw (← e) (more refl)

same_eq : (a b c d : ℕ) → (a ≡ b → c ≡ d) → (c ≡ d → a ≡ b) → (a == b) ≡ (c == d)
same_eq a b c d there back = by_test (a == b) refl
  where
    by_test : (t : Bool) → (a == b) ≡ t → t ≡ (c == d)
    by_test true e = sym (eq-eqb c d (there (eqb-true a b e)))
    by_test false e = sym (ne_eqb c d (λ h. eqb-false a b e (back h)))

-- ---- a section at a place

short_room : (shortest : ℕ) (fault : Refused) (room : List ℕ) → length room < 3
    → section_at shortest fault room ≡ Err fault
unfolding section_at
short_room shortest fault (a ∷ b ∷ c ∷ rest) h = absurd (omega arith)
short_room shortest fault _ h = refl

long_room : (shortest : ℕ) (fault : Refused) (a b c : ℕ) (more rest : List ℕ) (past : Bool)
    → nat_lt (3 + length more) (three a b c) ≡ past
    → (shortest ≤ three a b c → drop (three a b c - 3) more ≡ rest)
    → section_at shortest fault (a ∷ b ∷ c ∷ more)
    ≡ cond (nat_lt (three a b c) shortest || past) (Err fault)
    (Ok (take (three a b c - 3) more, rest))
unfolding section_at
long_room shortest fault a b c more rest past is left =
    rw is (by_length (nat_lt (three a b c) shortest) refl)
  where
    by_length : (b2 : Bool) → nat_lt (three a b c) shortest ≡ b2
        → cond {A = Result (List ℕ × List ℕ) Refused} (b2 || past) (Err fault)
        (Ok (take (three a b c - 3) more, drop (three a b c - 3) more))
        ≡ cond (b2 || past) (Err fault) (Ok (take (three a b c - 3) more, rest))
    by_length true e = refl
    by_length false e = rw (left (ltb-false _ _ e)) refl

-- the octets before `7777` from a place on
abbrev from : List ℕ → ℕ → List ℕ
from octets p = drop p (take (room_end octets) octets)

-- the octets after the length of the section at a place
abbrev behind : List ℕ → ℕ → List ℕ
behind octets p = take (length_at octets p - 3) (from octets (p + 3))

room_length : (octets : List ℕ) → length (take (room_end octets) octets) ≡ room_end octets
room_length octets = omega (arith, length-take (room_end octets) octets)

room_three : (octets : List ℕ) (p : ℕ) → p + 3 ≤ room_end octets
    → from octets p
    ≡ octet_at octets p ∷ octet_at octets (p + 1) ∷ octet_at octets (p + 2) ∷ from octets (p + 3)
room_three octets p h =
    let room : List ℕ = take (room_end octets) octets in
    let long = room_length octets in
    let one = drop_more room p 0 (omega arith) in
    let two = drop_more room (p + 1) 0 (omega arith) in
    let three = drop_more room (p + 1 + 1) 0 (omega arith) in
    let a = get_or-take (room_end octets) octets p 0 (omega arith) in
    let b = get_or-take (room_end octets) octets (p + 1) 0 (omega arith) in
    let c = get_or-take (room_end octets) octets (p + 1 + 1) 0 (omega arith) in
    let same : p + 1 + 1 ≡ p + 2 = omega arith in
    let last : p + 2 + 1 ≡ p + 3 = omega arith in
    one ∙ ap (λ xs. get_or room p 0 ∷ xs) two
    ∙ ap (λ xs. get_or room p 0 ∷ get_or room (p + 1) 0 ∷ xs) three
    ∙ rw (a, b, c, same, last) refl

-- the section at a place, by its length alone
section_is : (octets : List ℕ) (shortest p : ℕ) (fault : Refused) → 3 ≤ shortest
    → section_at shortest fault (from octets p) ≡ cond (no_section octets shortest p) (Err fault)
    (Ok (behind octets p, from octets (p + length_at octets p)))
section_is octets shortest p fault least = by_room (nat_lt (room_end octets) (p + 3)) refl
  where
    by_room : (b : Bool) → nat_lt (room_end octets) (p + 3) ≡ b
        → section_at shortest fault (from octets p)
        ≡ cond (b || nat_lt (length_at octets p) shortest || nat_lt (room_end octets)
        (p + length_at octets p)) (Err fault)
        (Ok (behind octets p, from octets (p + length_at octets p)))
    by_room true e =
        let short = ltb-true _ _ e in
        short_room shortest fault (from octets p)
        (omega (arith, room_length octets, length-drop p (take (room_end octets) octets)))
    by_room false e =
        let inside = ltb-false _ _ e in
        let more : length (from octets (p + 3)) ≡ room_end octets - (p + 3) =
        omega
        (arith, room_length octets, length-drop (p + 3) (take (room_end octets) octets)) in
        let past : nat_lt (3 + length (from octets (p + 3))) (length_at octets p)
        ≡ nat_lt (room_end octets) (p + length_at octets p) =
        same_lt (3 + length (from octets (p + 3))) (length_at octets p) (room_end octets)
        (p + length_at octets p) (λ h. omega arith) (λ h. omega arith) in
        rw (room_three octets p inside)
        (long_room shortest fault (octet_at octets p) (octet_at octets (p + 1))
        (octet_at octets (p + 2)) (from octets (p + 3))
        (from octets (p + length_at octets p)) _ past
        (λ enough. drop-drop (length_at octets p - 3) (p + 3) (take (room_end octets) octets)
        ∙ ap (λ n. drop n (take (room_end octets) octets)) (omega arith)))

-- ---- each section

description_is : (xs : List ℕ) → 4 ≤ length xs → (d : Description) × (description_of xs ≡ Ok d)
unfolding description_of
description_is (ignored ∷ n1 ∷ n2 ∷ flags ∷ list) long = (
  record {
    count = two n1 n2;
    observed = nat_le 128 flags;
    compressed = flags / 64 % 2 == 1;
    descriptors = descriptors_of list;
  },
  refl,
)
description_is _ long = absurd (omega arith)

local_is : (announced : Bool) (octets : List ℕ) (p : ℕ)
    → (local : Option (List ℕ)) × (section2_at announced (from octets p)
    ≡ cond (announced && no_section octets 4 p) (Err Section2Length)
    (Ok (local, from octets (if announced then p + length_at octets p else p))))
local_is false octets p = (None, refl)
local_is true octets p = (
  Some (drop 1 (behind octets p)),
  rw (section_is octets 4 p Section2Length (omega arith)) (by_test (no_section octets 4 p)),
)
  where
    by_test : (b : Bool)
        →
        (cond {A = Result (List ℕ × List ℕ) Refused} b (Err Section2Length)
        (Ok (behind octets p, from octets (p + length_at octets p))) >>= λ found. Ok
        (Some (drop 1 found.0), found.1))
        ≡ cond {A = Result (Option (List ℕ) × List ℕ) Refused} b (Err Section2Length)
        (Ok (Some (drop 1 (behind octets p)), from octets (p + length_at octets p)))
    by_test true = refl
    by_test false = refl

behind_length : (octets : List ℕ) (shortest p : ℕ) → no_section octets shortest p ≡ false
    → (shortest ≤ 3 + length (behind octets p)) × (p + length_at octets p ≤ room_end octets)
    × (shortest ≤ length_at octets p)
behind_length octets shortest p there =
    let t =
    none_of (nat_lt (room_end octets) (p + 3)) (nat_lt (length_at octets p) shortest)
    (nat_lt (room_end octets) (p + length_at octets p)) there in
    let inside = ltb-false _ _ t.0 in
    let long = ltb-false _ _ t.1 in
    let within = ltb-false _ _ t.2 in (
      omega (
        arith,
        length-take (length_at octets p - 3) (from octets (p + 3)),
        length-drop (p + 3) (take (room_end octets) octets),
        room_length octets,
      ),
      within,
      long,
    )

behind_at : (octets : List ℕ) (p i : ℕ) → p + length_at octets p ≤ room_end octets
    → i + 3 < length_at octets p → get_or (behind octets p) i 0 ≡ octet_at octets (p + 3 + i)
behind_at octets p i inside h =
    get_or-take (length_at octets p - 3) (from octets (p + 3)) i 0 (omega arith)
    ∙ get_or-drop (p + 3) (take (room_end octets) octets) i 0
    ∙ get_or-take (room_end octets) octets (p + 3 + i) 0 (omega arith)

head_here : (layout : Layout) (octets : List ℕ) → no_section octets (shortest1 layout) 8 ≡ false
    → (h : Head) × (head_of layout (behind octets 8)
    ≡ cond (octet_at octets 11 == 0) (Ok (h, announces_section2 layout octets))
    (Err (MasterTable (octet_at octets 11))))
head_here Edition4 octets there =
    let l = behind_length octets 22 8 there in
    let master : get_or (behind octets 8) 0 0 ≡ octet_at octets 11 =
    behind_at octets 8 0 l.1 (omega (arith, l.2)) in
    let flags : get_or (behind octets 8) 6 0 ≡ octet_at octets 17 =
    behind_at octets 8 6 l.1 (omega (arith, l.2)) in (
      head4_with (behind octets 8) (drop 19 (behind octets 8)),
      head_is (behind octets 8) (omega (arith, l.0)) ∙ rw (master, flags) refl,
    )
head_here Edition3 octets there =
    let l = behind_length octets 17 8 there in
    let master : get_or (behind octets 8) 0 0 ≡ octet_at octets 11 =
    behind_at octets 8 0 l.1 (omega (arith, l.2)) in
    let flags : get_or (behind octets 8) 4 0 ≡ octet_at octets 15 =
    behind_at octets 8 4 l.1 (omega (arith, l.2)) in (
      head3_with (behind octets 8) (drop 14 (behind octets 8)),
      head3_is (behind octets 8) (omega (arith, l.0)) ∙ rw (master, flags) refl,
    )

least_is : (layout : Layout) → 3 ≤ shortest1 layout
least_is Edition4 = omega arith
least_is Edition3 = omega arith

last_then : {B : Type 0} (octets : List ℕ) (p : ℕ) (f : List ℕ → Result B Refused)
    → ((c : List ℕ) → fault_of (f c) ≡ None)
    → fault_of (section_at 4 Section4Length (from octets p) >>= λ four. contents_of four >>= f)
    ≡ cond (no_section octets 4 p || not (p + length_at octets p == room_end octets))
    (Some Section4Length) None
last_then {B} octets p f ends =
    rw (section_is octets 4 p Section4Length (omega arith)) (by_test (no_section octets 4 p) refl)
  where
    by_room : (b : Bool)
        → fault_of (cond b (Ok (drop 1 (behind octets p))) (Err Section4Length) >>= f)
        ≡ cond (not b) (Some Section4Length) None
    by_room true = ends (drop 1 (behind octets p))
    by_room false = refl

    by_test : (b : Bool) → no_section octets 4 p ≡ b
        → fault_of
        (cond b (Err Section4Length)
        (Ok (
          behind octets p,
          from octets (p + length_at octets p),
        )) >>= λ four. contents_of four >>= f)
        ≡ cond (b || not (p + length_at octets p == room_end octets)) (Some Section4Length) None
    by_test true e = refl
    by_test false e =
        let l = behind_length octets 4 p e in
        let left : length (from octets (p + length_at octets p))
        ≡ room_end octets - (p + length_at octets p) =
        omega (
          arith,
          length-drop (p + length_at octets p) (take (room_end octets) octets),
          room_length octets,
        ) in
        let same : (length (from octets (p + length_at octets p)) == 0)
        ≡ (p + length_at octets p == room_end octets) =
        same_eq (length (from octets (p + length_at octets p))) 0 (p + length_at octets p)
        (room_end octets) (λ h. omega (arith, l.1)) (λ h. omega arith) in
        rw same (by_room (p + length_at octets p == room_end octets))

-- ---- the sections together

-- the causes of sections 1 to 4
abbrev later : Layout → List ℕ → List Cause
later layout octets = drop 2 (causes_in (Some layout) octets)

-- the fault of the sections is the first cause after M4
sections_fault : (layout : Layout) (octets : List ℕ)
    → fault_of (sections_of layout (from octets 8)) ≡ first (later layout octets)
unfolding sections_of
sections_fault layout octets =
    tested_then (section_at (shortest1 layout) Section1Length (from octets 8)) _
    (no_section octets (shortest1 layout) 8) Section1Length
    (behind octets 8, from octets (place2 octets)) (drop 1 (later layout octets))
    (section_is octets (shortest1 layout) 8 Section1Length (least_is layout))
    (λ there. let h = head_here layout octets there in
    passed_then (head_of layout (behind octets 8)) _ (octet_at octets 11 == 0)
    (MasterTable (octet_at octets 11)) (h.0, announces_section2 layout octets)
    (drop 2 (later layout octets))
    h.1
    (λ meteorology. let local = local_is (announces_section2 layout octets) octets
    (place2 octets) in
    tested_then (section2_at (announces_section2 layout octets) (from octets (place2 octets))) _
    (announces_section2 layout octets && no_section octets 4 (place2 octets)) Section2Length
    (local.0, from octets (place3 layout octets)) (drop 3 (later layout octets))
    local.1
    (λ there2. tested_then (section_at 9 Section3Length (from octets (place3 layout octets))) _
    (no_section octets 9 (place3 layout octets)) Section3Length
    (behind octets (place3 layout octets), from octets (place4 layout octets))
    (drop 4 (later layout octets))
    (section_is octets 9 (place3 layout octets) Section3Length (omega arith))
    (λ there3. let l3 = behind_length octets 9 (place3 layout octets) there3 in
    let d = description_is (behind octets (place3 layout octets)) (omega (arith, l3.0)) in
    found_then (description_of (behind octets (place3 layout octets))) _ d.0
    (drop 4 (later layout octets)) d.1
    (last_then octets (place4 layout octets) _ (λ c. refl))))))

with_layout : {A B : Type 0} (layout : Layout) (x : Result A Refused)
    (f : Layout × A → Result B Refused)
    → ((x >>= λ a. Ok (layout, a)) >>= f) ≡ (x >>= λ a. f (layout, a))
with_layout layout (Ok a) f = refl
with_layout layout (Err fault) f = refl

-- the sections of a room, by its layout
abbrev by_layout : Layout × List ℕ → Result Envelope Refused
by_layout found = sections_of found.0 found.1

room_fault : (b u f r l1 l2 l3 edition : ℕ) (rest : List ℕ) (layout : Layout)
    → fault_of (room_in (three l1 l2 l3) rest >>= λ room. sections_of layout room)
    ≡ first (causes_in (Some layout) (b ∷ u ∷ f ∷ r ∷ l1 ∷ l2 ∷ l3 ∷ edition ∷ rest))
unfolding room_in
room_fault b u f r l1 l2 l3 edition rest layout =
    let octets : List ℕ = b ∷ u ∷ f ∷ r ∷ l1 ∷ l2 ∷ l3 ∷ edition ∷ rest in
    let whole : 8 + length rest ≡ length octets = omega arith in
    tested_bind (not (three l1 l2 l3 == 8 + length rest)) _ TotalLength _ (sections_of layout)
    (drop 1 (causes_in (Some layout) octets)) (ap (λ n. not (three l1 l2 l3 == n)) whole)
    (λ declared. let total : three l1 l2 l3
    ≡ 8 + length rest = eqb-true _ _ (not_false _ declared) in
    let end : 4 ≤ length rest → drop (length rest - 4) rest ≡ drop (room_end octets) octets =
    λ h. drop-drop (length rest - 4) 8 octets ∙ ap (λ n. drop n octets) (omega arith) in
    tested_bind
    (nat_lt (length rest) 4 || not
    (bytes_eq (drop (length rest - 4) rest) (codes "7777"))) _ NoEnd _ (sections_of layout)
    (later layout octets)
    (same_or (nat_lt (length rest) 4) (nat_lt (length_at octets 4) 12) _ _
    (same_lt (length rest) 4 (length_at octets 4) 12 (λ h. omega arith) (λ h. omega arith))
    (λ h. ap (λ (xs : List ℕ). not (bytes_eq xs (codes "7777"))) (end (ltb-false _ _ h))))
    (λ ended. let enough : 4 ≤ length rest = ltb-false _ _
    (or_first (nat_lt (length rest) 4) _ ended) in
    let before_end : 8 + (length rest - 4) ≡ room_end octets = omega arith in
    let room : take (length rest - 4) rest ≡ from octets 8 =
    sym (drop-take 8 (length rest - 4) octets) ∙ ap (λ n. drop 8 (take n octets)) before_end in
    ap (λ (xs : List ℕ). fault_of (sections_of layout xs)) room ∙ sections_fault layout octets))

edition_fault : (b u f r l1 l2 l3 edition : ℕ) (rest : List ℕ) (layout : Option Layout)
    → fault_of ((layout_or edition layout >>= λ layout. room_in (three l1 l2 l3) rest >>= λ room. Ok
    (layout, room)) >>= by_layout) ≡ first (causes_in layout
    (b ∷ u ∷ f ∷ r ∷ l1 ∷ l2 ∷ l3 ∷ edition ∷ rest))
edition_fault b u f r l1 l2 l3 edition rest None = refl
edition_fault b u f r l1 l2 l3 edition rest (Some layout) =
    ap fault_of (with_layout layout (room_in (three l1 l2 l3) rest) by_layout)
    ∙ room_fault b u f r l1 l2 l3 edition rest layout

start_fault : (b u f r l1 l2 l3 edition : ℕ) (rest : List ℕ)
    → fault_of (envelope_of (b ∷ u ∷ f ∷ r ∷ l1 ∷ l2 ∷ l3 ∷ edition ∷ rest))
    ≡ first (causes (b ∷ u ∷ f ∷ r ∷ l1 ∷ l2 ∷ l3 ∷ edition ∷ rest))
unfolding envelope_of causes room_of
start_fault b u f r l1 l2 l3 edition rest =
    let octets : List ℕ = b ∷ u ∷ f ∷ r ∷ l1 ∷ l2 ∷ l3 ∷ edition ∷ rest in
    let long : nat_lt (length octets) 8 ≡ false = le-ltb _ _ (omega arith) in
    tested_bind (not (bytes_eq (b ∷ u ∷ f ∷ r ∷ []) (codes "BUFR"))) _ NotBufr _ by_layout
    (causes_in (layout_of edition) octets) (rw long refl)
    (λ bufr. edition_fault b u f r l1 l2 l3 edition rest (layout_of edition))

-- the fault of reading is the first cause
envelope_fault : (octets : List ℕ) → fault_of (envelope_of octets) ≡ first (causes octets)
unfolding envelope_of causes room_of
envelope_fault (b ∷ u ∷ f ∷ r ∷ l1 ∷ l2 ∷ l3 ∷ edition ∷ rest) =
    start_fault b u f r l1 l2 l3 edition rest
envelope_fault _ = refl

is_refused : {A : Type 0} (x : Result A Refused) (fault : Refused) → fault_of x ≡ Some fault
    → x ≡ Err fault
is_refused (Ok v) fault e = absurd cc
is_refused (Err other) fault e = let same : other ≡ fault = cc in ap (λ f. Err f) same

pub refused_gives_first : (octets : List ℕ) (fault : Refused) → envelope_of octets ≡ Err fault
    → IsFirstRefusal octets fault
refused_gives_first octets fault e =
    first_takes (causes octets) fault (sym (envelope_fault octets) ∙ ap fault_of e)

pub first_is_answered : (octets : List ℕ) (fault : Refused) → IsFirstRefusal octets fault
    → envelope_of octets ≡ Err fault
first_is_answered octets fault s =
    is_refused (envelope_of octets) fault
    (envelope_fault octets ∙ ap first s.2 ∙ first_gives s.0 s.1 fault s.3)

-- ---- the faults of sections are M1 to M9

among : (g : Refused) (b : Bool) (cs : List Cause) (f : Refused) → is_of_sections g ≡ true
    → cond b (Some g) (first cs) ≡ Some f → (first cs ≡ Some f → is_of_sections f ≡ true)
    → is_of_sections f ≡ true
among g true cs f of e more = let same : g ≡ f = cc in ap is_of_sections (sym same) ∙ of
among g false cs f of e more = more e

first_among : (cs : List Cause) (f : Refused) → AllByRecursion (λ c. is_of_sections c.0 ≡ true) cs
    → first cs ≡ Some f → is_of_sections f ≡ true
first_among [] f all e = absurd cc
first_among (c ∷ cs) f all e = among c.0 c.1 cs f all.0 e (first_among cs f all.1)

pub of_sections : (octets : List ℕ) (fault : Refused) → envelope_of octets ≡ Err fault
    → is_of_sections fault ≡ true
unfolding causes
of_sections octets fault e =
    first_among (causes octets) fault (refl, of_layout (layout_of (octet_at octets 7)))
    (sym (envelope_fault octets) ∙ ap fault_of e)
  where
    of_layout : (layout : Option Layout)
        → AllByRecursion (λ (c : Cause). is_of_sections c.0 ≡ true) (causes_in layout octets)
    of_layout None = (refl, tt)
    of_layout (Some layout) = (refl, (refl, (refl, (refl, (refl, (refl, (refl, tt)))))))

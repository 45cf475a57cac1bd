-- The column written is a column, and of numbers the shortest.
use Rattle.std.proofs.Common.{◌≡◌, ℕ, zero, suc, ◌+◌, ◌-◌, ◌*◌, ◌/◌, ◌^◌, ◌<◌, ◌≤◌, Bool, true}
use Rattle.std.proofs.Common.{false, cond, List, [], ◌∷◌, ◌++◌, length, map, replicate, refl, sym}
use Rattle.std.proofs.Common.{ap, subst, ◌∙◌, arith, length-append, inl, inr}
use Rattle.std.specs.Prelude.{◌==◌, ◌&&◌, ◌||◌, not, nat_le, min, max}
use Rattle.std.specs.List.{AllByRecursion, flat_map, list_all}
use Rattle.std.proofs.lemmas.Bool.{and_parts, cases_lt, le-leb, leb-true, eqb-true, eqb-false}
use Rattle.std.proofs.lemmas.Bool.{eq-eqb}
use Rattle.std.proofs.lemmas.Bool.{not-true}
use Rattle.bufr_bits.specs.Bits.{bin, all_ones}
use Rattle.bufr_bits.specs.BitLaws.{length-bin}
use Rattle.std.proofs.lemmas.Nat.{pow_pos}
use Rattle.std.proofs.lemmas.List.{length-map, length-replicate, append-nil, nil_from_length}
use Rattle.std.proofs.Math.Nat.{min-le_left, min-le_right, le-min, le-max_left, le-max_right}
use Rattle.std.proofs.Math.Nat.{max-le}
use Rattle.std.proofs.Math.Nat.{mul-le-mul_left}
use Rattle.bufr_tables.specs.declared.element.Kind.{Kind}
use Rattle.bufr_tables.specs.declared.element.Kind.TheVariants as kinds
use Rattle.bufr_tables.specs.Elements.{same_kind}
use Rattle.bufr_expand.specs.declared.operators.Spec.{Spec}
use Rattle.bufr_fields.specs.declared.field.Raw.{Raw}
use Rattle.bufr_fields.specs.declared.field.Raw.TheVariants.{Number, Text}
use Rattle.bufr_data.specs.Plain.{raw_bits}
use Rattle.bufr_fields.specs.Forms.{number_of}
use Rattle.bufr_fields.specs.Fits.{HasForm, of_text, of_number}
use Rattle.bufr_data.specs.Compressed.{Pairwise, HasIncrement, HasText, IsColumn, equal}
use Rattle.bufr_data.specs.Compressed.{numbers as number_column, texts as text_column, above, missing}
use Rattle.bufr_data.specs.Compressed.{filled as is_filled, ones as ones_text}
use Rattle.bufr_data.proofs.CompressedFacts.{pairwise_length, ones_of, all_ones_of}
use Rattle.std.proofs.Math.Arith.{lt_of_le-ne}
use Rattle.bufr_bits.specs.NumberLaws.{length-fields}
use Rattle.bufr_data.proofs.KindFacts.{kinds_differ}
use Rattle.bufr_data.proofs.ListFacts.{all_replicated}
use Rattle.bufr_data.proofs.CompressedFacts.Walks.{AllForm, column_form, text_kind, all_equal_is}
use Rattle.bufr_data.proofs.CompressedFacts.Walks.{all_equal_again, are_equal}
use Rattle.bufr_data.specs.Compressed.Reading.{all_equal}
use Rattle.std.proofs.Math.Pow.{pow_mono}
use Rattle.bufr_fields.specs.Increments.{fewest_bits}
use Rattle.bufr_data.specs.Compressed.Best.{present, least_with, least, greatest}
use Rattle.bufr_data.specs.Compressed.Best.{increment_of, best_numbers, best_texts, octets_of}
use Rattle.bufr_data.specs.Compressed.Best.{best_differing, first_bits, best, widest, can_be_column}
use Rattle.bufr_fields.specs.FormLaws.{same_kind_is}

fewest_by : (more k d wide : ℕ) (b : Bool) → (nat_le (d + 2) (2 ^ k)) ≡ b → k ≤ wide
    → d + 2 ≤ 2 ^ wide
    → (k < wide
    → (fewest_bits more (k + 1) d ≤ wide) × (d + 2 ≤ 2 ^ fewest_bits more (k + 1) d)
    × (k + 1 ≤ fewest_bits more (k + 1) d))
    → (cond b k (fewest_bits more (k + 1) d) ≤ wide)
    × (d + 2 ≤ 2 ^ cond b k (fewest_bits more (k + 1) d))
    × (k ≤ cond b k (fewest_bits more (k + 1) d))
fewest_by more k d wide true e le fits after = (le, leb-true _ _ e, omega arith)
fewest_by more k d wide false e le fits after =
    elim (cases_lt k wide) [
      | inl lt ↦ let h = after lt in (h.0, h.1, omega (arith, h.2))
      | inr ge ↦
          let same : wide ≡ k = omega (arith, le, ge) in
          let yes : nat_le (d + 2) (2 ^ k) ≡ true =
          le-leb _ _ (subst (λ n. d + 2 ≤ 2 ^ n) same fits) in
          let bad = sym yes ∙ e in absurd cc
    ]

pub fewest : (more k d wide : ℕ) → k ≤ wide → wide ≤ k + more → d + 2 ≤ 2 ^ wide
    → (fewest_bits more k d ≤ wide) × (d + 2 ≤ 2 ^ fewest_bits more k d)
    × (k ≤ fewest_bits more k d)
unfolding fewest_bits
fewest zero k d wide le room fits =
    let same : wide ≡ k = omega (arith, le, room) in
    (le, subst (λ n. d + 2 ≤ 2 ^ n) same fits, omega arith)
fewest (suc more) k d wide le room fits =
    fewest_by more k d wide _ refl le fits
    (λ lt. fewest more (k + 1) d wide (omega (arith, lt)) (omega (arith, room)) fits)

pub weaken : (P Q : ℕ → Type 0) (ns : List ℕ) → ((n : ℕ) → P n → Q n) → AllByRecursion P ns
    → AllByRecursion Q ns
weaken P Q [] h all = tt
weaken P Q (n ∷ ns) h all = (h n all.0, weaken P Q ns h all.1)

least_with_below : (n : ℕ) (ns : List ℕ) → AllByRecursion (λ m. least_with n ns ≤ m) (n ∷ ns)
least_with_below n [] = (omega arith, tt)
least_with_below n (m ∷ ms) =
    let h = least_with_below n ms in
    let small : min m (least_with n ms) ≤ least_with n ms = min-le_right m (least_with n ms) in
    let others = weaken (λ x. least_with n ms ≤ x) (λ x. min m (least_with n ms) ≤ x) ms
    (λ x le. omega (arith, small, le)) h.1 in
    (omega (arith, small, h.0), (min-le_left m (least_with n ms), others))

pub least_below : (ns : List ℕ) → AllByRecursion (λ m. least ns ≤ m) ns
least_below [] = tt
least_below (n ∷ ns) = least_with_below n ns

pub greatest_above : (ns : List ℕ) → AllByRecursion (λ m. m ≤ greatest ns) ns
greatest_above [] = tt
greatest_above (n ∷ ns) =
    let great : greatest ns ≤ max n (greatest ns) = le-max_right n (greatest ns) in
    let others = weaken (λ m. m ≤ greatest ns) (λ m. m ≤ max n (greatest ns)) ns
    (λ m le. omega (arith, great, le)) (greatest_above ns) in
    (le-max_left n (greatest ns), others)

above_least : (a n : ℕ) (ns : List ℕ) → a ≤ n → AllByRecursion (λ m. a ≤ m) ns → a ≤ least_with n ns
above_least a n [] le all = le
above_least a n (m ∷ ms) le all = le-min all.0 (above_least a n ms le all.1)

pub below_greatest : (b : ℕ) (ns : List ℕ) → AllByRecursion (λ m. m ≤ b) ns → greatest ns ≤ b
below_greatest b [] all = omega arith
below_greatest b (n ∷ ns) all = max-le all.0 (below_greatest b ns all.1)

of_present_by : (width : ℕ) (P : ℕ → Type 0) (n : ℕ) (ns : List ℕ) (b : Bool) → all_ones width n ≡ b
    → AllByRecursion P (cond (not b) (n ∷ present width ns) (present width ns))
    → (all_ones width n ≡ false → P n) × AllByRecursion P (present width ns)
of_present_by width P n ns true e all = ((λ no. let bad = sym e ∙ no in absurd cc), all)
of_present_by width P n ns false e all = ((λ no. all.0), all.1)

pub of_present : (width : ℕ) (P : ℕ → Type 0) (ns : List ℕ) → AllByRecursion P (present width ns)
    → AllByRecursion (λ n. all_ones width n ≡ false → P n) ns
of_present width P [] all = tt
of_present width P (n ∷ ns) all =
    let h = of_present_by width P n ns _ refl all in (h.0, of_present width P ns h.1)

to_present_by : (width : ℕ) (P : ℕ → Type 0) (n : ℕ) (ns : List ℕ) (b : Bool) → all_ones width n ≡ b
    → (all_ones width n ≡ false → P n) → AllByRecursion P (present width ns)
    → AllByRecursion P (cond (not b) (n ∷ present width ns) (present width ns))
to_present_by width P n ns true e each all = all
to_present_by width P n ns false e each all = (each e, all)

pub to_present : (width : ℕ) (P : ℕ → Type 0) (ns : List ℕ)
    → AllByRecursion (λ n. all_ones width n ≡ false → P n) ns → AllByRecursion P (present width ns)
to_present width P [] all = tt
to_present width P (n ∷ ns) all =
    to_present_by width P n ns _ refl all.0 (to_present width P ns all.1)

best_one_by : (width minimum k high n : ℕ) (b : Bool) → all_ones width n ≡ b → n < 2 ^ width
    → (all_ones width n ≡ false → (minimum ≤ n) × (n ≤ high)) → high - minimum + 2 ≤ 2 ^ k
    → HasIncrement width minimum k (cond b (2 ^ k - 1) (n - minimum)) (Number n)
best_one_by width minimum k high n true e below between fits =
    let ones : n + 1 ≡ 2 ^ width = eqb-true _ _ e in
    missing (omega (arith, pow_pos k)) (ap (λ m. Number m) (omega (arith, ones)))
best_one_by width minimum k high n false e below between fits =
    let h = between e in
    let back : minimum + (n - minimum) ≡ n = omega (arith, h.0) in
    above (omega (arith, h.0, h.1, fits)) (subst (λ m. m < 2 ^ width) (sym back) below)
    (ap (λ m. Number m) (sym back))

pub best_each : (width minimum k high : ℕ) (ns : List ℕ) → AllByRecursion (λ n. n < 2 ^ width) ns
    → AllByRecursion (λ n. all_ones width n ≡ false → (minimum ≤ n) × (n ≤ high)) ns
    → high - minimum + 2 ≤ 2 ^ k
    → Pairwise (HasIncrement width minimum k) (map (increment_of width minimum k) ns)
    (map (λ n. Number n) ns)
best_each width minimum k high [] below between fits = tt
best_each width minimum k high (n ∷ ns) below between fits = (
  best_one_by width minimum k high n _ refl below.0 between.0 fits,
  best_each width minimum k high ns below.1 between.1 fits,
)

pub both : (P Q : ℕ → Type 0) (ns : List ℕ) → AllByRecursion P ns → AllByRecursion Q ns
    → AllByRecursion (λ n. P n × Q n) ns
both P Q [] p q = tt
both P Q (n ∷ ns) p q = ((p.0, q.0), both P Q ns p.1 q.1)

pub least_fits : (width : ℕ) (ns : List ℕ) → AllByRecursion (λ n. n < 2 ^ width) ns
    → least ns < 2 ^ width
least_fits width [] all = pow_pos width
least_fits width (n ∷ ns) all = omega (arith, (least_below (n ∷ ns)).0, all.0)

size_of_head : (width minimum k : ℕ) → length (bin width minimum ++ bin 6 k) ≡ width + 6
size_of_head width minimum k =
    length-append (bin width minimum) (bin 6 k)
    ∙ (λ i. length-bin width minimum i + length-bin 6 k i)

size_of_column : (width minimum k n : ℕ) (increments : List ℕ) → length increments ≡ n
    → length (bin width minimum ++ bin 6 k ++ flat_map (bin k) increments) ≡ width + 6 + n * k
size_of_column width minimum k n increments many =
    length-append (bin width minimum ++ bin 6 k) (flat_map (bin k) increments)
    ∙ (λ i. size_of_head width minimum k i
    + (length-fields k increments ∙ ap (λ l. l * k) many) i)

-- how the minimum and the width of the best column of numbers fit its increments
pub record BestParts (width : ℕ) (ns : List ℕ) (wide minimum k : ℕ) : Type 0 where
  pub below : minimum < 2 ^ width
  pub few : k ≤ wide
  pub some : 1 ≤ k
  pub each : Pairwise (HasIncrement width minimum k) (map (increment_of width minimum k) ns)
      (map (λ n. Number n) ns)

pub best_parts : (width : ℕ) (ns : List ℕ) (wide : ℕ) → AllByRecursion (λ n. n < 2 ^ width) ns
    → 1 ≤ wide → wide < 64 → greatest (present width ns) - least (present width ns) + 2 ≤ 2 ^ wide
    → BestParts width ns wide (least (present width ns))
    (fewest_bits 63 1 (greatest (present width ns) - least (present width ns)))
best_parts width ns wide below some short fits =
    let here = present width ns in
    let minimum = least here in
    let k = fewest_bits 63 1 (greatest here - minimum) in
    let h = fewest 63 1 (greatest here - minimum) wide some (omega (arith, short)) fits in
    let between = of_present width (λ n. (minimum ≤ n) × (n ≤ greatest here)) ns
    (both (λ n. minimum ≤ n) (λ n. n ≤ greatest here) here (least_below here)
    (greatest_above here)) in
    let inside = to_present width (λ n. n < 2 ^ width) ns
    (weaken (λ n. n < 2 ^ width) (λ n. all_ones width n ≡ false → n < 2 ^ width) ns
    (λ n lt no. lt) below) in
    record {
      below = least_fits width here inside;
      few = h.0;
      some = h.2;
      each = best_each width minimum k (greatest here) ns below between h.1;
    }

-- the best column of numbers, if the differences fit in `wide` bits
pub record BestFound (spec : Spec) (ns : List ℕ) (wide : ℕ) : Type 0 where
  pub column : IsColumn spec (map (λ n. Number n) ns) (best_numbers spec.width ns)
  pub narrow : length (best_numbers spec.width ns) ≤ spec.width + 6 + length ns * wide

pub best_found : (spec : Spec) (ns : List ℕ) (wide : ℕ) → (spec.kind ≡ kinds.Text → ⊥)
    → spec.width ≤ 64 → AllByRecursion (λ n. n < 2 ^ spec.width) ns → 1 ≤ wide → wide < 64
    → greatest (present spec.width ns) - least (present spec.width ns) + 2 ≤ 2 ^ wide
    → BestFound spec ns wide
best_found spec ns wide other few below some short fits =
    let here = present spec.width ns in
    let minimum = least here in
    let k = fewest_bits 63 1 (greatest here - minimum) in
    let parts = best_parts spec.width ns wide below some short fits in
    let form = of_number minimum other few parts.below in
    let increments = map (increment_of spec.width minimum k) ns in
    let many : length increments ≡ length ns = length-map ns (increment_of spec.width minimum k) in
    let size = size_of_column spec.width minimum k (length ns) increments many in
    let more : length ns * k ≤ length ns * wide = mul-le-mul_left (length ns) parts.few in
    record {
      column = number_column minimum k increments form (omega (arith, parts.some))
          (omega (arith, parts.few, short)) parts.each refl;
      narrow = subst (λ l. l ≤ spec.width + 6 + length ns * wide) (sym size) (omega (arith, more));
    }

pub number_back : (spec : Spec) (v : Raw) → (spec.kind ≡ kinds.Text → ⊥) → HasForm spec v
    → (Number (number_of v) ≡ v) × (number_of v < 2 ^ spec.width) × (spec.width ≤ 64)
    × (length (raw_bits spec.width v) ≡ spec.width)
number_back spec v other (of_text os is size all) = absurd (other is)
number_back spec v other (of_number n kind few below) =
    (refl, below, few, length-bin spec.width n)

column_wide : (spec : Spec) (values : List Raw) (column : List Bool) → (spec.kind ≡ kinds.Text → ⊥)
    → IsColumn spec values column → spec.width + 6 ≤ length column
column_wide spec values column other (equal minimum form same is) =
    omega (
      arith,
      ap length is,
      length-append (raw_bits spec.width minimum)
          (bin 6 0),
      length-bin 6 0,
      (number_back spec minimum other form).3,
    )
column_wide spec values column other (number_column minimum k increments form one few each is) =
    omega (
      arith,
      ap length is,
      length-append (bin spec.width minimum ++ bin 6 k) (flat_map (bin k) increments),
      size_of_head spec.width minimum k,
    )
column_wide spec values column other (text_column ignored k own form one few short each is) =
    absurd (other (text_kind spec ignored form))

numbers_back : (spec : Spec) (values : List Raw) → (spec.kind ≡ kinds.Text → ⊥)
    → AllForm spec values
    → (map (λ n. Number n) (map number_of values) ≡ values)
    × AllByRecursion (λ n. n < 2 ^ spec.width) (map number_of values)
numbers_back spec [] other all = (refl, tt)
numbers_back spec (v ∷ vs) other all =
    let first = number_back spec v other all.0 in
    let rest = numbers_back spec vs other all.1 in
    ((λ i. first.0 i ∷ rest.0 i), (first.1, rest.1))

numbers_narrow : (spec : Spec) (values : List Raw) → (spec.kind ≡ kinds.Text → ⊥)
    → 0 < length values → AllForm spec values → spec.width ≤ 64
numbers_narrow spec [] other some all = absurd (omega (arith, some))
numbers_narrow spec (v ∷ vs) other some all = (number_back spec v other all.0).2

pub differing_is : (kind : Kind) (width : ℕ) (values : List Raw) → (kind ≡ kinds.Text → ⊥)
    → best_differing kind width values ≡ best_numbers width (map number_of values)
differing_is kinds.Text width values other = absurd (other refl)
differing_is kinds.Code width values other = refl
differing_is kinds.Flag width values other = refl
differing_is kinds.Quantity width values other = refl
differing_is kinds.Count width values other = refl

best_equal : (spec : Spec) (values : List Raw) → 0 < length values → AllForm spec values
    → all_equal values ≡ true → IsColumn spec values (first_bits spec.width values ++ bin 6 0)
best_equal spec [] some all same = absurd (omega (arith, some))
best_equal spec (v ∷ vs) some all same = equal v all.0 (refl, are_equal v vs same) refl

differ : (values : List Raw) (v : Raw) → all_equal values ≡ false
    → AllByRecursion (λ w. w ≡ v) values → ⊥
differ values v not_same same =
    let yes = all_equal_again v values same in let bad = sym yes ∙ not_same in cc

not_present : (width : ℕ) → all_ones width (2 ^ width - 1) ≡ true
not_present width = eq-eqb (2 ^ width - 1 + 1) (2 ^ width) (omega (arith, pow_pos width))

present_one : (width minimum k x : ℕ) (v : Raw) → HasIncrement width minimum k x v
    → all_ones width (number_of v) ≡ false
    → (minimum ≤ number_of v) × (number_of v ≤ minimum + 2 ^ k - 2)
present_one width minimum k x v (above below room is) here =
    let n : number_of v ≡ minimum + x =
    ap number_of is in (omega (arith, n), omega (arith, n, below))
present_one width minimum k x v (missing ones is) here =
    let n : number_of v ≡ 2 ^ width - 1 = ap number_of is in
    let yes : all_ones width (number_of v) ≡ true = ap (all_ones width) n ∙ not_present width in
    let bad = sym yes ∙ here in absurd cc

present_each : (width minimum k : ℕ) (xs : List ℕ) (vs : List Raw)
    → Pairwise (HasIncrement width minimum k) xs vs
    → AllByRecursion (λ n. all_ones width n ≡ false → (minimum ≤ n) × (n ≤ minimum + 2 ^ k - 2))
    (map number_of vs)
present_each width minimum k [] [] h = tt
present_each width minimum k (x ∷ xs) (v ∷ vs) h =
    (present_one width minimum k x v h.0, present_each width minimum k xs vs h.1)
present_each width minimum k [] (v ∷ vs) h = absurd h
present_each width minimum k (x ∷ xs) [] h = absurd h

differences : (minimum k : ℕ) (ns : List ℕ) → 0 < k
    → AllByRecursion (λ n. (minimum ≤ n) × (n ≤ minimum + 2 ^ k - 2)) ns
    → greatest ns - least ns + 2 ≤ 2 ^ k
differences minimum k [] some all = let two : 2 ^ 1 ≤ 2 ^ k = pow_mono some in omega (arith, two)
differences minimum k (n ∷ ns) some all =
    let two : 2 ^ 1 ≤ 2 ^ k = pow_mono some in
    let low : minimum ≤ least (n ∷ ns) =
    above_least minimum n ns all.0.0
    (weaken (λ n. (minimum ≤ n) × (n ≤ minimum + 2 ^ k - 2)) (λ m. minimum ≤ m) ns
    (λ m h. h.0) all.1) in
    let high : greatest (n ∷ ns) ≤ minimum + 2 ^ k - 2 =
    below_greatest (minimum + 2 ^ k - 2) (n ∷ ns)
    (weaken (λ n. (minimum ≤ n) × (n ≤ minimum + 2 ^ k - 2)) (λ m. m ≤ minimum + 2 ^ k - 2)
    (n ∷ ns) (λ m h. h.1) all) in
    omega (arith, two, low, high)

-- the best column is a column, and at most as long as another
abbrev pub IsBest : Spec → List Raw → List Bool → List Bool → Type 0
IsBest spec values best column = IsColumn spec values best × (length best ≤ length column)

fewest_by_kind : (spec : Spec) (values : List Raw) (minimum k : ℕ) (increments : List ℕ)
    (column : List Bool) → (spec.kind ≡ kinds.Text → ⊥) → 0 < length values → AllForm spec values
    → 0 < k → k < 64 → Pairwise (HasIncrement spec.width minimum k) increments values
    → column ≡ bin spec.width minimum ++ bin 6 k ++ flat_map (bin k) increments
    → IsBest spec values (best_differing spec.kind spec.width values) column
fewest_by_kind spec values minimum k increments column other some all one few each is =
    let ns = map number_of values in
    let back = numbers_back spec values other all in
    let inside =
    to_present spec.width (λ n. (minimum ≤ n) × (n ≤ minimum + 2 ^ k - 2)) ns
    (present_each spec.width minimum k increments values each) in
    let found =
    best_found spec ns k other (numbers_narrow spec values other some all) back.1 one few
    (differences minimum k (present spec.width ns) one inside) in
    let many : length increments ≡ length ns =
    pairwise_length _ increments values each ∙ sym (length-map values number_of) in
    let size = size_of_column spec.width minimum k (length ns) increments many in
    let same = differing_is spec.kind spec.width values other in
    subst (λ b. IsBest spec values b column) (sym same) (
      subst (λ vs. IsColumn spec vs (best_numbers spec.width ns)) back.0 found.column,
      subst (λ l. length (best_numbers spec.width ns) ≤ l)
          (sym (ap length is ∙ size)) found.narrow,
    )

equal_narrow : (spec : Spec) (values : List Raw) (column : List Bool) → (spec.kind ≡ kinds.Text → ⊥)
    → 0 < length values → AllForm spec values → IsColumn spec values column
    → length (first_bits spec.width values ++ bin 6 0) ≤ length column
equal_narrow spec [] column other some all c = absurd (omega (arith, some))
equal_narrow spec (v ∷ vs) column other some all c =
    omega (
      arith,
      length-append (raw_bits spec.width v) (bin 6 0),
      length-bin 6 0,
      (number_back spec v other all.0).3,
      column_wide spec (v ∷ vs) column other c,
    )

best_fewest_by : (spec : Spec) (values : List Raw) (column : List Bool) (b : Bool)
    → all_equal values ≡ b → (spec.kind ≡ kinds.Text → ⊥) → 0 < length values
    → IsColumn spec values column
    → IsBest spec values
    (cond b (first_bits spec.width values ++ bin 6 0)
    (best_differing spec.kind spec.width values)) column
best_fewest_by spec values column true e other some c =
    let all =
    column_form spec values column c in
    (best_equal spec values some all e, equal_narrow spec values column other some all c)
best_fewest_by spec values column false e other some (equal minimum form same is) =
    absurd (differ values minimum e same)
best_fewest_by spec values column false e other some
    (number_column minimum k increments form one few each is) =
    fewest_by_kind spec values minimum k increments column other some
    (column_form spec values column
    (number_column minimum k increments form one few each is)) one few each is
best_fewest_by spec values column false e other some
    (text_column ignored k own form one few short each is) = absurd
    (other (text_kind spec ignored form))

pub best_fewest : (spec : Spec) (values : List Raw) (column : List Bool)
    → (spec.kind ≡ kinds.Text → ⊥) → 0 < length values → IsColumn spec values column
    → IsColumn spec values (best spec values) × (length (best spec values) ≤ length column)
best_fewest spec values column other some c = best_fewest_by spec values column _ refl other some c

text_of_form : (spec : Spec) (v : Raw) → spec.kind ≡ kinds.Text → HasForm spec v
    → (v ≡ Text (octets_of v)) × (length (octets_of v) ≡ spec.width / 8)
    × AllByRecursion (λ x. x < 256) (octets_of v)
text_of_form spec v is (of_text os kind size all) = (refl, size, all)
text_of_form spec v is (of_number n other few below) = absurd (other is)

whole_text_by : (octets : ℕ) (os : List ℕ) (b : Bool) → list_all (λ x. x == 255) os ≡ b
    → length os ≡ octets → AllByRecursion (λ x. x < 256) os → HasText octets octets os (Text os)
whole_text_by octets os true e size all =
    let ones : os ≡ replicate octets 255 = ones_of os e ∙ ap (λ n. replicate n 255) size in
    ones_text ones (ap (λ xs. Text xs) ones)
whole_text_by octets os false e size all =
    let none : octets - octets ≡ 0 = omega arith in
    let alone : os ++ replicate (octets - octets) 32 ≡ os =
    ap (λ n. os ++ replicate n 32) none ∙ append-nil os in
    is_filled size all
    (λ is. let yes : list_all (λ x. x == 255) os ≡ true = ap (list_all (λ x. x == 255)) is
    ∙ all_ones_of octets in let bad = sym yes ∙ e in cc) (ap (λ xs. Text xs) (sym alone))

whole_texts : (spec : Spec) (values : List Raw) → spec.kind ≡ kinds.Text → AllForm spec values
    → Pairwise (HasText (spec.width / 8) (spec.width / 8)) (map octets_of values) values
whole_texts spec [] is all = tt
whole_texts spec (v ∷ vs) is all =
    let h = text_of_form spec v is all.0 in (
      subst (λ w. HasText (spec.width / 8) (spec.width / 8) (octets_of v) w) (sym h.0)
          (whole_text_by (spec.width / 8) (octets_of v) _ refl h.1 h.2),
      whole_texts spec vs is all.1,
    )

no_texts : (spec : Spec) (values : List Raw) → spec.kind ≡ kinds.Text → spec.width / 8 ≡ 0
    → AllForm spec values → AllByRecursion (λ w. w ≡ Text []) values
no_texts spec [] is none all = tt
no_texts spec (v ∷ vs) is none all =
    let h = text_of_form spec v is all.0 in (
      h.0 ∙ ap (λ os. Text os) (nil_from_length (octets_of v) (h.1 ∙ none)),
      no_texts spec vs is none
          all.1,
    )

some_octets : (spec : Spec) (values : List Raw) → spec.kind ≡ kinds.Text → all_equal values ≡ false
    → AllForm spec values → 0 < spec.width / 8
some_octets spec values is e all =
    elim (cases_lt 0 (spec.width / 8)) [
      | inl lt ↦ lt
      | inr ge ↦
          absurd (differ values (Text []) e (no_texts spec values is (omega (arith, ge)) all))
    ]

pub differing_texts : (kind : Kind) (width : ℕ) (values : List Raw) → kind ≡ kinds.Text
    → best_differing kind width values ≡ best_texts (width / 8) (map octets_of values)
differing_texts kind width values is = ap (λ k. best_differing k width values) is

best_of_texts : (spec : Spec) (values : List Raw) → spec.kind ≡ kinds.Text
    → all_equal values ≡ false → AllForm spec values → spec.width / 8 ≤ 63
    → IsColumn spec values (best_differing spec.kind spec.width values)
best_of_texts spec values is e all short =
    let zeros = all_replicated (λ x. x < 256) (spec.width / 8) 0 (omega arith) in
    let form = of_text (replicate (spec.width / 8) 0) is (length-replicate _ _) zeros in
    text_column (replicate (spec.width / 8) 0) (spec.width / 8) (map octets_of values) form
    (some_octets spec values is e all) (omega (arith, short)) (omega arith)
    (whole_texts spec values is all) (differing_texts spec.kind spec.width values is)

pub narrow_each : (width n : ℕ) → n < 2 ^ width → all_ones width n ≡ false → n + 2 ≤ 2 ^ width
narrow_each width n below e =
    let le : n + 1 ≤ 2 ^ width = omega (arith, below) in
    omega (arith, lt_of_le-ne le (eqb-false (n + 1) (2 ^ width) e))

pub difference_fits : (width : ℕ) (ns : List ℕ) → width ≤ 63
    → AllByRecursion (λ n. n < 2 ^ width) ns
    → greatest (present width ns) - least (present width ns) + 2 ≤ 2 ^ 63
difference_fits width ns short below =
    let wide : 2 ^ width ≤ 2 ^ 63 = pow_mono short in
    let inside = to_present width (λ n. n ≤ 2 ^ width - 2) ns
    (weaken (λ n. n < 2 ^ width) (λ n. all_ones width n ≡ false → n ≤ 2 ^ width - 2) ns
    (λ n lt e. omega (arith, narrow_each width n lt e)) below) in
    let high = below_greatest (2 ^ width - 2) (present width ns) inside in
    omega (arith, wide, high)

best_of_numbers : (spec : Spec) (values : List Raw) → (spec.kind ≡ kinds.Text → ⊥)
    → 0 < length values → AllForm spec values → spec.width ≤ 63
    → IsColumn spec values (best_differing spec.kind spec.width values)
best_of_numbers spec values other some all short =
    let ns = map number_of values in
    let back = numbers_back spec values other all in
    let found = best_found spec ns 63 other (omega (arith, short)) back.1 (omega arith)
    (omega arith)
    (difference_fits spec.width ns short back.1) in
    subst (λ b. IsColumn spec values b) (sym (differing_is spec.kind spec.width values other))
    (subst (λ vs. IsColumn spec vs (best_numbers spec.width ns)) back.0 found.column)

pub or_false : (a b : Bool) → (a || b) ≡ true → a ≡ false → b ≡ true
or_false true b e no_a = absurd cc
or_false false b e no_a = e

best_of_kind : (spec : Spec) (values : List Raw) (text : Bool)
    → same_kind spec.kind kinds.Text ≡ text → 0 < length values → all_equal values ≡ false
    → AllForm spec values → nat_le (cond text (spec.width / 8) spec.width) 63 ≡ true
    → IsColumn spec values (best_differing spec.kind spec.width values)
best_of_kind spec values true is some e all short =
    best_of_texts spec values (same_kind_is spec.kind kinds.Text is) e all (leb-true _ _ short)
best_of_kind spec values false is some e all short =
    best_of_numbers spec values (kinds_differ spec.kind kinds.Text is) some all (leb-true _ _ short)

best_column_by : (spec : Spec) (values : List Raw) (b : Bool) → all_equal values ≡ b
    → 0 < length values → AllForm spec values → can_be_column spec values ≡ true
    → IsColumn spec values
    (cond b (first_bits spec.width values ++ bin 6 0) (best_differing spec.kind spec.width values))
best_column_by spec values true e some all can = best_equal spec values some all e
best_column_by spec values false e some all can =
    let short =
    or_false (all_equal values)
    (not (same_kind spec.kind kinds.Count) && nat_le (widest spec) 63) can e in
    best_of_kind spec values _ refl some e all (and_parts (not (same_kind spec.kind kinds.Count))
    (nat_le (widest spec) 63) short).1

pub best_column : (spec : Spec) (values : List Raw) → 0 < length values → AllForm spec values
    → can_be_column spec values ≡ true → IsColumn spec values (best spec values)
best_column spec values some all can = best_column_by spec values _ refl some all can

one_count_by : (spec : Spec) (values : List Raw) (b : Bool) → all_equal values ≡ b
    → can_be_column spec values ≡ true → spec.kind ≡ kinds.Count
    → (v : Raw) × AllByRecursion (λ w. w ≡ v) values
one_count_by spec values true e can is = all_equal_is values e
one_count_by spec values false e can is =
    let short =
    or_false (all_equal values)
    (not (same_kind spec.kind kinds.Count) && nat_le (widest spec) 63) can e in
    let p = and_parts (not (same_kind spec.kind kinds.Count)) (nat_le (widest spec) 63) short in
    absurd (kinds_differ spec.kind kinds.Count (not-true _ p.0) is)

pub one_count : (spec : Spec) (values : List Raw) → can_be_column spec values ≡ true
    → spec.kind ≡ kinds.Count → (v : Raw) × AllByRecursion (λ w. w ≡ v) values
one_count spec values can is = one_count_by spec values _ refl can is

-- Laws of numbers of one width in a row, for octets and for columns of increments.
use Rattle.std.proofs.Common.{◌≡◌, ℕ, zero, suc, ◌*◌, ◌^◌, ◌<◌, ◌≤◌, Bool, true, false, ltb, List}
use Rattle.std.proofs.Common.{[], ◌∷◌, ◌++◌, length, take, drop, Some, refl, sym, ap, subst, ◌∙◌}
use Rattle.std.proofs.Common.{inl, inr, arith, append_assoc}
use Rattle.std.specs.List.{AllByRecursion, flat_map}
use Rattle.std.proofs.lemmas.Bool.{cases_lt, le-ltb, lt-ltb}
use Rattle.std.proofs.lemmas.List.{take_at, drop_at, take-append-drop, drop-drop, length-take}
use Rattle.std.proofs.lemmas.List.{length-drop, length-append}
use Rattle.bufr_bits.specs.Bits.{bin, number, numbers, numbers_at}
use Rattle.bufr_bits.specs.BitLaws.{length-bin, number-bin, small_mod, number_below, bin-number}
use Rattle.bufr_bits.specs.BitLaws.{some_is}

-- `numbers n` has n numbers
pub length-numbers : (n width : ℕ) (text : List Bool) → length (numbers n width text) ≡ n
unfolding numbers
length-numbers zero width text = refl
length-numbers (suc n) width text = ap suc (length-numbers n width (drop width text))

-- the length of the fields of numbers of one width
pub length-fields : (width : ℕ) (xs : List ℕ) → length (flat_map (bin width) xs) ≡ length xs * width
length-fields width [] = omega arith
length-fields width (x ∷ xs) =
    let both = length-append (bin width x) (flat_map (bin width) xs) in
    omega (arith, both, length-bin width x, length-fields width xs)

-- numbers that fit their width are read from their fields, whatever follows
pub numbers-fields : (width : ℕ) (xs : List ℕ) (rest : List Bool)
    → AllByRecursion (λ x. x < 2 ^ width) xs
    → numbers (length xs) width (flat_map (bin width) xs ++ rest) ≡ xs
unfolding numbers
numbers-fields width [] rest all = refl
numbers-fields width (x ∷ xs) rest all =
    let behind = flat_map (bin width) xs ++ rest in
    let size = length-bin width x in
    let apart : flat_map (bin width) (x ∷ xs) ++ rest ≡ bin width x ++ behind =
    append_assoc (bin width x) (flat_map (bin width) xs) rest in
    rw (apart, take_at (bin width x) behind width size, drop_at (bin width x) behind width size)
    (rw (number-bin width x, small_mod x (2 ^ width) all.0, numbers-fields width xs rest all.1)
    refl)

-- numbers that were put are taken again, whatever follows
pub numbers_at_again : (width n : ℕ) (xs : List ℕ) (rest : List Bool)
    → length xs ≡ n → AllByRecursion (λ x. x < 2 ^ width) xs
    → numbers_at n width (flat_map (bin width) xs ++ rest) ≡ Some (xs, rest)
unfolding numbers_at
numbers_at_again width n xs rest many all =
    let fields = flat_map (bin width) xs in
    let size = length-fields width xs in
    let long : ltb (length (fields ++ rest)) (length xs * width) ≡ false =
    le-ltb _ _ (omega (arith, length-append fields rest, size)) in
    rw (← many, long, numbers-fields width xs rest all)
    (rw (drop_at fields rest (length xs * width) size) refl)

-- each number that is taken fits its width
pub numbers_fit : (n width : ℕ) (text : List Bool)
    → n * width ≤ length text → AllByRecursion (λ x. x < 2 ^ width) (numbers n width text)
unfolding numbers
numbers_fit zero width text long = tt
numbers_fit (suc n) width text long =
    let own : length (take width text) ≡ width = omega (arith, length-take width text) in
    let others : n * width ≤ length (drop width text) = omega (arith, length-drop width text) in
    let first : number (take width text) < 2 ^ width =
    subst (λ k. number (take width text) < 2 ^ k) own (number_below (take width text)) in
    (first, numbers_fit n width (drop width text) others)

-- the fields of the numbers taken and the bits after them are all the bits
pub fields-numbers : (n width : ℕ) (text : List Bool)
    → n * width ≤ length text
    → flat_map (bin width) (numbers n width text) ++ drop (n * width) text ≡ text
unfolding numbers
fields-numbers zero width text long =
    let none : zero * width ≡ 0 = omega arith in ap (λ k. drop k text) none
fields-numbers (suc n) width text long =
    let first = take width text in
    let others = flat_map (bin width) (numbers n width (drop width text)) in
    let own : length first ≡ width = omega (arith, length-take width text) in
    let more : n * width ≤ length (drop width text) = omega (arith, length-drop width text) in
    let spelt : bin width (number first) ≡ first = bin-number width first own in
    let behind : drop (suc n * width) text ≡ drop (n * width) (drop width text) =
    ap (λ k. drop k text) (omega arith) ∙ sym (drop-drop (n * width) width text) in
    append_assoc (bin width (number first)) others (drop (suc n * width) text)
    ∙ (λ i. spelt i ++ (others ++ behind i))
    ∙ ap (λ xs. first ++ xs) (fields-numbers n width (drop width text) more)
    ∙ take-append-drop width text

-- n numbers that are taken fit their width, and their fields begin the text
pub numbers_at_found : (n width : ℕ) (text : List Bool) (x : List ℕ × List Bool)
    → numbers_at n width text ≡ Some x
    → (length x.0 ≡ n) × AllByRecursion (λ y. y < 2 ^ width) x.0
    × (text ≡ flat_map (bin width) x.0 ++ x.1)
unfolding numbers_at
numbers_at_found n width text x e =
    elim (cases_lt (length text) (n * width)) [
      | inl lt ↦
          let short : ltb (length text) (n * width) ≡ true = lt-ltb _ _ lt in
          absurd (let none = rw short at e in cc)
      | inr le ↦
          let long : ltb (length text) (n * width) ≡ false = le-ltb _ _ le in
          let some = rw long at e in
          let pair : (numbers n width text, drop (n * width) text) ≡ x = some_is _ _ some in
          subst (λ (p : List ℕ × List Bool). (length p.0 ≡ n)
          × AllByRecursion (λ y. y < 2 ^ width) p.0
          × (text ≡ flat_map (bin width) p.0 ++ p.1))
          pair (
            length-numbers n width text,
            numbers_fit n width text le,
            sym (fields-numbers n width text le),
          )
    ]

-- Laws of octets and their bits, for texts in data and for the octets of a sink.
use Rattle.std.proofs.Common.{◌≡◌, ℕ, suc, ◌*◌, ◌<◌, ◌≤◌, Bool, List, [], ◌∷◌, ◌++◌, length, drop}
use Rattle.std.proofs.Common.{get_or, Some, refl, sym, ap, ◌∙◌, arith, length-append}
use Rattle.std.specs.Prelude.{All}
use Rattle.std.specs.List.{AllByRecursion}
use Rattle.std.proofs.lemmas.List.Concat.{flat_map-append}
use Rattle.std.proofs.lemmas.List.Elements.{All-from_recursion, recursion_from_All}
use Rattle.bufr_bits.specs.Bits.{bin, bits, numbers, octets_at}
use Rattle.bufr_bits.specs.BitLaws.{length-bin}
use Rattle.bufr_bits.specs.NumberLaws.{numbers-fields, fields-numbers, numbers_fit}
use Rattle.bufr_bits.specs.NumberLaws.{numbers_at_again, numbers_at_found}

-- an octet has eight bits
pub length-bits : (octets : List ℕ) → length (bits octets) ≡ 8 * length octets
length-bits [] = omega arith
length-bits (x ∷ xs) =
    omega (arith, length-append (bin 8 x) (bits xs), length-bin 8 x, length-bits xs)

-- the bits of joined octets are the joined bits
pub bits-append : (xs ys : List ℕ) → bits (xs ++ ys) ≡ bits xs ++ bits ys
bits-append xs ys = flat_map-append (bin 8) xs ys

-- each element is below 256 if the element at each index is
each_small : (octets : List ℕ)
    → ((i : ℕ) → get_or octets i 0 < 256) → AllByRecursion (λ x. x < 256) octets
each_small [] small = tt
each_small (x ∷ xs) small = (small 0, each_small xs (λ i. small (suc i)))

-- octets are read from their bits, whatever follows
pub numbers-bits : (octets : List ℕ) (rest : List Bool)
    → ((i : ℕ) → get_or octets i 0 < 256) → numbers (length octets) 8 (bits octets ++ rest) ≡ octets
numbers-bits octets rest small = numbers-fields 8 octets rest (each_small octets small)

-- octets that were put are taken again, whatever follows
pub octets_at-bits : (octets : List ℕ) (rest : List Bool)
    → All (λ x. x < 256) octets
    → octets_at (length octets) (bits octets ++ rest) ≡ Some (octets, rest)
octets_at-bits octets rest small =
    numbers_at_again 8 (length octets) octets rest refl
    (recursion_from_All (λ x. x < 256) octets small)

-- the numbers of eight bits in bits are octets with these bits
pub bits-numbers : (n : ℕ) (text : List Bool)
    → n * 8 ≤ length text
    → (text ≡ bits (numbers n 8 text) ++ drop (n * 8) text) × All (λ x. x < 256) (numbers n 8 text)
bits-numbers n text within =
    let small = All-from_recursion (λ x. x < 256) (numbers n 8 text)
    (numbers_fit n 8 text within) in
    (sym (fields-numbers n 8 text within), small)

-- n octets that are taken are below 256, and their bits begin the text
pub octets_at_is : (n : ℕ) (octets : List ℕ) (text rest : List Bool)
    → octets_at n text ≡ Some (octets, rest)
    → (text ≡ bits octets ++ rest) × (length octets ≡ n) × All (λ x. x < 256) octets
octets_at_is n octets text rest e =
    let found = numbers_at_found n 8 text (octets, rest) e in
    (found.2, found.0, All-from_recursion (λ x. x < 256) octets found.1)

-- octets with equal bits are equal
pub bits_same : (octets others : List ℕ)
    → All (λ x. x < 256) octets → All (λ x. x < 256) others
    → bits octets ≡ bits others → octets ≡ others
bits_same octets others small small_too e =
    let many : length octets ≡ length others =
    omega (arith, ap length e, length-bits octets, length-bits others) in
    let one = numbers-fields 8 octets [] (recursion_from_All (λ x. x < 256) octets small) in
    let other = numbers-fields 8 others [] (recursion_from_All (λ x. x < 256) others small_too) in
    sym one ∙ ap (λ k. numbers k 8 (bits octets ++ [])) many
    ∙ ap (λ bs. numbers (length others) 8 (bs ++ [])) e ∙ other

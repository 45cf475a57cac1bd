-- Numbers and octets as lists of bits, the most significant bit first (FM 94 BUFR, general
-- regulations 94.1: a message is binary, and bit 1 of an octet is its most significant).
use Rattle.std.specs.Prelude.{ℕ, zero, suc, ◌+◌, ◌*◌, ◌^◌, ◌==◌, Bool, List, [], ◌∷◌, length, take}
use Rattle.std.specs.Prelude.{drop, Option, Some, None, nat_lt, if◌then◌else◌}
use Rattle.std.specs.List.{flat_map}
use Rattle.std.specs.Int.{bit_at}

-- the bits of a number in a field of `width` bits, most significant first (94.1)
unfoldable pub bin : ℕ → ℕ → List Bool
bin zero number = []
bin (suc width) number = (bit_at number width == 1) ∷ bin width number

-- the number that bits spell in base two, most significant first (94.1)
unfoldable pub number : List Bool → ℕ
number [] = 0
number (bit ∷ rest) = (if bit then 2 ^ length rest else 0) + number rest

-- the bits of octets, eight each, in order (94.1)
abbrev pub bits : List ℕ → List Bool
bits octets = flat_map (bin 8) octets

-- the first `n` numbers in bits, each of `width` bits
unfoldable pub numbers : ℕ → ℕ → List Bool → List ℕ
numbers zero width text = []
numbers (suc n) width text = number (take width text) ∷ numbers n width (drop width text)

-- whether a field holds its greatest number, all bits one, which means a missing value (94.1.5)
abbrev pub all_ones : ℕ → ℕ → Bool
all_ones width number = number + 1 == 2 ^ width

-- the number in the first `width` bits, with the bits after it; none if there are fewer
unfoldable pub number_at : ℕ → List Bool → Option (ℕ × List Bool)
number_at width text =
    if nat_lt (length text) width then None
    else Some (number (take width text), drop width text)

-- the first `n` numbers of `width` bits each, with the bits after them; none if there are fewer
unfoldable pub numbers_at : ℕ → ℕ → List Bool → Option (List ℕ × List Bool)
numbers_at n width text =
    if nat_lt (length text) (n * width) then None
    else Some (numbers n width text, drop (n * width) text)

-- the first `n` octets in bits, with the bits after them; none if there are fewer
abbrev pub octets_at : ℕ → List Bool → Option (List ℕ × List Bool)
octets_at n text = numbers_at n 8 text

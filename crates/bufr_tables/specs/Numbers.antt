-- Numbers in the fields of a table file: an optional sign and at least one ASCII digit.
use Rattle.std.specs.Prelude.{ℕ, zero, suc, ◌+◌, ◌-◌, ◌*◌, ◌^◌, ◌==◌, ◌&&◌, not, List, [], ◌∷◌}
use Rattle.std.specs.Prelude.{length, fold, Option, Some, None, option_map, option_and_then, ℤ, pos}
use Rattle.std.specs.Prelude.{negsuc, nat_lt, if◌then◌else◌}
use Rattle.std.specs.Char.{is_ascii_digit}
use Rattle.std.specs.List.{list_all}
use Rattle.bufr_tables.specs.Descriptors.{f_of, of_text}

-- the number that digits spell, most significant first
abbrev pub digits_value : List ℕ → ℕ
digits_value text = fold (λ n c. 10 * n + (c - 48)) 0 text

-- the number of a text of digits, at least one
abbrev pub natural : List ℕ → Option ℕ
natural text =
    if not (length text == 0) && list_all is_ascii_digit text then Some (digits_value text)
    else None

-- the negative of a number
abbrev pub negative : ℕ → ℤ
negative zero = pos 0
negative (suc n) = negsuc n

-- the plus sign in ASCII
abbrev pub plus_sign : ℕ
plus_sign = 43

-- the minus sign in ASCII
abbrev pub minus_sign : ℕ
minus_sign = 45

-- digits after an optional plus
abbrev pub unsigned : List ℕ → Option ℕ
unsigned [] = None
unsigned (c ∷ rest) = natural (if c == plus_sign then rest else c ∷ rest)

-- digits after a minus or an optional plus
abbrev pub integer : List ℕ → Option ℤ
integer [] = None
integer (c ∷ rest) =
    if c == minus_sign then option_map negative (natural rest)
    else option_map pos (unsigned (c ∷ rest))

-- the least n such that the number is from -(n + 1) to n
abbrev pub reach : ℤ → ℕ
reach (pos n) = n
reach (negsuc n) = n

-- a number, if it fits in `width` bits with a sign
abbrev pub signed_fit : ℕ → ℤ → Option ℤ
signed_fit width z = if nat_lt (reach z) (2 ^ (width - 1)) then Some z else None

-- a number, if it fits in `width` bits without a sign
abbrev pub unsigned_fit : ℕ → ℕ → Option ℕ
unsigned_fit width n = if nat_lt n (2 ^ width) then Some n else None

-- the signed number of `width` bits in a field
abbrev pub signed_of : ℕ → List ℕ → Option ℤ
signed_of width text = option_and_then (signed_fit width) (integer text)

-- the unsigned number of `width` bits in a field
abbrev pub unsigned_of : ℕ → List ℕ → Option ℕ
unsigned_of width text = option_and_then (unsigned_fit width) (unsigned text)

-- the descriptor in a field, if it has the given F
abbrev pub descriptor_of : ℕ → List ℕ → Option ℕ
descriptor_of f text = option_and_then (λ d. if f_of d == f then Some d else None) (of_text text)

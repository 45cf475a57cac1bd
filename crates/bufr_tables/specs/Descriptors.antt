-- Descriptors F XX YYY as numbers of 16 bits: 2 for F, 6 for X, 8 for Y (FM 94 BUFR, section 3;
-- regulation 94.1.4).
use Rattle.std.specs.Prelude.{ℕ, ◌+◌, ◌-◌, ◌*◌, ◌/◌, ◌%◌, ◌^◌, ◌<◌, ◌&&◌, List, [], ◌∷◌, Option}
use Rattle.std.specs.Prelude.{Some, None, nat_le, if◌then◌else◌}
use Rattle.std.specs.Char.{is_ascii_digit}
use Rattle.std.specs.List.{list_all}
use Rattle.bufr_tables.specs.declared.fxy.TheConstants.{GREATEST_F, GREATEST_X, GREATEST_Y}

-- a descriptor: a number of 16 bits
abbrev pub IsDescriptor : ℕ → Type 0
IsDescriptor d = d < 2 ^ 16

-- the descriptor F XX YYY as a number
abbrev pub descriptor : ℕ → ℕ → ℕ → ℕ
descriptor f x y = 16384 * f + 256 * x + y

-- F of a descriptor: its first two bits
abbrev pub f_of : ℕ → ℕ
f_of d = d / 16384

-- X of a descriptor: the next six bits
abbrev pub x_of : ℕ → ℕ
x_of d = d / 256 % 64

-- Y of a descriptor: the last eight bits
abbrev pub y_of : ℕ → ℕ
y_of d = d % 256

-- the last digit of a number, in ASCII
abbrev pub digit : ℕ → ℕ
digit n = 48 + n % 10

-- the value of an ASCII digit
abbrev pub digit_value : ℕ → ℕ
digit_value c = c - 48

-- the six ASCII digits FXXYYY of a descriptor
abbrev pub six_digits : ℕ → List ℕ
six_digits d =
    digit (f_of d) ∷ digit (x_of d / 10) ∷ digit (x_of d)
    ∷ digit (y_of d / 100) ∷ digit (y_of d / 10) ∷ digit (y_of d) ∷ []

-- the descriptor of F, X and Y if each is in its range
abbrev pub in_ranges : ℕ → ℕ → ℕ → Option ℕ
in_ranges f x y =
    if nat_le f GREATEST_F && nat_le x GREATEST_X && nat_le y GREATEST_Y
    then Some (descriptor f x y) else None

-- the descriptor that six ASCII digits spell
unfoldable pub of_text : List ℕ → Option ℕ
of_text (a ∷ b ∷ c ∷ d ∷ e ∷ g ∷ []) =
    if list_all is_ascii_digit (a ∷ b ∷ c ∷ d ∷ e ∷ g ∷ [])
    then in_ranges (digit_value a) (10 * digit_value b + digit_value c)
    (100 * digit_value d + 10 * digit_value e + digit_value g)
    else None
of_text _ = None

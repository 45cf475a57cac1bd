-- Numbers need no quotes: the contracts of `push_to` and `write_to`.
use Rattle.std.proofs.Common.{◌≡◌, ℕ, zero, suc, ◌-◌, ◌==◌, Bool, true, false, List, [], ◌∷◌, ◌++◌}
use Rattle.std.proofs.Common.{Option, Some, None, length, take, drop, replicate, refl, arith}
use Rattle.std.specs.Prelude.{decimal, ℤ, pos, negsuc, if◌then◌else◌}
use Rattle.std.specs.Char.{is_ascii_digit}
use Rattle.std.proofs.lemmas.Bool.Decides.{nat_tests}
use Rattle.csv.specs.Writing.{default_writer, field_text, needs_byte, needs_quotes}
use Rattle.bufr_fields.specs.DecimalTextLaws.{AreDigits}
use Rattle.bufr_fields.specs.Values.{digits_by, text_of}
use Rattle.bufr_fields.specs.declared.field.Decimal.{Decimal}
use Rattle.bufr_listing.specs.Listings.{number_word}
use Rattle.bufr_select_rows.proofs.ListedFacts.{decimal_digits, front_digits, zeros_before}

-- octets need no quotes around them
abbrev pub AreBare : List ℕ → Type 0
AreBare octets = needs_quotes default_writer octets ≡ false

-- a digit needs none
no_need : (c : ℕ) → is_ascii_digit c ≡ true → needs_byte default_writer c ≡ false
no_need c is = grind (arith, nat_tests)

-- nor do digits before octets that need none
bare_before : (digits octets : List ℕ) → AreDigits digits → AreBare octets
    → AreBare (digits ++ octets)
bare_before [] octets all bare = bare
bare_before (c ∷ digits) octets all bare =
    rw (no_need c all.0) (bare_before digits octets all.1 bare)

bare_digits : (digits : List ℕ) → AreDigits digits → AreBare digits
bare_digits [] all = refl
bare_digits (c ∷ digits) all = rw (no_need c all.0) (bare_digits digits all.1)

-- digits after a place, and zeros
back_digits : (k : ℕ) (digits : List ℕ) → AreDigits digits → AreDigits (drop k digits)
back_digits zero digits all = all
back_digits (suc k) [] all = tt
back_digits (suc k) (c ∷ digits) all = back_digits k digits all.1

zeros_digits : (k : ℕ) → AreDigits (replicate k 48)
zeros_digits zero = tt
zeros_digits (suc k) = (refl, zeros_digits k)

-- the digits of a number at a negative scale
zeros_bare : (is : Bool) (s n : ℕ)
    → AreBare (if is then decimal 0 else decimal n ++ replicate (suc s) 48)
zeros_bare true s n = bare_digits (decimal 0) (decimal_digits 0)
zeros_bare false s n =
    bare_before (decimal n) (replicate (suc s) 48) (decimal_digits n)
    (bare_digits (replicate (suc s) 48) (zeros_digits (suc s)))

-- or at any
scale_bare : (scale : ℤ) (n : ℕ) → AreBare (digits_by scale n)
scale_bare (pos zero) n = bare_digits (decimal n) (decimal_digits n)
scale_bare (pos (suc s)) n =
    let ds = replicate (suc (suc s) - length (decimal n)) 48 ++ decimal n in
    let all = zeros_before (suc (suc s) - length (decimal n)) (decimal n) (decimal_digits n) in
    bare_before (take (length ds - suc s) ds) (46 ∷ drop (length ds - suc s) ds)
    (front_digits (length ds - suc s) ds all)
    (bare_digits (drop (length ds - suc s) ds) (back_digits (length ds - suc s) ds all))
scale_bare (negsuc s) n = zeros_bare (n == 0) s n

number_bare : (units scale : ℤ) → AreBare (text_of (record { units = units; scale = scale }))
number_bare (pos n) scale = scale_bare scale n
number_bare (negsuc n) scale = scale_bare scale (suc n)

word_bare : (said : Option Decimal) → AreBare (number_word said)
word_bare None = refl
word_bare (Some d) = number_bare d.units d.scale

-- so octets are the text of their field
pub bare_text : (octets : List ℕ) → AreBare octets → field_text default_writer octets ≡ octets
bare_text octets bare = rw bare refl

pub word_text : (said : Option Decimal)
    → field_text default_writer (number_word said) ≡ number_word said
word_text said = bare_text (number_word said) (word_bare said)

pub count_text : (n : ℕ) → field_text default_writer (decimal n) ≡ decimal n
count_text n = bare_text (decimal n) (bare_digits (decimal n) (decimal_digits n))

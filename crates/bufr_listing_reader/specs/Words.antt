-- The words left of a line, and the numbers and descriptors of words.
use Rattle.std.specs.Prelude.{ℕ, List, [], ◌∷◌, Option, Some, None, option_map, option_and_then, ℤ}
use Rattle.std.specs.Prelude.{pos, negsuc, nat_lt, if◌then◌else◌}
use Rattle.bufr_tables.specs.Descriptors.{of_text}
use Rattle.bufr_fields.specs.declared.field.Decimal.{Decimal}
use Rattle.bufr_fields.specs.DecimalTexts.{decimal_of}
use Rattle.bufr_listing_reader.specs.declared.line_words.Words.{Words}
use Rattle.bufr_listing_reader.specs.Lines.{words_of}

-- the words of the rest of a line, none without a rest
abbrev pub words_in : Option (List ℕ) → List (List ℕ)
words_in None = []
words_in (Some text) = words_of text

-- the words left
unfoldable pub words_left : Words → List (List ℕ)
words_left w = words_in (option_map (λ t. t.now) w.rest)

-- a number from 0 to below a limit
abbrev pub below : ℕ → ℤ → Option ℕ
below limit (pos n) = if nat_lt n limit then Some n else None
below limit (negsuc n) = None

-- the number below a limit that has these digits
abbrev pub number_below : ℕ → List ℕ → Option ℕ
number_below limit word =
    option_and_then (λ (d : Decimal). below limit d.units) (decimal_of (pos 0) word)

-- a value before others, if all are there
abbrev pub onto : {A : Type 0} → Option A → Option (List A) → Option (List A)
onto None xs = None
onto (Some x) xs = option_map (λ ys. x ∷ ys) xs

-- the numbers of words, one for each limit
unfoldable pub numbers_of : List ℕ → List (List ℕ) → Option (List ℕ)
numbers_of [] [] = Some []
numbers_of (limit ∷ limits) (w ∷ ws) = onto (number_below limit w) (numbers_of limits ws)
numbers_of _ _ = None

-- the descriptors of words
unfoldable pub descriptors_of : List (List ℕ) → Option (List ℕ)
descriptors_of [] = Some []
descriptors_of (w ∷ ws) = onto (of_text w) (descriptors_of ws)

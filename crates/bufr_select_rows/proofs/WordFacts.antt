-- The words of columns with a descriptor: the contracts of `from_word` and `number_of`.
use Rattle.std.proofs.Common.{◌≡◌, ◌≢◌, ℕ, ◌<◌, ◌^◌, ◌++◌, List, [], ◌∷◌, length, take, drop, Some, None}
use Rattle.std.proofs.Common.{Option, refl, sym, ap, ◌∙◌, arith, ◌≤◌, get_or, subst, ℤ, pos, FitsSigned}
use Rattle.std.specs.Int.{w128}
use Rattle.std.specs.Prelude.{decimal}
use Rattle.std.proofs.Common.{◌-◌, length-drop}
use Rattle.std.proofs.lemmas.List.{take_all}
use Rattle.bufr_tables.specs.Descriptors.{IsDescriptor, of_text, six_digits}
use Rattle.bufr_tables.specs.DescriptorLaws.{of_text-only, of_text-six_digits, six_by_place}
use Rattle.bufr_fields.specs.DecimalTexts.{IsDecimal}
use Rattle.bufr_fields.specs.Values.{text_of}
use Rattle.bufr_fields.specs.declared.field.Decimal.{Decimal}
use Rattle.bufr_select_rows.specs.Columns.{IsNoColumn, IsNoToldWord}
use Rattle.bufr_select_rows.specs.declared.column.Column.TheVariants as columns

-- a descriptor is read from its digits
read_digits : {P : Type 0} (six : List ℕ) (d : ℕ) → IsDescriptor d → six_digits d ≡ six
    → of_text six ≡ None → P
read_digits six d can is none =
    let read = of_text-six_digits d can in let same = ap of_text is in absurd cc

-- six octets that are no descriptor
pub none_six : (a b c d e g : ℕ) → IsNoToldWord (a ∷ b ∷ c ∷ d ∷ e ∷ g ∷ [])
    → of_text (a ∷ b ∷ c ∷ d ∷ e ∷ g ∷ []) ≡ None → IsNoColumn (a ∷ b ∷ c ∷ d ∷ e ∷ g ∷ [])
none_six a b c d e g told none (columns.Fact fact) can = told fact
none_six a b c d e g told none (columns.First fxy) can = λ is. read_digits _ fxy can is none
none_six a b c d e g told none (columns.Nth fxy n) can = λ is. absurd (omega (arith, ap length is))

-- six octets that are no descriptor, before `#`
pub none_before : (a b c d e g : ℕ) (digits : List ℕ)
    → IsNoToldWord (a ∷ b ∷ c ∷ d ∷ e ∷ g ∷ 35 ∷ digits)
    → of_text (a ∷ b ∷ c ∷ d ∷ e ∷ g ∷ []) ≡ None
    → IsNoColumn (a ∷ b ∷ c ∷ d ∷ e ∷ g ∷ 35 ∷ digits)
none_before a b c d e g digits told none (columns.Fact fact) can = told fact
none_before a b c d e g digits told none (columns.First fxy) can = λ is.
    absurd (omega (arith, ap length is))
none_before a b c d e g digits told none (columns.Nth fxy n) can = λ is.
    read_digits _ fxy can.0 (ap (take 6) is) none

-- digits after it that are no number
pub none_after : (a b c d e g : ℕ) (digits : List ℕ)
    → IsNoToldWord (a ∷ b ∷ c ∷ d ∷ e ∷ g ∷ 35 ∷ digits)
    → ((n : ℕ) → 0 < n → n < 2 ^ 64 → decimal n ≢ digits)
    → IsNoColumn (a ∷ b ∷ c ∷ d ∷ e ∷ g ∷ 35 ∷ digits)
none_after a b c d e g digits told none (columns.Fact fact) can = told fact
none_after a b c d e g digits told none (columns.First fxy) can = λ is.
    absurd (omega (arith, ap length is))
none_after a b c d e g digits told none (columns.Nth fxy n) can = λ is.
    none n can.1 can.2 (ap (drop 7) is)

-- ---- the steps of the functions

-- bytes by their places
by_seven : (b : List ℕ) → 7 ≤ length b
    → b ≡ get_or b 0 0 ∷ get_or b 1 0 ∷ get_or b 2 0 ∷ get_or b 3 0 ∷ get_or b 4 0 ∷ get_or b 5 0
    ∷ get_or b 6 0 ∷ drop 7 b
by_seven (a ∷ b ∷ c ∷ d ∷ e ∷ g ∷ h ∷ rest) long = refl
by_seven _ long = absurd (omega (arith, long))

-- with a number sign at its place
shape_of : (b : List ℕ) → 7 ≤ length b → get_or b 6 0 ≡ 35
    → b ≡ get_or b 0 0 ∷ get_or b 1 0 ∷ get_or b 2 0 ∷ get_or b 3 0 ∷ get_or b 4 0 ∷ get_or b 5 0 ∷ 35
    ∷ drop 7 b
shape_of b long mark =
    by_seven b long
    ∙ ap (λ x. get_or b 0 0 ∷ get_or b 1 0 ∷ get_or b 2 0 ∷ get_or b 3 0 ∷ get_or b 4 0 ∷ get_or b 5 0
    ∷ x ∷ drop 7 b) mark

-- the answers of `from_word`
pub six_none : (b t : List ℕ) → b ≡ t → 6 ≤ length b → length b < 7 → IsNoToldWord t
    → None
    ≡ of_text (get_or b 0 0 ∷ get_or b 1 0 ∷ get_or b 2 0 ∷ get_or b 3 0 ∷ get_or b 4 0
    ∷ get_or b 5 0 ∷ []) → IsNoColumn t
six_none b t is long short told none =
    let shape = six_by_place b (omega (arith, long, short)) in
    let text = sym shape ∙ is in
    subst IsNoColumn text
    (none_six (get_or b 0 0) (get_or b 1 0) (get_or b 2 0) (get_or b 3 0) (get_or b 4 0)
    (get_or b 5 0) (subst IsNoToldWord (sym text) told) (sym none))

pub six_some : (b t : List ℕ) (d : ℕ) → b ≡ t → 6 ≤ length b → length b < 7
    → Some d
    ≡ of_text (get_or b 0 0 ∷ get_or b 1 0 ∷ get_or b 2 0 ∷ get_or b 3 0 ∷ get_or b 4 0
    ∷ get_or b 5 0 ∷ []) → six_digits d ≡ t
six_some b t d is long short some =
    let shape = six_by_place b (omega (arith, long, short)) in
    sym (of_text-only _ d (sym some)).1 ∙ sym shape ∙ is

pub before_none : (b t : List ℕ) → b ≡ t → 7 ≤ length b → get_or b 6 0 ≡ 35 → IsNoToldWord t
    → None
    ≡ of_text (get_or b 0 0 ∷ get_or b 1 0 ∷ get_or b 2 0 ∷ get_or b 3 0 ∷ get_or b 4 0
    ∷ get_or b 5 0 ∷ []) → IsNoColumn t
before_none b t is long mark told none =
    let text = shape_of b long mark in
    let same = sym text ∙ is in
    subst IsNoColumn same
    (none_before (get_or b 0 0) (get_or b 1 0) (get_or b 2 0) (get_or b 3 0) (get_or b 4 0)
    (get_or b 5 0) (drop 7 b) (subst IsNoToldWord (sym same) told) (sym none))

-- the octets after them, as a slice
tail_seven : (b : List ℕ) → take (length b - 7) (drop 7 b) ≡ drop 7 b
tail_seven b = take_all (length b - 7) (drop 7 b) (omega (arith, length-drop 7 b))

pub after_none : (b t : List ℕ) → b ≡ t → 7 ≤ length b → get_or b 6 0 ≡ 35 → IsNoToldWord t
    → ((n : ℕ) → 0 < n → n < 2 ^ 64 → decimal n ≢ take (length b - 7) (drop 7 b)) → IsNoColumn t
after_none b t is long mark told all_none =
    let none : (n : ℕ) → 0 < n → n < 2 ^ 64 → decimal n ≢ drop 7 b =
    λ n some small e. all_none n some small (e ∙ sym (tail_seven b)) in
    let same = sym (shape_of b long mark) ∙ is in
    subst IsNoColumn same
    (none_after (get_or b 0 0) (get_or b 1 0) (get_or b 2 0) (get_or b 3 0) (get_or b 4 0)
    (get_or b 5 0) (drop 7 b) (subst IsNoToldWord (sym same) told) none)

pub nth_some : (b t : List ℕ) (d n : ℕ) → b ≡ t → 7 ≤ length b → get_or b 6 0 ≡ 35
    → Some d
    ≡ of_text (get_or b 0 0 ∷ get_or b 1 0 ∷ get_or b 2 0 ∷ get_or b 3 0 ∷ get_or b 4 0
    ∷ get_or b 5 0 ∷ []) → decimal n ≡ take (length b - 7) (drop 7 b)
    → six_digits d ++ 35 ∷ decimal n ≡ t
nth_some b t d n is long mark some digits =
    ap (λ (s : List ℕ). s ++ 35 ∷ decimal n) (sym (of_text-only _ d (sym some)).1)
    ∙ ap (λ (s : List ℕ). get_or b 0 0 ∷ get_or b 1 0 ∷ get_or b 2 0 ∷ get_or b 3 0 ∷ get_or b 4 0
    ∷ get_or b 5 0 ∷ 35 ∷ s) (digits ∙ tail_seven b)
    ∙ sym (shape_of b long mark) ∙ is

-- bytes with no number sign at its place
pub mark_none : (b t : List ℕ) → b ≡ t → 7 ≤ length b → get_or b 6 0 ≢ 35 → IsNoToldWord t
    → IsNoColumn t
mark_none b t is long other told (columns.Fact fact) can = told fact
mark_none b t is long other told (columns.First fxy) can = λ e.
    absurd (omega (arith, long, ap length e, ap length is))
mark_none b t is long other told (columns.Nth fxy n) can = λ e.
    other (ap (λ (x : List ℕ). get_or x 6 0) (is ∙ sym e))

-- the number of digits that `number_of` reads
pub number_said : (digits : List ℕ) (r : Option Decimal) (n : ℕ)
    → ((d : Decimal) → IsDecimal d → d.scale ≡ pos 0 → text_of d ≡ digits → r ≡ Some d)
    → n < 2 ^ 64 → decimal n ≡ digits → r ≡ Some (record { units = pos n; scale = pos 0 })
number_said digits r n only small is =
    only (record { units = pos n; scale = pos 0 })
    (record { units = fits_wide n small; scale = refl }) refl is
  where
    fits_wide : (m : ℕ) → m < 2 ^ 64 → FitsSigned w128 (pos m)
    fits_wide m h = omega (arith, h)

pub number_none : (digits : List ℕ) (r : Option Decimal)
    → ((d : Decimal) → IsDecimal d → d.scale ≡ pos 0 → text_of d ≡ digits → r ≡ Some d)
    → r ≡ None → (n : ℕ) → 0 < n → n < 2 ^ 64 → decimal n ≢ digits
number_none digits r only none n some small is =
    let found = number_said digits r n only small is in absurd cc

pub number_units : (digits : List ℕ) (r : Option Decimal) (number : Decimal)
    → ((d : Decimal) → IsDecimal d → d.scale ≡ pos 0 → text_of d ≡ digits → r ≡ Some d)
    → r ≡ Some number → (n : ℕ) → n < 2 ^ 64 → decimal n ≡ digits → number.units ≡ pos n
number_units digits r number only was n small is =
    let found = number_said digits r n only small is in
    ap (λ (o : Option Decimal). units_or o) (sym was ∙ found)
  where
    units_or : Option Decimal → ℤ
    units_or None = pos 0
    units_or (Some d) = d.units

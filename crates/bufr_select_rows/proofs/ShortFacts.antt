-- A cell that takes a short number is as if it had noted its field: the contracts of `note_short` and
-- `fill_numbers`.
use Rattle.std.proofs.Common.{◌≡◌, ℕ, zero, suc, ◌==◌, Bool, true, false, List, [], ◌∷◌, map, Option, Some, None}
use Rattle.std.proofs.Common.{cond, pos, refl, sym, ap, ◌∙◌}
use Rattle.std.specs.Prelude.{option_map}
use Rattle.bufr_tables.specs.declared.element.Kind.{Kind}
use Rattle.bufr_tables.specs.declared.element.Kind.TheVariants as kinds
use Rattle.bufr_fields.specs.declared.field.Field.{Field}
use Rattle.bufr_fields.specs.declared.field.NumberField.{NumberField}
use Rattle.bufr_fields.specs.declared.field.Raw.TheVariants.{Number}
use Rattle.bufr_fields.specs.Values.{as_field, is_missing, value, value_by}
use Rattle.bufr_listing.specs.Listings.{number_word}
use Rattle.bufr_data.specs.declared.short.ShortNumber.{ShortNumber}
use Rattle.bufr_data.specs.Short.{HasShort}
use Rattle.bufr_select_rows.specs.CellLaws.{rows_step}
use Rattle.bufr_select_rows.specs.Cells.{counted, counted_at, noted, noted_by, rows_left}
use Rattle.bufr_select_rows.specs.ShortCells.{counted_short, counted_short_at, digits_of, noted_short}
use Rattle.bufr_select_rows.specs.ShortCells.{noted_short_by, short_text}
use Rattle.bufr_select_rows.specs.Values.{shown_value}
use Rattle.bufr_select_rows.specs.declared.cell.Cell.{Cell}
use Rattle.bufr_select_rows.specs.declared.column.Column.{Column}
use Rattle.bufr_select_rows.specs.declared.column.Column.TheVariants as columns

-- ---- the text

-- a missing number has no value
missing_none : (kind : Kind) (n : ℕ) (f : Field) → is_missing f ≡ true
    → number_word (value_by kind (Number n) f) ≡ []
missing_none kinds.Text n f is = refl
missing_none kinds.Code n f is = rw is refl
missing_none kinds.Flag n f is = rw is refl
missing_none kinds.Quantity n f is = rw is refl
missing_none kinds.Count n f is = rw is refl

-- a number is shown as its value
by_value : (b : Bool) (f : NumberField) → is_missing (as_field f) ≡ b
    → shown_value (as_field f) ≡ number_word (value (as_field f))
by_value true f is = rw is (sym (missing_none f.spec.kind f.number (as_field f) is))
by_value false f is = rw is refl

same_digits : (n : Option ℕ)
    → number_word (option_map (λ k. record { units = pos k; scale = pos 0 }) n) ≡ digits_of n
same_digits None = refl
same_digits (Some n) = refl

-- the text of a short number is that of its field
short_shown : (f : NumberField) (s : ShortNumber) → HasShort f s
    → shown_value (as_field f) ≡ short_text s
short_shown f s has =
    by_value (is_missing (as_field f)) f refl ∙ ap number_word has.1 ∙ same_digits s.number

-- ---- a cell

counted_as : (n : ℕ) (f : NumberField) (s : ShortNumber) (c : Cell) → HasShort f s
    → counted_short_at n s c ≡ counted_at n (as_field f) c
counted_as zero f s c has = refl
counted_as (suc zero) f s c has =
    ap (λ (t : List ℕ). record c { ahead = 0; here = t }) (sym (short_shown f s has))
counted_as (suc (suc n)) f s c has = refl

chosen_as : (d : ℕ) (f : NumberField) (s : ShortNumber) (c : Cell) → HasShort f s
    → cond (s.fxy == d) (counted_short s c) c ≡ cond (f.fxy == d) (counted (as_field f) c) c
chosen_as d f s c has =
    ap (λ (x : ℕ). cond (x == d) (counted_short s c) c) (sym has.0)
    ∙ ap (λ (x : Cell). cond (f.fxy == d) x c) (counted_as c.ahead f s c has)

noted_as_by : (column : Column) (f : NumberField) (s : ShortNumber) (c : Cell) → HasShort f s
    → noted_short_by column s c ≡ noted_by column true (as_field f) c
noted_as_by (columns.Fact fact) f s c has = refl
noted_as_by (columns.First d) f s c has = chosen_as d f s c has
noted_as_by (columns.Nth d n) f s c has = chosen_as d f s c has

-- it notes the field
pub noted_as : (f : NumberField) (s : ShortNumber) (c : Cell) → HasShort f s
    → noted_short s c ≡ noted true (as_field f) c
noted_as f s c has = noted_as_by c.column f s c has

-- ---- all cells

pub noted_all : (f : NumberField) (s : ShortNumber) (cells : List Cell) → HasShort f s
    → map (noted_short s) cells ≡ map (noted true (as_field f)) cells
noted_all f s [] has = refl
noted_all f s (c ∷ cells) has = λ i. noted_as f s c has i ∷ noted_all f s cells has i

-- the row is that of the cells that noted the first field, and of those after it
pub row_first : (cells cells' : List Cell) (f : Field) (old new : List Field) → old ≡ f ∷ new
    → cells' ≡ map (noted true f) cells
    → rows_left None cells true old ≡ rows_left None cells' true new
row_first cells cells' f old new first is =
    ap (rows_left None cells true) first ∙ rows_step None true cells f new
    ∙ ap (λ cs. rows_left None cs true new) (sym is)

-- A cell that takes a lent text is as if it had noted its field: the contracts of `note_text` and
-- `fill_text`.
use Rattle.std.proofs.Common.{◌≡◌, ℕ, zero, suc, ◌/◌, ◌==◌, ◌&&◌, not, Bool, true, false, List, [], ◌∷◌}
use Rattle.std.proofs.Common.{cond, length, map, refl, sym, ap, ◌∙◌, arith}
use Rattle.std.specs.List.{list_all}
use Rattle.std.proofs.lemmas.Bool.{and_parts, eqb-true}
use Rattle.bufr_tables.specs.declared.element.Kind.{Kind}
use Rattle.bufr_tables.specs.declared.element.Kind.TheVariants as kinds
use Rattle.bufr_tables.specs.Elements.{same_kind}
use Rattle.bufr_fields.specs.Forms.{has_form_by}
use Rattle.bufr_fields.specs.Values.{is_all_ones}
use Rattle.bufr_fields.specs.declared.field.Field.{Field}
use Rattle.bufr_fields.specs.declared.field.Raw.{Raw}
use Rattle.bufr_fields.specs.declared.field.Raw.TheVariants.{Text}
use Rattle.bufr_data.specs.LentTexts.{HasOctets}
use Rattle.bufr_select_rows.specs.Cells.{counted, counted_at, noted, noted_by}
use Rattle.bufr_select_rows.specs.TextCells.{counted_text, counted_text_at, noted_text, noted_text_by}
use Rattle.bufr_select_rows.specs.TextCells.{shown_octets}
use Rattle.bufr_select_rows.specs.Values.{shown_raw, shown_text, shown_value, trimmed}
use Rattle.bufr_select_rows.specs.declared.cell.Cell.{Cell}
use Rattle.bufr_select_rows.specs.declared.column.Column.{Column}
use Rattle.bufr_select_rows.specs.declared.column.Column.TheVariants as columns

-- ---- the text

-- what a field of a text that fits shows, by its kind and width
abbrev shown_by : Kind → ℕ → List ℕ → List ℕ
shown_by kind width octets =
    cond (has_form_by kind width (Text octets) && is_all_ones width (Text octets)
    && not (width == 1) && not (same_kind kind kinds.Count)) [] (shown_text (trimmed octets))

-- no octet is one bit
none_narrow : (width : ℕ) (octets : List ℕ) → width ≡ 1 → length octets ≡ width / 8 → octets ≡ []
none_narrow width [] one long = refl
none_narrow width (x ∷ octets) one long = absurd (omega (arith, one, long))

nothing_shown : (b : Bool) → cond b [] (shown_text (trimmed [])) ≡ []
unfolding trimmed
nothing_shown true = refl
nothing_shown false = refl

nothing_by : (width : ℕ) → shown_by kinds.Text width [] ≡ shown_octets []
nothing_by width =
    nothing_shown (has_form_by kinds.Text width (Text []) && is_all_ones width (Text [])
    && not (width == 1) && not (same_kind kinds.Text kinds.Count))

by_ones : (ones : Bool) (text : List ℕ)
    → cond (true && ones && true && true) [] text ≡ cond ones [] text
by_ones true text = refl
by_ones false text = refl

by_width : (width : ℕ) (octets : List ℕ) (one : Bool) → (width == 1) ≡ one
    → has_form_by kinds.Text width (Text octets) ≡ true
    → shown_by kinds.Text width octets ≡ shown_octets octets
by_width width octets true is form =
    let long = eqb-true _ _ (and_parts _ _ form).0 in
    let none = none_narrow width octets (eqb-true width 1 is) long in
    rw none (nothing_by width)
by_width width octets false is form =
    rw (form, is) (by_ones (list_all (λ x. x == 255) octets) (shown_text (trimmed octets)))

by_kind : (kind : Kind) (width : ℕ) (octets : List ℕ) → has_form_by kind width (Text octets) ≡ true
    → shown_by kind width octets ≡ shown_octets octets
by_kind kinds.Text width octets form = by_width width octets (width == 1) refl form
by_kind kinds.Code width octets form = absurd cc
by_kind kinds.Flag width octets form = absurd cc
by_kind kinds.Quantity width octets form = absurd cc
by_kind kinds.Count width octets form = absurd cc

-- the text of a field
pub lent_shown : (f : Field) (fxy : ℕ) (octets : List ℕ) → HasOctets f fxy octets
    → shown_value f ≡ shown_octets octets
lent_shown f fxy octets has =
    let kind = f.spec.kind in
    let width = f.spec.width in
    ap (λ (raw : Raw). cond (has_form_by kind width raw && is_all_ones width raw
    && not (width == 1) && not (same_kind kind kinds.Count)) [] (shown_raw f raw)) has.1
    ∙ by_kind kind width octets (ap (has_form_by kind width) (sym has.1) ∙ has.2)

-- ---- a cell

lent_counted : (n : ℕ) (f : Field) (fxy : ℕ) (octets : List ℕ) (c : Cell) → HasOctets f fxy octets
    → counted_text_at n octets c ≡ counted_at n f c
lent_counted zero f fxy octets c has = refl
lent_counted (suc zero) f fxy octets c has =
    ap (λ (text : List ℕ). record c { ahead = 0; here = text }) (sym (lent_shown f fxy octets has))
lent_counted (suc (suc n)) f fxy octets c has = refl

lent_chosen : (d : ℕ) (f : Field) (fxy : ℕ) (octets : List ℕ) (c : Cell) → HasOctets f fxy octets
    → cond (fxy == d) (counted_text octets c) c ≡ cond (f.fxy == d) (counted f c) c
lent_chosen d f fxy octets c has =
    ap (λ (x : ℕ). cond (x == d) (counted_text octets c) c) (sym has.0)
    ∙ ap (λ (x : Cell). cond (f.fxy == d) x c) (lent_counted c.ahead f fxy octets c has)

lent_noted_by : (column : Column) (f : Field) (fxy : ℕ) (octets : List ℕ) (c : Cell)
    → HasOctets f fxy octets → noted_text_by column fxy octets c ≡ noted_by column true f c
lent_noted_by (columns.Fact fact) f fxy octets c has = refl
lent_noted_by (columns.First d) f fxy octets c has = lent_chosen d f fxy octets c has
lent_noted_by (columns.Nth d n) f fxy octets c has = lent_chosen d f fxy octets c has

-- it notes the field
pub lent_noted : (f : Field) (fxy : ℕ) (octets : List ℕ) (c : Cell) → HasOctets f fxy octets
    → noted_text fxy octets c ≡ noted true f c
lent_noted f fxy octets c has = lent_noted_by c.column f fxy octets c has

-- all cells note it
pub lent_noted_all : (f : Field) (fxy : ℕ) (octets : List ℕ) (cells : List Cell)
    → HasOctets f fxy octets → map (noted_text fxy octets) cells ≡ map (noted true f) cells
lent_noted_all f fxy octets [] has = refl
lent_noted_all f fxy octets (c ∷ cells) has =
    λ i. lent_noted f fxy octets c has i ∷ lent_noted_all f fxy octets cells has i

-- A field that one cell alone can note: the contract of `note_field`.
use Rattle.std.proofs.Common.{◌≡◌, ℕ, zero, suc, ◌<◌, Bool, List, [], ◌∷◌, map, get_or, slice_set}
use Rattle.std.proofs.Common.{length, refl, sym, ap, arith}
use Rattle.bufr_fields.specs.declared.field.Field.{Field}
use Rattle.bufr_select_rows.specs.Asks.{NoneAsks, OnlyAt}
use Rattle.bufr_select_rows.specs.CellLaws.{noted_other}
use Rattle.bufr_select_rows.specs.Cells.{noted}
use Rattle.bufr_select_rows.specs.declared.cell.Cell.{Cell}

-- cells that do not ask for it
none_noted : (in_span : Bool) (f : Field) (cells : List Cell)
    → NoneAsks f.fxy (map (λ c. c.column) cells) → map (noted in_span f) cells ≡ cells
none_noted in_span f [] none = refl
none_noted in_span f (c ∷ cells) none =
    λ i. noted_other c.column in_span f c none.0 i ∷ none_noted in_span f cells none.1 i

-- only the cell at an index asks for it
pub one_noted : (in_span : Bool) (f : Field) (i : ℕ) (cells : List Cell) (x : Cell)
    → OnlyAt f.fxy i (map (λ c. c.column) cells) → i < length cells
    → slice_set cells i (noted in_span f (get_or cells i x)) ≡ map (noted in_span f) cells
one_noted in_span f i [] x only inside = absurd (omega (arith, inside))
one_noted in_span f zero (c ∷ cells) x only inside =
    ap (λ cs. noted in_span f c ∷ cs) (sym (none_noted in_span f cells only))
one_noted in_span f (suc i) (c ∷ cells) x only inside =
    λ k. sym (noted_other c.column in_span f c only.0) k
    ∷ one_noted in_span f i cells x only.1 (omega (arith, inside)) k

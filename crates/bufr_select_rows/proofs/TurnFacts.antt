-- Rows of turns: a turn is a span, and its row depends on the columns of the cells and on their texts from
-- before all spans alone.
use Rattle.std.proofs.Common.{◌≡◌, ℕ, zero, suc, ◌+◌, ◌-◌, ◌==◌, ◌≤◌, Bool, true, false, cond, List, [], ◌∷◌, ◌++◌}
use Rattle.std.proofs.Common.{Option, Some, None, Ok, Err, map, drop, length, get_or, reverse, refl, sym, ap, ◌∙◌, subst}
use Rattle.std.proofs.Common.{append_assoc, arith, length-append, not, Result, ◌<◌}
use Rattle.std.specs.List.{AllByRecursion, slice_get}
use Rattle.std.proofs.lemmas.Bool.{eq-eqb}
use Rattle.std.proofs.lemmas.List.{append-nil, drop_all, drop_more, map-append, reverse-append}
use Rattle.std.proofs.lemmas.List.{reverse-reverse}
use Rattle.bufr_base.specs.AnswerLaws.{not_false}
use Rattle.csv.specs.Writing.{default_writer, row_text}
use Rattle.bufr_bits.specs.Devices.{Writing}
use Rattle.bufr_data.specs.Handed.{PassesUnasked}
use Rattle.bufr_data.specs.Turns.{BeginsWith, OpensTurns, TurnsLeft, all_numbered, numbered}
use Rattle.bufr_expand.specs.declared.even_turns.CommonField.{CommonField}
use Rattle.bufr_fields.specs.declared.field.Field.{Field}
use Rattle.bufr_fields.specs.declared.field.Raw.TheVariants.{Number}
use Rattle.bufr_io.specs.HeldLaws.{PutsSome, puts_more, puts_none, some_next, some_stops, stops_more}
use Rattle.bufr_io.specs.HeldLaws.{stops_none}
use Rattle.bufr_io.specs.HeldTexts.{Puts, PutsOrStops}
use Rattle.bufr_io.specs.declared.fault.ToolFault.{ToolFault}
use Rattle.bufr_io.specs.declared.fault.ToolFault.TheVariants as faults
use Rattle.bufr_io.specs.declared.held_rows.HeldRows.{HeldRows}
use Rattle.bufr_select_rows.specs.Asks.{Covers}
use Rattle.bufr_select_rows.specs.CellLaws.{columns_opened, left_at, left_noted, left_text, map_twice, matching}
use Rattle.bufr_select_rows.specs.CellLaws.{none_left, noted_before, noted_column, rows_none, rows_passed}
use Rattle.bufr_select_rows.specs.Cells.{NotesUpTo, ended, noted, number_of, opened, row_of, rows_left, shown}
use Rattle.bufr_select_rows.specs.Rows.{fields_with, value_if, value_or}
use Rattle.bufr_data.specs.Turns.{TakesTurns}
use Rattle.bufr_select_rows.specs.Turns.{HaveSources, PutsFront, after_all, after_turn, sourced}
use Rattle.bufr_select_rows.specs.Turns.{sourced_row, turn_from, turn_nth, turn_row, turn_source, turn_text}
use Rattle.bufr_select_rows.specs.Turns.{turns_rows}
use Rattle.bufr_select_rows.specs.declared.cell.Cell.{Cell}
use Rattle.bufr_select_rows.specs.declared.column.Column.{Column}
use Rattle.bufr_select_rows.specs.declared.column.Column.TheVariants as columns
use Rattle.bufr_select_rows.specs.declared.turn.TurnSource.{TurnSource}
use Rattle.bufr_select_rows.specs.declared.turn.TurnSource.TheVariants as sources
use Rattle.bufr_select_rows.proofs.SourceFacts.{no_zero, slice_at}

-- ---- cells that open a span again

-- an opened cell, by what it keeps
abbrev opened_as : Column → List ℕ → Cell
opened_as column before =
    record { column = column; ahead = number_of column; before = before; here = [] }

-- it forgets a field of the span before
reopened : (f : Field) (c : Cell) → opened (noted true f c) ≡ opened c
reopened f c =
    ap (λ column. opened_as column (noted true f c).before) (noted_column c.column f c)
    ∙ ap (opened_as c.column) (noted_before c.column f c)

opened_noted : (f : Field) (cells : List Cell)
    → map opened (map (noted true f) cells) ≡ map opened cells
opened_noted f [] = refl
opened_noted f (c ∷ cells) = λ i. reopened f c i ∷ opened_noted f cells i

opened_again : (cells : List Cell) → map opened (map opened cells) ≡ map opened cells
opened_again [] = refl
opened_again (c ∷ cells) = ap (λ cs. opened c ∷ cs) (opened_again cells)

-- all fields
opened_all : (fields : List Field) (cells : List Cell)
    → map opened (after_all fields cells) ≡ map opened cells
opened_all [] cells = refl
opened_all (f ∷ fields) cells =
    opened_all fields (map (noted true f) cells) ∙ opened_noted f cells

pub opened_turn : (fields : List CommonField) (numbers : List ℕ) (cells : List Cell)
    → map opened (after_turn fields numbers cells) ≡ map opened cells
opened_turn fields numbers cells =
    opened_all (numbered fields numbers) (map opened cells) ∙ opened_again cells

-- cells that open alike have the same columns
pub columns_same : (cells cells' : List Cell) → map opened cells' ≡ map opened cells
    → map (λ c. c.column) cells' ≡ map (λ c. c.column) cells
columns_same cells cells' same =
    sym (columns_opened cells') ∙ ap (λ (cs : List Cell). map (λ c. c.column) cs) same
    ∙ columns_opened cells

-- ---- rows, span by span

-- a field that opens a span
open_row : (d : ℕ) (cells : List Cell) (in_span : Bool) (f : Field) (fields : List Field)
    → (f.fxy == d) ≡ true
    → rows_left (Some d) cells in_span (f ∷ fields)
    ≡ ended in_span cells ++ rows_left (Some d) (map (noted true f) (map opened cells)) true fields
unfolding rows_left
open_row d cells in_span f fields is =
    ap (λ b. cond b
    (ended in_span cells ++ rows_left (Some d) (map (noted true f) (map opened cells)) true fields)
    (rows_left (Some d) (map (noted in_span f) cells) in_span fields)) is

-- another field
closed_row : (d : ℕ) (cells : List Cell) (f : Field) (fields : List Field) → (f.fxy == d) ≡ false
    → rows_left (Some d) cells true (f ∷ fields)
    ≡ rows_left (Some d) (map (noted true f) cells) true fields
unfolding rows_left
closed_row d cells f fields is =
    ap (λ b. cond b
    (ended true cells ++ rows_left (Some d) (map (noted true f) (map opened cells)) true fields)
    (rows_left (Some d) (map (noted true f) cells) true fields)) is

-- no field, or the first opens a span
abbrev OpensFirst : ℕ → List Field → Type 0
OpensFirst d [] = Unit {0}
OpensFirst d (f ∷ fields) = (f.fxy == d) ≡ true

-- the rows from an opener on do not depend on the span before
rows_reopened : (d : ℕ) (cells cells' : List Cell) (fields : List Field) → OpensFirst d fields
    → map opened cells' ≡ map opened cells
    → rows_left (Some d) cells' false fields ≡ rows_left (Some d) cells false fields
rows_reopened d cells cells' [] opens same =
    rows_none (Some d) cells' false ∙ sym (rows_none (Some d) cells false)
rows_reopened d cells cells' (f ∷ fields) opens same =
    open_row d cells' false f fields opens
    ∙ ap (λ cs. rows_left (Some d) (map (noted true f) cs) true fields) same
    ∙ sym (open_row d cells false f fields opens)

-- the row of the span before comes first
rows_ended : (d : ℕ) (cells : List Cell) (in_span : Bool) (fields : List Field) → OpensFirst d fields
    → rows_left (Some d) cells in_span fields
    ≡ ended in_span cells ++ rows_left (Some d) cells false fields
rows_ended d cells in_span [] opens =
    rows_none (Some d) cells in_span ∙ sym (append-nil (ended in_span cells))
    ∙ ap (λ (t : List ℕ). ended in_span cells ++ t) (sym (rows_none (Some d) cells false))
rows_ended d cells in_span (f ∷ fields) opens =
    open_row d cells in_span f fields opens
    ∙ ap (λ (t : List ℕ). ended in_span cells ++ t) (sym (open_row d cells false f fields opens))

-- fields, and then a span
abbrev Splits : ℕ → List Field → List Field → Type 0
Splits d fields rest = (cells : List Cell) → rows_left (Some d) cells true (fields ++ rest)
    ≡ rows_left (Some d) cells true fields ++ rows_left (Some d) cells false rest

split_step : (is : Bool) (d : ℕ) (f : Field) (fields rest : List Field) → (f.fxy == d) ≡ is
    → OpensFirst d rest → Splits d fields rest → Splits d (f ∷ fields) rest
split_step true d f fields rest is opens more cells =
    let after = map (noted true f) (map opened cells) in
    let row = row_of cells in
    let last = rows_left (Some d) cells false rest in
    open_row d cells true f (fields ++ rest) is
    ∙ ap (λ (t : List ℕ). row ++ t)
    (more after
    ∙ ap (λ (t : List ℕ). rows_left (Some d) after true fields ++ t)
    (rows_reopened d cells after rest opens (opened_noted f (map opened cells) ∙ opened_again cells)))
    ∙ sym (append_assoc row (rows_left (Some d) after true fields) last)
    ∙ ap (λ (t : List ℕ). t ++ last) (sym (open_row d cells true f fields is))
split_step false d f fields rest is opens more cells =
    let after = map (noted true f) cells in
    closed_row d cells f (fields ++ rest) is
    ∙ more after
    ∙ ap (λ (t : List ℕ). rows_left (Some d) after true fields ++ t)
    (rows_reopened d cells after rest opens (opened_noted f cells))
    ∙ ap (λ (t : List ℕ). t ++ rows_left (Some d) cells false rest)
    (sym (closed_row d cells f fields is))

rows_split : (d : ℕ) (fields rest : List Field) → OpensFirst d rest → Splits d fields rest
rows_split d [] rest opens cells =
    rows_ended d cells true rest opens
    ∙ ap (λ (t : List ℕ). t ++ rows_left (Some d) cells false rest)
    (sym (rows_none (Some d) cells true))
rows_split d (f ∷ fields) rest opens cells =
    split_step (f.fxy == d) d f fields rest refl opens (rows_split d fields rest opens) cells

-- spans that are taken out of a row of spans
rows_taken : (d : ℕ) (cells : List Cell) (in_span : Bool) (taken rest : List Field)
    → OpensFirst d taken → OpensFirst d rest
    → rows_left (Some d) cells in_span (taken ++ rest)
    ≡ (ended in_span cells ++ rows_left (Some d) cells false taken)
    ++ rows_left (Some d) cells false rest
rows_taken d cells in_span [] rest first opens =
    rows_ended d cells in_span rest opens
    ∙ ap (λ (t : List ℕ). t ++ rows_left (Some d) cells false rest)
    (sym (append-nil (ended in_span cells))
    ∙ ap (λ (t : List ℕ). ended in_span cells ++ t) (sym (rows_none (Some d) cells false)))
rows_taken d cells in_span (f ∷ taken) rest first opens =
    let after = map (noted true f) (map opened cells) in
    let row = ended in_span cells in
    let last = rows_left (Some d) cells false rest in
    open_row d cells in_span f (taken ++ rest) first
    ∙ ap (λ (t : List ℕ). row ++ t)
    (rows_split d taken rest opens after
    ∙ ap (λ (t : List ℕ). rows_left (Some d) after true taken ++ t)
    (rows_reopened d cells after rest opens (opened_noted f (map opened cells) ∙ opened_again cells)))
    ∙ sym (append_assoc row (rows_left (Some d) after true taken) last)
    ∙ ap (λ (t : List ℕ). (row ++ t) ++ last) (sym (open_row d cells false f taken first))

-- ---- turn by turn

-- fields within a span
rows_within : (d : ℕ) (cells : List Cell) (fields rest : List Field)
    → AllByRecursion (λ f. (f.fxy == d) ≡ false) fields
    → rows_left (Some d) cells true (fields ++ rest)
    ≡ rows_left (Some d) (after_all fields cells) true rest
rows_within d cells [] rest none = refl
rows_within d cells (f ∷ fields) rest none =
    closed_row d cells f (fields ++ rest) none.0
    ∙ rows_within d (map (noted true f) cells) fields rest none.1

-- a span
rows_span : (d : ℕ) (cells : List Cell) (f : Field) (fields rest : List Field)
    → (f.fxy == d) ≡ true → AllByRecursion (λ g. (g.fxy == d) ≡ false) fields → OpensFirst d rest
    → rows_left (Some d) cells false ((f ∷ fields) ++ rest)
    ≡ row_of (after_all (f ∷ fields) (map opened cells)) ++ rows_left (Some d) cells false rest
rows_span d cells f fields rest is none opens =
    let first = map (noted true f) (map opened cells) in
    let after = after_all fields first in
    open_row d cells false f (fields ++ rest) is
    ∙ rows_within d first fields rest none
    ∙ rows_ended d after true rest opens
    ∙ ap (λ (t : List ℕ). row_of after ++ t)
    (rows_reopened d cells after rest opens
    (opened_all fields first ∙ opened_noted f (map opened cells) ∙ opened_again cells))

-- no field of a turn but the first opens a span
none_numbered : (d : ℕ) (fields : List CommonField) (numbers : List ℕ)
    → AllByRecursion (λ g. (g.fxy == d) ≡ false) fields
    → AllByRecursion (λ g. (g.fxy == d) ≡ false) (numbered fields numbers)
none_numbered d [] numbers none = tt
none_numbered d (f ∷ fields) [] none = tt
none_numbered d (f ∷ fields) (n ∷ numbers) none = (none.0, none_numbered d fields numbers none.1)

-- the first does
first_numbered : (d : ℕ) (f : CommonField) (others : List CommonField) (turns : List (List ℕ))
    → f.fxy ≡ d → OpensFirst d (all_numbered (f ∷ others) turns)
first_numbered d f others [] is = tt
first_numbered d f others ([] ∷ turns) is = first_numbered d f others turns is
first_numbered d f others ((n ∷ numbers) ∷ turns) is = eq-eqb f.fxy d is

turns_first : (d : ℕ) (fields : List CommonField) (turns : List (List ℕ)) → OpensTurns d fields
    → OpensFirst d (all_numbered fields turns)
turns_first d fields turns opens =
    subst (λ fs. OpensFirst d (all_numbered fs turns)) (sym opens.3)
    (first_numbered d opens.0 opens.1 turns opens.2)

begins_first : (d : ℕ) (fields : List Field) → BeginsWith d fields → OpensFirst d fields
begins_first d fields begins =
    subst (OpensFirst d) (sym begins.3) (eq-eqb begins.0.fxy d begins.2)

-- the next turn
turn_parted : (d : ℕ) (cells : List Cell) (f : CommonField) (others : List CommonField)
    (numbers : List ℕ) (turns : List (List ℕ)) → f.fxy ≡ d
    → AllByRecursion (λ g. (g.fxy == d) ≡ false) others → length numbers ≡ length (f ∷ others)
    → rows_left (Some d) cells false (all_numbered (f ∷ others) (numbers ∷ turns))
    ≡ turn_row (f ∷ others) numbers cells
    ++ rows_left (Some d) cells false (all_numbered (f ∷ others) turns)
turn_parted d cells f others [] turns is none even = absurd (omega (arith, even))
turn_parted d cells f others (n ∷ numbers) turns is none even =
    rows_span d cells (record { fxy = f.fxy; spec = f.spec; raw = Number n }) (numbered others numbers)
    (all_numbered (f ∷ others) turns) (eq-eqb f.fxy d is) (none_numbered d others numbers none)
    (first_numbered d f others turns is)

turn_first : (d : ℕ) (cells : List Cell) (fields : List CommonField) (numbers : List ℕ)
    (turns : List (List ℕ)) → OpensTurns d fields → length numbers ≡ length fields
    → rows_left (Some d) cells false (all_numbered fields (numbers ∷ turns))
    ≡ turn_row fields numbers cells ++ rows_left (Some d) cells false (all_numbered fields turns)
turn_first d cells fields numbers turns opens even =
    subst
    (λ fs. rows_left (Some d) cells false (all_numbered fs (numbers ∷ turns))
    ≡ turn_row fs numbers cells ++ rows_left (Some d) cells false (all_numbered fs turns))
    (sym opens.3)
    (turn_parted d cells opens.0 opens.1 numbers turns opens.2 opens.4
    (even ∙ ap length opens.3))

-- it comes first, and then those that are left, in cells that open alike
pub turn_next : (d : ℕ) (cells cells' : List Cell) (t t' : TurnsLeft) (numbers : List ℕ)
    → OpensTurns d t.fields → length numbers ≡ length t.fields → t.turns ≡ numbers ∷ t'.turns
    → t'.fields ≡ t.fields → map opened cells' ≡ map opened cells
    → turns_rows d cells t ≡ turn_row t.fields numbers cells ++ turns_rows d cells' t'
turn_next d cells cells' t t' numbers opens even parted same opened_same =
    let left = all_numbered t.fields t'.turns in
    ap (λ turns. rows_left (Some d) cells false (all_numbered t.fields turns)) parted
    ∙ turn_first d cells t.fields numbers t'.turns opens even
    ∙ ap (λ (text : List ℕ). turn_row t.fields numbers cells ++ text)
    (sym (rows_reopened d cells cells' left (turns_first d t.fields t'.turns opens) opened_same)
    ∙ ap (λ fs. rows_left (Some d) cells' false (all_numbered fs t'.turns)) (sym same))

-- no turn is left
pub turn_none : (d : ℕ) (cells : List Cell) (t : TurnsLeft) → t.turns ≡ []
    → turns_rows d cells t ≡ []
turn_none d cells t none =
    ap (λ turns. rows_left (Some d) cells false (all_numbered t.fields turns)) none
    ∙ rows_none (Some d) cells false

-- ---- turns among the fields of a subset

-- the rows of the turns that were taken come first
pub turns_due : (asks : ℕ → Bool) (d : ℕ) (cells cells' : List Cell) (in_span : Bool)
    (old new : List Field) (t : TurnsLeft) → Covers asks (Some d) (map (λ c. c.column) cells)
    → TakesTurns asks d old t new → map opened cells' ≡ map opened cells
    → rows_left (Some d) cells in_span old
    ≡ (ended in_span cells ++ turns_rows d cells t) ++ rows_left (Some d) cells' false new
turns_due asks d cells cells' in_span old new t covers takes same =
    let taken = all_numbered t.fields t.turns in
    let rest = begins_first d new takes.4 in
    ap (rows_left (Some d) cells in_span) takes.2
    ∙ rows_passed asks (Some d) cells in_span takes.0 (taken ++ new) covers takes.1
    ∙ rows_taken d cells in_span taken new (turns_first d t.fields t.turns takes.3) rest
    ∙ ap (λ (text : List ℕ). (ended in_span cells ++ turns_rows d cells t) ++ text)
    (sym (rows_reopened d cells cells' new rest same))

-- so it is where spans open at a descriptor
pub front_turns : (asks : ℕ → Bool) (each : Option ℕ) (d : ℕ) (cells cells' : List Cell)
    (in_span : Bool) (old new : List Field) (t : TurnsLeft) (r r' : HeldRows) (w w' : Writing)
    → each ≡ Some d → Covers asks each (map (λ c. c.column) cells) → TakesTurns asks d old t new
    → map opened cells' ≡ map opened cells
    → Puts (ended in_span cells ++ turns_rows d cells t) r w r' w'
    → PutsFront (rows_left each cells in_span old) (rows_left each cells' false new) r w r' w' (Ok tt)
front_turns asks each d cells cells' in_span old new t r r' w w' is covers takes same puts =
    subst
    (λ e. PutsFront (rows_left e cells in_span old) (rows_left e cells' false new) r w r' w' (Ok tt))
    (sym is) (
      ended in_span cells ++ turns_rows d cells t,
      rows_left (Some d) cells' false new,
      puts,
      turns_due asks d cells cells' in_span old new t
          (subst (λ e. Covers asks e (map (λ c. c.column) cells)) is covers) takes same,
      refl,
    )

-- or that stopped
pub front_stopped : (asks : ℕ → Bool) (each : Option ℕ) (d : ℕ) (cells : List Cell)
    (in_span : Bool) (old new : List Field) (t : TurnsLeft) (later : List ℕ) (r r' : HeldRows)
    (w w' : Writing) (e : ToolFault) → each ≡ Some d → Covers asks each (map (λ c. c.column) cells)
    → TakesTurns asks d old t new
    → PutsOrStops (ended in_span cells ++ turns_rows d cells t) r w r' w' (Err e)
    → PutsFront (rows_left each cells in_span old) later r w r' w' (Err e)
front_stopped asks each d cells in_span old new t later r r' w w' e is covers takes stops =
    subst (λ x. PutsFront (rows_left x cells in_span old) later r w r' w' (Err e)) (sym is) (
      ended in_span cells ++ turns_rows d cells t,
      rows_left (Some d) cells false new,
      stops,
      turns_due asks d cells cells in_span old new t
          (subst (λ x. Covers asks x (map (λ c. c.column) cells)) is covers) takes refl,
      tt,
    )

-- fewer fields are left
pub turns_fewer : (asks : ℕ → Bool) (d : ℕ) (old new : List Field) (t : TurnsLeft)
    → TakesTurns asks d old t new → length new ≤ length old
turns_fewer asks d old new t takes =
    let taken = all_numbered t.fields t.turns in
    omega (
      arith,
      ap length takes.2,
      length-append takes.0 (taken ++ new),
      length-append taken new,
    )

-- so is a text and then another
pub puts_then : (a b : List ℕ) (r r1 r2 : HeldRows) (w w1 w2 : Writing)
    (result : Result (Unit {0}) ToolFault) → Puts a r w r1 w1 → PutsOrStops b r1 w1 r2 w2 result
    → PutsOrStops (a ++ b) r w r2 w2 result
puts_then a b r r1 r2 w w1 w2 (Ok done) one two = puts_more a b r r1 r2 w w1 w2 one two
puts_then a b r r1 r2 w w1 w2 (Err e) one two = stops_more a b r r1 r2 w w1 w2 e one two

-- nothing was put
pub front_none : (due later : List ℕ) (r : HeldRows) (w : Writing) → due ≡ later
    → PutsFront due later r w r w (Ok tt)
front_none due later r w same = ([], due, puts_none r w, refl, same)

-- or there was no memory
pub front_ran_out : (due later : List ℕ) (r : HeldRows) (w : Writing) → w.failed ≡ false
    → PutsFront due later r w r w (Err faults.OutOfMemory)
front_ran_out due later r w works = ([], due, stops_none [] r w works, refl, tt)

-- ---- among the fields of a subset

-- with the fields after some that are not asked for the same rows are due
same_due : (asks : ℕ → Bool) (each : Option ℕ) (in_span : Bool) (cells noted_cells : List Cell)
    (fields mid left : List Field) (whole : List ℕ) (r r' : HeldRows) (w w' : Writing)
    → Covers asks each (map (λ c. c.column) noted_cells)
    → PutsSome whole (rows_left each cells in_span fields) r w r' w'
    → NotesUpTo each in_span cells fields noted_cells mid → PassesUnasked asks mid left
    → PutsSome whole (rows_left each noted_cells in_span left) r w r' w'
same_due asks each in_span cells noted_cells fields mid left whole r r' w w' covers puts notes passes =
    subst (λ t. PutsSome whole t r w r' w')
    (notes.0 ∙ ap (rows_left each noted_cells in_span) passes.2
    ∙ rows_passed asks each noted_cells in_span passes.0 left covers passes.1)
    puts

-- fields were noted, and turns were put
pub after_turns : (asks : ℕ → Bool) (each : Option ℕ) (in_span : Bool) (cells noted_cells : List Cell)
    (fields mid left : List Field) (whole later : List ℕ) (r r1 r2 : HeldRows) (w w1 w2 : Writing)
    → Covers asks each (map (λ c. c.column) noted_cells)
    → PutsSome whole (rows_left each cells in_span fields) r w r1 w1
    → NotesUpTo each in_span cells fields noted_cells mid → PassesUnasked asks mid left
    → PutsFront (rows_left each noted_cells in_span left) later r1 w1 r2 w2 (Ok tt)
    → w2.failed ≡ false → PutsSome whole later r w r2 w2
after_turns asks each in_span cells noted_cells fields mid left whole later r r1 r2 w w1 w2 covers puts
    notes passes front works =
    some_next whole (rows_left each noted_cells in_span left) front.0 later r r1 r2 w w1 w2
    (same_due asks each in_span cells noted_cells fields mid left whole r r1 w w1 covers puts notes passes)
    (front.3 ∙ ap (λ (t : List ℕ). front.0 ++ t) front.4) front.2 works

-- or that stopped
pub turns_stopped : (asks : ℕ → Bool) (each : Option ℕ) (in_span : Bool)
    (cells noted_cells : List Cell) (fields mid left : List Field) (whole later : List ℕ)
    (r r1 r2 : HeldRows) (w w1 w2 : Writing) (e : ToolFault)
    → Covers asks each (map (λ c. c.column) noted_cells)
    → PutsSome whole (rows_left each cells in_span fields) r w r1 w1
    → NotesUpTo each in_span cells fields noted_cells mid → PassesUnasked asks mid left
    → PutsFront (rows_left each noted_cells in_span left) later r1 w1 r2 w2 (Err e)
    → PutsOrStops whole r w r2 w2 (Err e)
turns_stopped asks each in_span cells noted_cells fields mid left whole later r r1 r2 w w1 w2 e covers
    puts notes passes front =
    some_stops whole (rows_left each noted_cells in_span left) front.0 front.1 r r1 r2 w w1 w2 e
    (same_due asks each in_span cells noted_cells fields mid left whole r r1 w w1 covers puts notes passes)
    front.3 front.2

-- ---- the loop of `nth_in_turn`

-- a field by a test of its descriptor
turn_step : (fields : List CommonField) (d ahead k : ℕ) (f : CommonField) (is : Bool)
    → k < length fields → f ≡ get_or fields k f → (f.fxy == d) ≡ is
    → turn_from d ahead k (drop k fields)
    ≡ cond is
    (cond (ahead == 0) (sources.Field k) (turn_from d (ahead - 1) (k + 1) (drop (k + 1) fields)))
    (turn_from d ahead (k + 1) (drop (k + 1) fields))
unfolding turn_from
turn_step fields d ahead k f is within at test =
    ap (turn_from d ahead k)
    (drop_more fields k f within ∙ ap (λ x. x ∷ drop (k + 1) fields) (sym at))
    ∙ ap (λ b. cond b
    (cond (ahead == 0) (sources.Field k) (turn_from d (ahead - 1) (k + 1) (drop (k + 1) fields)))
    (turn_from d ahead (k + 1) (drop (k + 1) fields)))
    test

-- a field of another descriptor
pub turn_other : (fields : List CommonField) (d ahead k : ℕ) (f : CommonField) → k < length fields
    → f ≡ get_or fields k f → not (f.fxy == d) ≡ true
    → turn_from d ahead k (drop k fields) ≡ turn_from d ahead (k + 1) (drop (k + 1) fields)
turn_other fields d ahead k f within at test =
    turn_step fields d ahead k f false within at (not_true (f.fxy == d) test)
  where
    not_true : (b : Bool) → not b ≡ true → b ≡ false
    not_true true same = absurd cc
    not_true false same = refl

-- the field that was asked for, or one before it
pub turn_here : (fields : List CommonField) (d ahead k : ℕ) (f : CommonField) (last : Bool)
    → k < length fields → f ≡ get_or fields k f → not (f.fxy == d) ≡ false → (ahead == 0) ≡ last
    → turn_from d ahead k (drop k fields)
    ≡ cond last (sources.Field k) (turn_from d (ahead - 1) (k + 1) (drop (k + 1) fields))
turn_here fields d ahead k f last within at test is =
    turn_step fields d ahead k f true within at (not_false (f.fxy == d) test)
    ∙ ap (λ b. cond b (sources.Field k) (turn_from d (ahead - 1) (k + 1) (drop (k + 1) fields))) is

-- no field is left
pub turn_end : (fields : List CommonField) (d ahead k : ℕ) → length fields ≤ k
    → turn_from d ahead k (drop k fields) ≡ sources.Before
unfolding turn_from
turn_end fields d ahead k past = ap (turn_from d ahead k) (drop_all k fields past)

pub turn_begun : (fields : List CommonField) (d n : ℕ) → (n == 0) ≡ false
    → turn_from d (n - 1) 0 fields ≡ turn_nth d n fields
turn_begun fields d zero some = absurd cc
turn_begun fields d (suc n) some =
    let same : suc n - 1 ≡ n = omega arith in ap (λ m. turn_from d m 0 fields) same

-- ---- the text of a source

-- the text after one field more
shown_step : (is : Bool) (m d index : ℕ) (before after : List Field) (f : Field)
    (fields : List CommonField) (c : Cell) → index ≡ length before
    → ((k : ℕ) → turn_text (before ++ f ∷ after) c (turn_from d k (index + 1) fields)
    ≡ value_or (slice_get (fields_with d after) k) c.before)
    → turn_text (before ++ f ∷ after) c
    (cond is (cond (m == 0) (sources.Field index) (turn_from d (m - 1) (index + 1) fields))
    (turn_from d m (index + 1) fields))
    ≡ value_or (slice_get (cond is (f ∷ fields_with d after) (fields_with d after)) m) c.before
shown_step false m d index before after f fields c at rest = rest m
shown_step true zero d index before after f fields c at rest =
    ap value_if (slice_at before after f index at)
shown_step true (suc m) d index before after f fields c at rest =
    let same : suc m - 1 ≡ m = omega arith in
    ap (λ b. turn_text (before ++ f ∷ after) c
    (cond b (sources.Field index) (turn_from d (suc m - 1) (index + 1) fields)))
    (no_zero (suc m) (λ is. omega (arith, is)))
    ∙ ap (λ k. turn_text (before ++ f ∷ after) c (turn_from d k (index + 1) fields)) same ∙ rest m

-- a source shows the field that it found
source_shown : (d ahead index : ℕ) (before : List Field) (fields : List CommonField)
    (numbers : List ℕ) (c : Cell) → index ≡ length before → length numbers ≡ length fields
    → turn_text (before ++ numbered fields numbers) c (turn_from d ahead index fields)
    ≡ value_or (slice_get (fields_with d (numbered fields numbers)) ahead) c.before
unfolding turn_from
source_shown d ahead index before [] numbers c at even = refl
source_shown d ahead index before (f ∷ fields) [] c at even = absurd (omega (arith, even))
source_shown d ahead index before (f ∷ fields) (n ∷ numbers) c at even =
    let here : Field = record { fxy = f.fxy; spec = f.spec; raw = Number n } in
    let after = numbered fields numbers in
    shown_step (f.fxy == d) ahead d index before after here fields c at
    (λ k. ap (λ turn. turn_text turn c (turn_from d k (index + 1) fields))
    (sym (append_assoc before (here ∷ []) after))
    ∙ source_shown d k (index + 1) (before ++ here ∷ []) fields numbers c
    (omega (arith, at, length-append before (here ∷ []))) (omega (arith, even)))

-- the text of an opened cell after a turn, by its column
by_column : (column : Column) (fields : List CommonField) (numbers : List ℕ) (c : Cell)
    → length numbers ≡ length fields
    → left_at (number_of column) (matching column (numbered fields numbers)) c.before []
    ≡ turn_text (numbered fields numbers) c (turn_source fields column)
by_column (columns.Fact fact) fields numbers c even = refl
by_column (columns.First d) fields numbers c even =
    sym (source_shown d 0 0 [] fields numbers c refl even)
by_column (columns.Nth d zero) fields numbers c even = refl
by_column (columns.Nth d (suc n)) fields numbers c even =
    sym (source_shown d n 0 [] fields numbers c refl even)

-- a cell after fields of a span
abbrev after_each : List Field → Cell → Cell
after_each [] c = c
after_each (f ∷ fields) c = after_each fields (noted true f c)

each_left : (fields : List Field) (c : Cell) → shown (after_each fields c) ≡ left_text c fields
each_left [] c = sym (none_left c)
each_left (f ∷ fields) c = each_left fields (noted true f c) ∙ left_noted f fields c

map_none : (cells : List Cell) → cells ≡ map (after_each []) cells
map_none [] = refl
map_none (c ∷ cells) = ap (λ cs. c ∷ cs) (map_none cells)

all_by_each : (fields : List Field) (cells : List Cell)
    → after_all fields cells ≡ map (after_each fields) cells
all_by_each [] cells = map_none cells
all_by_each (f ∷ fields) cells =
    all_by_each fields (map (noted true f) cells) ∙ map_twice (after_each fields) (noted true f) cells

texts_sourced : (fields : List CommonField) (numbers : List ℕ) (cells : List Cell)
    → length numbers ≡ length fields
    → map shown (map (after_each (numbered fields numbers)) (map opened cells))
    ≡ map (sourced fields numbers) cells
texts_sourced fields numbers [] even = refl
texts_sourced fields numbers (c ∷ cells) even =
    let one : shown (after_each (numbered fields numbers) (opened c)) ≡ sourced fields numbers c =
    each_left (numbered fields numbers) (opened c) ∙ by_column c.column fields numbers c even in
    λ i. one i ∷ texts_sourced fields numbers cells even i

-- the row of the sources is that of the turn
pub row_sourced : (fields : List CommonField) (numbers : List ℕ) (cells : List Cell)
    → length numbers ≡ length fields → sourced_row fields numbers cells ≡ turn_row fields numbers cells
row_sourced fields numbers cells even =
    sym (ap (row_text default_writer)
    (ap (map shown) (all_by_each (numbered fields numbers) (map opened cells))
    ∙ texts_sourced fields numbers cells even))

-- ---- the sources of cells

-- cells that open alike have the same sources
pub sources_kept : (fields fields' : List CommonField) (cells cells' : List Cell)
    (found : List TurnSource) → fields' ≡ fields → map opened cells' ≡ map opened cells
    → HaveSources fields cells found → HaveSources fields' cells' found
sources_kept fields fields' cells cells' found fields_same same have =
    have ∙ sym (map_twice (turn_source fields) (λ (c : Cell). c.column) cells)
    ∙ ap (map (turn_source fields)) (sym (columns_same cells cells' same))
    ∙ map_twice (turn_source fields) (λ (c : Cell). c.column) cells'
    ∙ ap (λ fs. map (λ (c : Cell). turn_source fs c.column) cells') (sym fields_same)

-- ---- lists by their first or last element

pub first_source : (fields : List CommonField) (cells others : List Cell) (found after : List TurnSource)
    (c : Cell) (s : TurnSource) → HaveSources fields cells found → cells ≡ c ∷ others
    → found ≡ s ∷ after → (s ≡ turn_source fields c.column) × HaveSources fields others after
first_source fields cells others found after c s have parted found_parted =
    let same : s ∷ after ≡ map (λ (x : Cell). turn_source fields x.column) (c ∷ others) =
    sym found_parted ∙ have ∙ ap (map (λ (x : Cell). turn_source fields x.column)) parted in
    (ap (λ xs. get_or xs 0 s) same, ap (drop 1) same)

-- lists that end alike
last_same : {A : Type 0} (xs ys : List A) (x y : A) → xs ++ x ∷ [] ≡ ys ++ y ∷ []
    → (x ≡ y) × (xs ≡ ys)
last_same xs ys x y same =
    let turned : x ∷ reverse xs ≡ y ∷ reverse ys =
    sym (reverse-append xs (x ∷ [])) ∙ ap reverse same ∙ reverse-append ys (y ∷ []) in (
      ap (λ zs. get_or zs 0 x) turned,
      sym (reverse-reverse xs) ∙ ap (λ zs. reverse (drop 1 zs)) turned ∙ reverse-reverse ys,
    )

pub last_source : (fields : List CommonField) (cells others : List Cell) (found before : List TurnSource)
    (c : Cell) (s : TurnSource) → HaveSources fields cells found → cells ≡ others ++ c ∷ []
    → found ≡ before ++ s ∷ [] → (s ≡ turn_source fields c.column) × HaveSources fields others before
last_source fields cells others found before c s have parted found_parted =
    let source : Cell → TurnSource = λ x. turn_source fields x.column in
    last_same before (map source others) s (source c)
    (sym found_parted ∙ have ∙ ap (map source) parted ∙ map-append source others (c ∷ []))

-- the field at an index
pub field_at : (fields : List CommonField) (numbers : List ℕ) (i : ℕ) (f : CommonField) (n : ℕ)
    → slice_get fields i ≡ Some f → slice_get numbers i ≡ Some n
    → slice_get (numbered fields numbers) i
    ≡ Some (record { fxy = f.fxy; spec = f.spec; raw = Number n })
field_at [] numbers i f n at found = absurd cc
field_at (g ∷ fields) [] i f n at found = absurd cc
field_at (g ∷ fields) (m ∷ numbers) zero f n at found =
    let f_is : g ≡ f = ap (λ x. get_or (of_option x) 0 g) at in
    let n_is : m ≡ n = ap (λ x. get_or (of_option x) 0 m) found in
    ap (λ (h : CommonField). Some (record { fxy = h.fxy; spec = h.spec; raw = Number m })) f_is
    ∙ ap (λ (k : ℕ). Some (record { fxy = f.fxy; spec = f.spec; raw = Number k })) n_is
  where
    of_option : {A : Type 0} → Option A → List A
    of_option None = []
    of_option (Some x) = x ∷ []
field_at (g ∷ fields) (m ∷ numbers) (suc i) f n at found = field_at fields numbers i f n at found

-- ---- the loop of `note_turn`

-- one field more was noted
pub noted_next : (fields : List CommonField) (numbers : List ℕ) (i : ℕ) (f : CommonField) (n : ℕ)
    (cells cells' : List Cell) → i < length fields → i < length numbers → f ≡ get_or fields i f
    → n ≡ get_or numbers i 0
    → cells' ≡ map (noted true (record { fxy = f.fxy; spec = f.spec; raw = Number n })) cells
    → after_all (numbered (drop (i + 1) fields) (drop (i + 1) numbers)) cells'
    ≡ after_all (numbered (drop i fields) (drop i numbers)) cells
noted_next fields numbers i f n cells cells' inside within at found is =
    let fields_parted : drop i fields ≡ f ∷ drop (i + 1) fields =
    drop_more fields i f inside ∙ ap (λ x. x ∷ drop (i + 1) fields) (sym at) in
    let numbers_parted : drop i numbers ≡ n ∷ drop (i + 1) numbers =
    drop_more numbers i 0 within ∙ ap (λ x. x ∷ drop (i + 1) numbers) (sym found) in
    ap (after_all (numbered (drop (i + 1) fields) (drop (i + 1) numbers))) is
    ∙ sym (ap (λ fs. after_all (numbered fs (drop i numbers)) cells) fields_parted
    ∙ ap (λ ns. after_all (numbered (f ∷ drop (i + 1) fields) ns) cells) numbers_parted)

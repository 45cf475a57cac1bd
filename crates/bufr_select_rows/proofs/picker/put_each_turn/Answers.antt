-- Turn by turn, until none is left.
use Rattle.std.proofs.Common.{◌≡◌, ◌++◌, ◌∷◌, [], Ok, ◌∙◌, ap, arith, length, refl, subst, sym}
use Rattle.std.specs.Bool.{OnFalse, OnTrue}
use Rattle.bufr_data.specs.Turns.{OpensTurns}
use Rattle.bufr_io.specs.HeldLaws.{some_first, some_last, some_next, some_stops}
use Rattle.bufr_io.specs.HeldLaws.{puts_none}
use Rattle.bufr_io.specs.HeldTexts.{PutsOrStops}
use Rattle.bufr_io.specs.PassingLaws.{passed}
use Rattle.bufr_select_rows.specs.Asks.{Finds}
use Rattle.bufr_select_rows.specs.Turns.{turn_row, turns_rows}
use Rattle.bufr_select_rows.proofs.TurnFacts.{columns_same, sources_kept, turn_next, turn_none}
use Rattle.bufr_select_rows.proofs.picker.put_each_turn.Goals as goal

-- at first no turn was read
pub turns-init : goal.turns-init
turns-init g c =
    let a = c.args in
    record {
      rows = λ d opens. some_first (turns_rows d a.cells.now a.turns.now) a.rows.now
          (g.W.Sink.writing a.writer.now) c.requires.works;
      works = c.requires.works;
      opened = refl;
      fields = refl;
      even = c.requires.even;
    }

-- the numbers are as many as the fields
pub next-requires : goal.next-requires
next-requires g c = c.turns.invariant.even ∙ ap length (sym c.turns.invariant.fields)

-- the set knows the cells
pub put_turn-requires-clause-finds : goal.put_turn-requires-clause-finds
put_turn-requires-clause-finds g c =
    subst (Finds c.args.asked.now)
    (sym (columns_same c.args.cells.now c.turns.cells c.turns.invariant.opened)) c.requires.finds

-- the sources are those of the cells
pub put_turn-requires-clause-sources : goal.put_turn-requires-clause-sources
put_turn-requires-clause-sources g c =
    sources_kept c.args.turns.now.fields c.fields.result.now c.args.cells.now c.turns.cells
    c.args.sources.now (c.fields.ensures ∙ c.next.ensures.fields ∙ c.turns.invariant.fields)
    c.turns.invariant.opened c.requires.sources

pub put_turn-requires-clause-even : goal.put_turn-requires-clause-even
put_turn-requires-clause-even g c =
    c.next.ensures.length ∙ c.turns.invariant.even
    ∙ ap length (sym (c.fields.ensures ∙ c.next.ensures.fields ∙ c.turns.invariant.fields))

-- putting the row of a turn stopped
pub returns-in_err-put_turn-clause-puts : goal.returns-in_err-put_turn-clause-puts
returns-in_err-put_turn-clause-puts g c d opens =
    let a = c.args in
    let inv = c.turns.invariant in
    let w = g.W.Sink.writing a.writer.now in
    let w1 = g.W.Sink.writing c.turns.writer in
    let w2 = g.W.Sink.writing c.put_turn.new.writer in
    let e = c.in_err-put_turn.field-0.0 in
    let left = c.turns.turns in
    let numbers = c.next.new.numbers in
    let parted = subst (λ b. OnTrue b (left.turns ≡ numbers ∷ c.next.new.self.turns))
    c.turns-test.true c.next.ensures.more in
    let same = c.fields.ensures ∙ c.next.ensures.fields in
    passed
    (PutsOrStops (turns_rows d a.cells.now a.turns.now) a.rows.now w c.put_turn.new.rows w2)
    c.from_residual.result e c.from_residual.ensures.1
    (some_stops (turns_rows d a.cells.now a.turns.now) (turns_rows d c.turns.cells left)
    (turn_row c.fields.result.now numbers c.turns.cells)
    (turns_rows d c.turns.cells c.next.new.self) a.rows.now c.turns.rows c.put_turn.new.rows w w1 w2 e
    (inv.rows d opens)
    (turn_next d c.turns.cells c.turns.cells left c.next.new.self numbers
    (subst (OpensTurns d) (sym inv.fields) opens)
    (c.next.ensures.length ∙ inv.even ∙ ap length (sym inv.fields)) parted c.next.ensures.fields refl
    ∙ ap (λ fs. turn_row fs numbers c.turns.cells ++ turns_rows d c.turns.cells c.next.new.self)
    (sym same))
    c.in_err-put_turn.ensures.puts)

-- the row of one turn more was put
pub turns-preserved : goal.turns-preserved
turns-preserved g c =
    let a = c.args in
    let inv = c.turns.invariant in
    let w = g.W.Sink.writing a.writer.now in
    let w1 = g.W.Sink.writing c.turns.writer in
    let w2 = g.W.Sink.writing c.put_turn.new.writer in
    let e = c.in_ok-put_turn.ensures in
    let left = c.turns.turns in
    let numbers = c.next.new.numbers in
    let parted = subst (λ b. OnTrue b (left.turns ≡ numbers ∷ c.next.new.self.turns))
    c.turns-test.true c.next.ensures.more in
    let same = c.fields.ensures ∙ c.next.ensures.fields in
    record {
      rows = λ d opens.
          some_next (turns_rows d a.cells.now a.turns.now) (turns_rows d c.turns.cells left)
          (turn_row c.fields.result.now numbers c.turns.cells)
          (turns_rows d c.put_turn.new.cells c.next.new.self) a.rows.now c.turns.rows
          c.put_turn.new.rows w w1 w2 (inv.rows d opens)
          (turn_next d c.turns.cells c.put_turn.new.cells left c.next.new.self numbers
          (subst (OpensTurns d) (sym inv.fields) opens)
          (c.next.ensures.length ∙ inv.even ∙ ap length (sym inv.fields)) parted c.next.ensures.fields
          e.opened
          ∙ ap
          (λ fs. turn_row fs numbers c.turns.cells
          ++ turns_rows d c.put_turn.new.cells c.next.new.self)
          (sym same))
          e.puts e.works;
      works = e.works;
      opened = e.opened ∙ inv.opened;
      fields = c.next.ensures.fields ∙ inv.fields;
      even = c.next.ensures.length ∙ inv.even;
    }

-- one turn fewer is left
pub turns-smaller : goal.turns-smaller
turns-smaller g c =
    let parted = subst
    (λ b. OnTrue b (c.turns.turns.turns ≡ c.next.new.numbers ∷ c.next.new.self.turns))
    c.turns-test.true c.next.ensures.more in
    omega (arith, ap length parted)

-- no turn is left
pub returns-clause-puts : goal.returns-clause-puts
returns-clause-puts g c d opens =
    let a = c.args in
    let inv = c.turns.invariant in
    let none = subst (λ b. OnFalse b (c.turns.turns.turns ≡ [])) c.turns-test.false c.next.ensures.end in
    some_last (turns_rows d a.cells.now a.turns.now) (turns_rows d c.turns.cells c.turns.turns) []
    a.rows.now c.turns.rows c.turns.rows (g.W.Sink.writing a.writer.now)
    (g.W.Sink.writing c.turns.writer) (g.W.Sink.writing c.turns.writer) (Ok tt) (inv.rows d opens)
    (turn_none d c.turns.cells c.turns.turns none)
    (puts_none c.turns.rows (g.W.Sink.writing c.turns.writer))

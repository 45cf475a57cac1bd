-- One lent text, or none.
use Rattle.std.proofs.Common.{arith}
use Rattle.bufr_select_rows.specs.Asks.{flagged}
use Rattle.bufr_select_rows.proofs.SettledFacts.{columns_kept, hands_fewer, passes_fewer, row_next, row_passed}
use Rattle.bufr_select_rows.proofs.SettledFacts.{settled_next}
use Rattle.bufr_select_rows.proofs.filling.fill_text.Goals as goal

pub returns-in-None-clause-row : goal.returns-in-None-clause-row
returns-in-None-clause-row g c =
    row_passed (flagged c.args.asked.now) c.args.cells.now (g.P.SubsetFields.left c.args.fields.now)
    (g.P.SubsetFields.left c.pick_text.new.self) c.requires.0 c.in-None.ensures.others

pub returns-in-None-clause-fewer : goal.returns-in-None-clause-fewer
returns-in-None-clause-fewer g c =
    passes_fewer (flagged c.args.asked.now) (g.P.SubsetFields.left c.args.fields.now)
    (g.P.SubsetFields.left c.pick_text.new.self) c.in-None.ensures.others

pub returns-in_ok-note_text-in-Some-clause-row : goal.returns-in_ok-note_text-in-Some-clause-row
returns-in_ok-note_text-in-Some-clause-row g c =
    let found = c.in-Some.ensures.found in
    row_next (flagged c.args.asked.now) c.args.cells.now c.note_text.new.cells found.0
    (g.P.SubsetFields.left c.args.fields.now) (g.P.SubsetFields.left c.pick_text.new.self)
    c.requires.0 found.2 (c.in_ok-note_text-in-Some.ensures found.0 found.1)

pub returns-in_ok-note_text-in-Some-clause-columns : goal.returns-in_ok-note_text-in-Some-clause-columns
returns-in_ok-note_text-in-Some-clause-columns g c =
    let found = c.in-Some.ensures.found in
    columns_kept c.args.cells.now c.note_text.new.cells found.0
    (c.in_ok-note_text-in-Some.ensures found.0 found.1)

pub returns-in_ok-note_text-in-Some-clause-settled : goal.returns-in_ok-note_text-in-Some-clause-settled
returns-in_ok-note_text-in-Some-clause-settled g c n settled =
    let found = c.in-Some.ensures.found in
    settled_next n c.args.cells.now c.note_text.new.cells found.0
    (c.in_ok-note_text-in-Some.ensures found.0 found.1) settled

pub returns-in_ok-note_text-in-Some-clause-fewer : goal.returns-in_ok-note_text-in-Some-clause-fewer
returns-in_ok-note_text-in-Some-clause-fewer g c =
    let found = c.in-Some.ensures.found in
    omega (
      arith,
      hands_fewer (flagged c.args.asked.now) found.0
          (g.P.SubsetFields.left c.args.fields.now) (g.P.SubsetFields.left c.pick_text.new.self) found.2,
    )

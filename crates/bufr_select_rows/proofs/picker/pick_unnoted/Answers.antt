-- Outside spans no number is noted.
use Rattle.bufr_select_rows.specs.Asks.{flagged}
use Rattle.bufr_select_rows.proofs.PickedFacts.{none_noted}
use Rattle.bufr_select_rows.proofs.picker.pick_unnoted.Goals as goal

pub returns-in_default-clause-others : goal.returns-in_default-clause-others
returns-in_default-clause-others g c =
    let a = c.args in
    none_noted (flagged a.asked.now) a.each a.in_span a.cells.now (g.P.SubsetFields.left a.fields.now)
    (g.P.SubsetFields.left c.pick_number.new.self) c.pick_number.result c.pick_number.ensures.others

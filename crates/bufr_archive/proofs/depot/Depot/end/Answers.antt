-- The end of one slot's stream, as a step of the depot.
use Rattle.std.proofs.Common.{◌∙◌, []}
use Rattle.bufr_archive.proofs.HeldFacts.{none_there, end_does}
use Rattle.bufr_archive.proofs.depot.Depot.end.Goals as goal

pub returns-then-slot-len : goal.returns-then-slot-len
returns-then-slot-len g c =
    (none_there c.args.self.now _ c.args.slot _ [] c.self.view_is
    (c.len.ensures ∙ c.self.inside.slots.ok.0) c.if-slot-len.true).1

pub returns : goal.returns
returns g c =
    end_does c.reports_told_are_under.ensures c.args.self.now _ c.args.slot _
    c.index_mut.result.now c.end.new.self c.self.view_is
    (c.len.ensures ∙ c.self.inside.slots.ok.0) c.if-slot-len.false c.index_mut.ensures.value
    c.end.result c.end.ensures.ends

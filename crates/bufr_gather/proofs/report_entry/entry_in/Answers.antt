-- By the view of octets with one report.
use Rattle.std.proofs.Common.{◌∙◌}
use Rattle.bufr_gather.proofs.ReportFacts.{none_of_more}
use Rattle.bufr_gather.proofs.report_entry.entry_in.Goals as goal

pub returns-then-count-ne1-clause-is : goal.returns-then-count-ne1-clause-is
returns-then-count-ne1-clause-is c =
    none_of_more c.args.message_reader.now c.args.octets.now c.in-Ok.view c.in-Ok.ensures.exact
    (λ one. c.if-count-ne1.true (c.count.ensures ∙ one))

pub returns-clause-is : goal.returns-clause-is
returns-clause-is c =
    c.own_entry.ensures c.args.message_reader.now c.in-Ok.ensures.exact c.in-Ok.ensures.found

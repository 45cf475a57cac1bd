-- By the fields of the report.
use Rattle.std.proofs.lemmas.Result.{IfOk-weaker}
use Rattle.bufr_gather.proofs.ReportFacts.{key_there}
use Rattle.bufr_gather.proofs.report_entry.MessageReports.key_at.Goals as goal

pub returns : goal.returns
returns c =
    IfOk-weaker _ _ _ (λ found is. key_there c.args.self.now.view.message c.args.index
    (record { fields = c.in_ok-fields.fields }) c.head.result.now c.of_head-head.result found
    c.in_ok-fields.ensures c.head.ensures c.of_head-head.ensures is) c.key_of_fields.ensures

use Rattle.bufr_message.proofs.ViewFacts.{all_under_answer}
use Rattle.bufr_message.proofs.report.reports.Goals as goal

pub returns-clause-under : goal.returns-clause-under
returns-clause-under c =
    all_under_answer c.reports_have_canonical_messages.ensures c.args.message (λ v. v.items)
    c.reports_of.result c.reports_of.ensures

use Rattle.std.proofs.Common.{subst}
use Rattle.bufr_base.specs.Answers.{Gives}
use Rattle.bufr_message.specs.Reports.{alone}
use Rattle.bufr_message.proofs.report.canonical.Goals as goal

pub returns-clause-under : goal.returns-clause-under
returns-clause-under c = λ octets is.
    subst (Gives (λ v. v.items) c.octets_of.result)
    (c.written_messages_are_spelt.ensures.only c.args.tables.now
    (alone c.args.report.now) octets is.spelt)
    (rw (c.with_no_local-head.ensures, c.as_slice.ensures, c.from_ref-subsets.ensures.value)
    at c.octets_of.ensures)

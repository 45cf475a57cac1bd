use Rattle.std.proofs.Common.{sym, subst}
use Rattle.std.proofs.lemmas.Result.{IfOk-weaker, IfErr-weaker}
use Rattle.bufr_data.specs.Handed.{PassesUnasked}
use Rattle.bufr_data.proofs.AskedFacts.{asked_handed}
use Rattle.bufr_data.proofs.plain.laid_fields.LaidFields.next_asked.Goals as goal

pub returns-clause-found : goal.returns-clause-found
returns-clause-found g c =
    IfOk-weaker c.next.result _ _
    (λ found handed. asked_handed (g.A.Asks.is_asked c.args.asked.now) c.args.self.now
    c.pass_unasked.new.self c.next.new.self found c.pass_unasked.ensures.passed
    c.pass_unasked.ensures.asked handed)
    c.next.ensures.found

pub returns-clause-err : goal.returns-clause-err
returns-clause-err g c =
    IfErr-weaker c.next.result _ _
    (λ refused left. subst (PassesUnasked (g.A.Asks.is_asked c.args.asked.now) c.args.self.now)
    (sym left) c.pass_unasked.ensures.passed)
    c.next.ensures.err

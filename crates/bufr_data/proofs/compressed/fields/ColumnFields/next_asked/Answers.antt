use Rattle.std.proofs.Common.{sym, subst, ◌∙◌}
use Rattle.std.proofs.lemmas.Result.{IfOk-weaker, IfErr-weaker}
use Rattle.bufr_data.specs.Handed.{PassesUnasked, FirstIsAsked}
use Rattle.bufr_data.proofs.AskedFacts.{one_passed, asked_handed}
use Rattle.bufr_data.proofs.compressed.fields.ColumnFields.next_asked.Goals as goal

pub loop-preserved : goal.loop-preserved
loop-preserved g c =
    one_passed (g.A.Asks.is_asked c.args.asked.now) c.args.self.now c.loop.self c.pass_first.new.self
    c.loop.invariant c.loop-test.ensures.passed

pub returns-clause-found : goal.returns-clause-found
returns-clause-found g c =
    let same = sym c.loop-test.ensures.unmoved in
    IfOk-weaker c.next.result _ _
    (λ found handed. asked_handed (g.A.Asks.is_asked c.args.asked.now) c.args.self.now
    c.pass_first.new.self c.next.new.self found
    (subst (PassesUnasked (g.A.Asks.is_asked c.args.asked.now) c.args.self.now) same
    c.loop.invariant)
    (subst (FirstIsAsked (g.A.Asks.is_asked c.args.asked.now)) same c.loop-test.ensures.asked)
    handed)
    c.next.ensures.found

pub returns-clause-err : goal.returns-clause-err
returns-clause-err g c =
    IfErr-weaker c.next.result _ _
    (λ refused left. subst (PassesUnasked (g.A.Asks.is_asked c.args.asked.now) c.args.self.now)
    (sym c.loop-test.ensures.unmoved ∙ sym left) c.loop.invariant)
    c.next.ensures.err

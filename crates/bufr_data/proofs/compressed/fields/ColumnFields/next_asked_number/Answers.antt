use Rattle.std.proofs.Common.{sym, subst}
use Rattle.bufr_data.specs.Handed.{PassesUnasked, FirstIsAsked}
use Rattle.bufr_data.proofs.AskedFacts.{one_passed, number_handed, number_refused}
use Rattle.bufr_data.proofs.compressed.fields.ColumnFields.next_asked_number.Goals as goal

pub loop-preserved : goal.loop-preserved
loop-preserved g c =
    one_passed (g.A.Asks.is_asked c.args.asked.now) c.args.self.now c.loop.self c.pass_first.new.self
    c.loop.invariant c.loop-test.ensures.passed

pub returns-clause-found : goal.returns-clause-found
returns-clause-found g c =
    let P = g.A.Asks.is_asked c.args.asked.now in
    let same = sym c.loop-test.ensures.unmoved in
    number_handed P c.args.self.now c.pass_first.new.self c.next_number.new.self
    c.next_number.result (subst (PassesUnasked P c.args.self.now) same c.loop.invariant)
    (subst (FirstIsAsked P) same c.loop-test.ensures.asked) c.next_number.ensures.found

pub returns-clause-others : goal.returns-clause-others
returns-clause-others g c =
    let P = g.A.Asks.is_asked c.args.asked.now in
    number_refused P c.args.self.now c.pass_first.new.self c.next_number.new.self
    c.next_number.result
    (subst (PassesUnasked P c.args.self.now) (sym c.loop-test.ensures.unmoved) c.loop.invariant)
    c.next_number.ensures.others

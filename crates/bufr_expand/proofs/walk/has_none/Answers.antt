-- The search goes through just these nodes.
use Rattle.std.proofs.Common.{rules, tests, not, take, drop, ◌-◌}
use Rattle.std.proofs.lemmas.Iterator.{YieldsList-from_slice}
use Rattle.std.proofs.lemmas.Iterator.Search.{all_from_yields_List}
use Rattle.bufr_expand.specs.Asked.{none_between, tells}
use Rattle.bufr_expand.proofs.AskedFacts.{told_so}
use Rattle.bufr_expand.proofs.walk.has_none.Goals as goal

pub returns : goal.returns
returns g c =
    let a = c.args in
    let P = g.A.Asks.is_asked a.asked.now in
    told_so c.all.result (none_between P a.nodes.now a.from a.to)
    (all_from_yields_List (λ node. not (tells P node)) _ _ c.all.result c.all.ensures.ran
    (YieldsList-from_slice (take (a.to - a.from) (drop a.from a.nodes.now)) cc)
    (λ x b q k. search (rules, tests)))

-- The course after the number of a count.
use Rattle.std.proofs.Common.{Some, None, refl}
use Rattle.bufr_expand.specs.Walks.{left, waits, items_met}
use Rattle.bufr_expand.proofs.PassFacts.{counted, waits_for}
use Rattle.bufr_expand.proofs.walk.Walk.count.Goals as goal

pub returns-in-None : goal.returns-in-None
unfolding left waits items_met
returns-in-None c =
    counted c.args.self.now _ c.in-Waiting.asked None c.args.n c.in-Waiting.is c.in-None.is
    (refl, refl, refl)

pub returns-in-Some : goal.returns-in-Some
returns-in-Some c =
    counted c.args.self.now c.enter.new.self c.in-Waiting.asked (Some c.in-Some.from) c.args.n
    c.in-Waiting.is c.in-Some.is
    (c.enter.ensures.course, c.enter.ensures.goes, c.enter.ensures.items)

pub returns-in_default : goal.returns-in_default
unfolding waits
returns-in_default c = absurd (waits_for c.args.self.now.state c.requires.asked
    c.in_default.not-Waiting)

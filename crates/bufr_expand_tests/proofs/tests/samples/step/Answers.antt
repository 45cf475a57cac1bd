use Rattle.bufr_expand.specs.Walks.{left}
use Rattle.bufr_expand_tests.proofs.Steps.{asks_bits, asks_none}
use Rattle.bufr_expand_tests.proofs.tests.samples.step.Goals as goal

pub count-requires-clause-asked : goal.count-requires-clause-asked
count-requires-clause-asked c = (asks_bits
    (left c.args.walk.now) c.next-answer.result c.next-answer.new.self c.in-Some.width
    c.next-answer.ensures c.in-Some.ensures).waiting

pub count-requires-clause-fits : goal.count-requires-clause-fits
count-requires-clause-fits c = (asks_bits
    (left c.args.walk.now) c.next-answer.result c.next-answer.new.self c.in-Some.width
    c.next-answer.ensures c.in-Some.ensures).below c.number.result c.number.ensures

pub returns-in-Some : goal.returns-in-Some
returns-in-Some c = (asks_bits (left c.args.walk.now) c.next-answer.result c.next-answer.new.self
    c.in-Some.width c.next-answer.ensures c.in-Some.ensures).answered c.number.result
    c.count.new.self c.count.ensures

pub returns-in-None : goal.returns-in-None
returns-in-None c = asks_none (left c.args.walk.now) c.next-answer.result c.next-answer.new.self
    c.next-answer.ensures c.in-None.ensures

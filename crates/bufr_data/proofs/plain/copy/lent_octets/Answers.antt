-- Whole octets are the bits between their ends, filled with zero bits.
use Rattle.bufr_bits.specs.Ends.{left}
use Rattle.bufr_data.proofs.PlainFacts.Copied.{lent_there}
use Rattle.bufr_data.proofs.plain.copy.lent_octets.Goals as goal

pub returns-in-Some-eq0 : goal.returns-in-Some-eq0
returns-in-Some-eq0 c =
    lent_there c.args.octets.now c.args.from c.args.end c.in-Some-eq0.field-0
    (left c.take.new.self) c.requires.onward c.requires.inside c.if-from-ne0.false
    c.in-Some-eq0.field-0-test (rw c.at.ensures at c.in-Some-eq0.ensures.found)

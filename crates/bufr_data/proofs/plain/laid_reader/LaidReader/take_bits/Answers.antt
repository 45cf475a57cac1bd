use Rattle.std.proofs.Common.{◌≡◌, subst, Some}
use Rattle.bufr_bits.specs.Bits.{number_at}
use Rattle.bufr_bits.specs.Ends.{BitPlace, left}
use Rattle.bufr_data.proofs.PlainFacts.NumberTurns.{number_is}
use Rattle.bufr_data.proofs.plain.laid_reader.LaidReader.take_bits.Goals as goal

pub returns-clause-found : goal.returns-clause-found
returns-clause-found c =
    number_is c.args.width c.take_left-number.result (left c.args.self.now)
    (left c.take_left-number.new.self) c.requires.enough
    (subst (λ (r : BitPlace). number_at c.args.width (left r)
    ≡ Some (c.take_left-number.result, left c.take_left-number.new.self)) c.here.ensures
    c.take_left-number.ensures.found)

use Rattle.bufr_bits.specs.Ends.{left}
use Rattle.bufr_data.proofs.PlainFacts.Passed.{number_has_bits}
use Rattle.bufr_data.proofs.plain.laid_reader.LaidReader.take_number.Goals as goal

pub take_left-number-requires : goal.take_left-number-requires
take_left-number-requires c =
    let has =
    number_has_bits c.args.spec (left c.args.self.now) c.in_default.not-Text c.requires in
    rw c.here.ensures record { narrow = has.narrow; enough = has.enough }

pub move_on-requires : goal.move_on-requires
move_on-requires c =
    rw c.from.ensures
    (number_has_bits c.args.spec (left c.args.self.now) c.in_default.not-Text c.requires).enough

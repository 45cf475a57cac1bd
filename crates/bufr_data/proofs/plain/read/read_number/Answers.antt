use Rattle.bufr_bits.specs.Ends.{left}
use Rattle.bufr_data.proofs.PlainFacts.Passed.{number_has_bits}
use Rattle.bufr_data.proofs.plain.read.read_number.Goals as goal

pub take_left-requires : goal.take_left-requires
take_left-requires c =
    let has =
    number_has_bits c.args.spec (left c.args.reader.now) c.in_default.not-Text c.requires in
    record { narrow = has.narrow; enough = has.enough }

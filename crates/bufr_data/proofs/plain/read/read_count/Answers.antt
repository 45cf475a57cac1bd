use Rattle.bufr_bits.specs.Ends.{left}
use Rattle.bufr_tables.specs.declared.element.Kind.TheVariants as kinds
use Rattle.bufr_data.proofs.KindFacts.{other_kind}
use Rattle.bufr_data.proofs.PlainFacts.Passed.{number_has_bits, number_taken, other_than_text}
use Rattle.bufr_data.proofs.plain.read.read_count.Goals as goal

pub take_left-requires : goal.take_left-requires
take_left-requires c =
    let has =
    number_has_bits c.args.spec (left c.args.reader.now)
    (other_than_text c.args.spec c.requires.count) c.requires.there in
    record { narrow = has.narrow; enough = has.enough }

pub returns : goal.returns
returns c =
    let other = other_than_text c.args.spec c.requires.count in
    let has = number_has_bits c.args.spec (left c.args.reader.now) other c.requires.there in
    number_taken 1 c.args.spec (left c.args.reader.now) _ _
    (other_kind c.args.spec.kind kinds.Text other) has.narrow c.take_left.ensures.found

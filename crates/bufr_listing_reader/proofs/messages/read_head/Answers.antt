use Rattle.std.proofs.Common.{codes}
use Rattle.bufr_listing_reader.specs.Reading.{read_numbers, section1_limits}
use Rattle.bufr_listing_reader.proofs.SubsetFacts.{line_takes}
use Rattle.bufr_listing_reader.proofs.LineFacts.{numbers_take}
use Rattle.bufr_listing_reader.proofs.messages.read_head.Goals as goal

pub head_of-requires-clause-numbers : goal.head_of-requires-clause-numbers
head_of-requires-clause-numbers c =
    let one =
    line_takes
    (read_numbers (codes "section1") section1_limits) _ _ _ c.in_ok-numbers.ensures.read in
    rw c.deref.ensures.value
    (numbers_take
    (codes "section1") section1_limits one.line.number one.line.text
    c.in_ok-numbers.numbers.items one.reads).1

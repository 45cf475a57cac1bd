-- The increment at an index comes after those before it.
use Rattle.std.proofs.Common.{sym, ◌+◌, ◌*◌, ◌∙◌}
use Rattle.std.proofs.lemmas.List.{drop-drop}
use Rattle.bufr_bits.specs.Bits.{bits}
use Rattle.bufr_bits.specs.Ends.{left}
use Rattle.bufr_data.proofs.CompressedFacts.Passed.{product_is}
use Rattle.bufr_data.proofs.CompressedFacts.Values.{increment_left, increment_short, increment_there}
use Rattle.bufr_data.proofs.CompressedFacts.Values.{minimum_is}
use Rattle.bufr_data.proofs.compressed.head.number_under.Goals as goal

pub returns-then-k-eq0 : goal.returns-then-k-eq0
returns-then-k-eq0 c =
    minimum_is c.args.octets.now c.args.bit c.args.index c.args.spec c.args.head c.requires
    c.if-k-eq0.true

pub returns-then-start-from : goal.returns-then-start-from
returns-then-start-from c =
    increment_short c.args.octets.now c.args.bit c.args.index c.args.spec c.args.head
    (c.from.result * c.from-2.result) c.requires c.if-k-eq0.false
    (product_is _ _ _ _ c.from.ensures c.from-2.ensures)
    (rw c.from-3.ensures at c.if-start-from.true)

pub take_left-increment-requires-clause-enough :
    goal.take_left-increment-requires-clause-enough
take_left-increment-requires-clause-enough c =
    rw c.at-reader.ensures
    (increment_left c.args.octets.now (c.args.head.first + c.from.result * c.from-2.result)
    c.args.head.increment_bits (rw c.from-3.ensures at c.if-start-from.false))

pub raised-requires : goal.raised-requires
raised-requires c = record { narrow = c.requires.narrow; few = c.requires.few }

pub returns : goal.returns
returns c =
    c.raised.ensures.value
    ∙ increment_there c.args.octets.now c.args.bit c.args.index c.args.spec c.args.head
    (c.from.result * c.from-2.result) (left c.at-reader.result) _ c.requires c.if-k-eq0.false
    (product_is _ _ _ _ c.from.ensures c.from-2.ensures)
    (rw c.at-reader.ensures
    (sym (drop-drop (c.from.result * c.from-2.result) c.args.head.first (bits c.args.octets.now))))
    c.take_left-increment.ensures.found

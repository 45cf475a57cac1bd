use Rattle.std.proofs.Common.{ap, ◌∙◌, arith}
use Rattle.bufr_bits.specs.BitLaws.{number_at_is}
use Rattle.bufr_bits.specs.Ends.{BitPlace}
use Rattle.bufr_data.proofs.PlainFacts.Copied.{none_put, left_long, one_more_put, all_put}
use Rattle.bufr_data.proofs.plain.copy.copy_fields.Goals as goal

pub loop-reader-init : goal.loop-reader-init
loop-reader-init c =
    none_put c.args.octets.now c.args.from c.args.end c.args.sink.now c.at-reader.result
    c.requires.onward c.at-reader.ensures

pub take_left-number-requires-clause-enough : goal.take_left-number-requires-clause-enough
take_left-number-requires-clause-enough c =
    let long =
    left_long c.args.octets.now c.args.from c.args.end c.args.sink.now c.loop-reader.reader
    c.loop-reader.sink c.requires.inside c.loop-reader.invariant in
    omega (arith, long, c.min-width.ensures, c.place-in-loop-reader.ensures)

pub put_field-requires-clause-fits : goal.put_field-requires-clause-fits
put_field-requires-clause-fits c =
    (number_at_is c.min-width.result c.take_left-number.result _ _
    c.take_left-number.ensures.found).1

pub loop-reader-smaller : goal.loop-reader-smaller
loop-reader-smaller c =
    omega (
      arith,
      ap (λ (p : BitPlace). p.place) c.take_left-number.ensures.moved,
      c.min-width.ensures,
      c.place.ensures,
      c.place-in-loop-reader.ensures,
      c.loop-reader-test.true,
    )

pub loop-reader-preserved : goal.loop-reader-preserved
loop-reader-preserved c =
    one_more_put c.args.octets.now c.args.from c.args.end c.min-width.result
    c.take_left-number.result c.args.sink.now c.loop-reader.sink c.put_field.new.sink
    c.loop-reader.reader c.take_left-number.new.self c.loop-reader.invariant
    (omega (
      arith,
      c.min-width.ensures,
      c.place.ensures,
      c.place-in-loop-reader.ensures,
      c.loop-reader-test.true,
    ))
    c.take_left-number.ensures.found c.take_left-number.ensures.moved c.in_ok-put_field.ensures.ok

pub returns-in_err-put_field-clause-kept : goal.returns-in_err-put_field-clause-kept
returns-in_err-put_field-clause-kept c =
    (_, c.in_err-put_field.ensures.err ∙ c.loop-reader.invariant.put)

pub returns-clause-put : goal.returns-clause-put
returns-clause-put c =
    all_put c.args.octets.now c.args.from c.args.end c.args.sink.now c.loop-reader.reader
    c.loop-reader.sink c.loop-reader.invariant
    (omega (arith, c.loop-reader-test.false, c.place.ensures))

pub returns-clause-kept : goal.returns-clause-kept
returns-clause-kept c = (_, c.loop-reader.invariant.put)

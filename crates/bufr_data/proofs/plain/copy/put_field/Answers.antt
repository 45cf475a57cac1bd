-- Seven octets of a number are its field.
use Rattle.std.proofs.Common.{ap, ◌++◌, ◌∙◌}
use Rattle.bufr_data.proofs.PlainFacts.Copied.{seven_octets, ok_then}
use Rattle.bufr_data.proofs.plain.copy.put_field.Goals as goal

pub returns-clause-ok : goal.returns-clause-ok
returns-clause-ok c =
    ok_then c.put_bytes.result
    (λ put. put
    ∙ ap (λ xs. c.args.sink.now ++ xs)
    (seven_octets c.args.width c.args.number c.to_be_bytes.result c.requires.width
    c.if-width-lt-BITS_AT_ONCE.false c.to_be_bytes.ensures))
    c.put_bytes.ensures.ok

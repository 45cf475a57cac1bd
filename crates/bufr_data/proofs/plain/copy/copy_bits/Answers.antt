-- Whole octets first, and then the bits after them.
use Rattle.bufr_data.proofs.PlainFacts.Copied.{edge_put, ok_then}
use Rattle.bufr_data.proofs.plain.copy.copy_bits.Goals as goal

pub returns-clause-put : goal.returns-clause-put
returns-clause-put c =
    ok_then c.copy_fields-2.result
    (edge_put c.args.octets.now c.args.from c.args.end c.args.sink.now c.put_bytes.new.self
    c.copy_fields-2.new.sink c.requires.onward c.requires.inside c.if-from-ne0.false
    c.in_ok-put_bytes.ensures.ok)
    c.copy_fields-2.ensures.put

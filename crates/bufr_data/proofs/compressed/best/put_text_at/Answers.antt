use Rattle.std.proofs.Common.{◌∙◌, ◌++◌, append-nil, sym, ap}
use Rattle.bufr_bits.specs.Bits.{bits}
use Rattle.bufr_data.specs.Compressed.Best.{first_raw, octets_of}
use Rattle.bufr_data.proofs.CompressedFacts.Rows.{next_is, none_next}
use Rattle.bufr_data.proofs.compressed.best.put_text_at.Goals as goal

pub returns-in-None-clause-put : goal.returns-in-None-clause-put
returns-in-None-clause-put c =
    sym (ap (λ row. c.args.sink.now ++ bits (octets_of (first_raw row)))
    (none_next c.args.subset.now.fields c.args.place (sym c.in-None.ensures))
    ∙ append-nil c.args.sink.now)

pub returns-in_ok-put_text-in-Some-clause-put : goal.returns-in_ok-put_text-in-Some-clause-put
returns-in_ok-put_text-in-Some-clause-put c =
    c.in_ok-put_text-in-Some.ensures.put
    ∙ sym (ap (λ row. c.args.sink.now ++ bits (octets_of (first_raw row)))
    (next_is c.args.subset.now.fields c.args.place _ (sym c.in-Some.ensures)))

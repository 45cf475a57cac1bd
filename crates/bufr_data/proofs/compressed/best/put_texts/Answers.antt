use Rattle.std.proofs.Common.{ℕ, ◌∙◌, ◌++◌, ◌+◌, ◌/◌, ◌<◌, ◌≤◌, length, map, take, drop, ap, arith}
use Rattle.std.specs.Prelude.{replicate}
use Rattle.std.specs.List.{flat_map}
use Rattle.std.proofs.lemmas.List.{take_all}
use Rattle.bufr_bits.specs.Bits.{bin, bits}
use Rattle.bufr_data.specs.Compressed.Best.{first_raw, octets_of}
use Rattle.bufr_data.specs.Compressed.Places.{rows_from, values_from}
use Rattle.bufr_data.proofs.CompressedFacts.Puts.{values_more, put_step, put_text_head, zeros_are, kept_more}
use Rattle.bufr_data.proofs.compressed.best.put_texts.Goals as goal

pub loop-other-init : goal.loop-other-init
loop-other-init c =
    let octets = c.args.field.now.spec.width / 8 in
    let zeros = zeros_are octets 63 c.requires in
    let put = rw c.from.ensures at c.in_ok-put.ensures.ok in
    put_text_head c.args.sink.now _ _ _ octets _ c.args.field.now.raw zeros
    c.in_ok-put_bytes.ensures.ok put c.in_ok-put_text.ensures.put

pub loop-other-preserved : goal.loop-other-preserved
loop-other-preserved c =
    let less : c.loop-other.other-index < length c.args.others.now =
    omega (arith, c.loop-other-test.true) in
    let more = values_more octets_of c.args.field.now c.args.place c.args.others.now
    c.loop-other.other-index c.other-item.result less c.other-item.is in
    let octets = c.args.field.now.spec.width / 8 in
    let texts = λ (k : ℕ). map octets_of
    (values_from c.args.field.now (rows_from c.args.place (take k c.args.others.now))) in
    put_step bits (texts c.loop-other.other-index) (texts (c.loop-other.other-index + 1))
    (octets_of (first_raw (drop c.args.place c.other-item.result.fields))) c.args.sink.now
    (bits (replicate octets 0) ++ bin 6 octets) c.loop-other.sink c.put_text_at.new.sink more
    c.loop-other.invariant c.in_ok-put_text_at.ensures.put

pub returns-in_err-put_text_at-clause-kept : goal.returns-in_err-put_text_at-clause-kept
returns-in_err-put_text_at-clause-kept c =
    kept_more _ _ _ (_, c.loop-other.invariant) c.in_err-put_text_at.ensures.kept

pub returns-clause-put : goal.returns-clause-put
returns-clause-put c =
    let done : length c.args.others.now ≤ c.loop-other.other-index =
    omega (arith, c.loop-other-test.false) in
    let octets = c.args.field.now.spec.width / 8 in
    c.loop-other.invariant
    ∙ ap (λ ss. c.args.sink.now
    ++
    (bits (replicate octets 0) ++ bin 6 octets
    ++ flat_map bits
    (map octets_of (values_from c.args.field.now (rows_from c.args.place ss)))))
    (take_all c.loop-other.other-index c.args.others.now done)

pub returns-clause-kept : goal.returns-clause-kept
returns-clause-kept c = (_, c.loop-other.invariant)

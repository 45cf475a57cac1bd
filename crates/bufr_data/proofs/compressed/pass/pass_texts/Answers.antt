use Rattle.std.proofs.Common.{◌*◌, arith}
use Rattle.bufr_bits.specs.Ends.{left}
use Rattle.bufr_data.proofs.CompressedFacts.Passed.{TextHead, text_head, texts_no_minimum, texts_no_width}
use Rattle.bufr_data.proofs.CompressedFacts.Passed.{texts_too_wide, texts_end, texts_pass, times_is}
use Rattle.bufr_data.proofs.compressed.pass.pass_texts.Goals.{In-Some}
use Rattle.bufr_data.proofs.compressed.pass.pass_texts.Goals as goal

head : (c : In-Some)
    → TextHead c.args.spec (left c.args.reader.now) c.in-Some.k (left c.take.new.self)
head c =
    text_head c.args.spec (left c.args.reader.now) (left c.pass.new.self) (8 * c.from.result)
    c.in-Some.k (left c.take.new.self) c.requires
    (omega (arith, c.from.ensures, c.from-octets.ensures)) c.if-not-pass.ensures.enough
    c.if-not-pass.ensures.rest c.in-Some.ensures.found

pub returns-then-not-pass-clause-err : goal.returns-then-not-pass-clause-err
returns-then-not-pass-clause-err c =
    texts_no_minimum c.args.n c.args.i c.args.spec (left c.args.reader.now)
    (8 * c.from.result) c.requires
    (omega (arith, c.from.ensures, c.from-octets.ensures)) c.if-not-pass.ensures.short

pub returns-in-None-clause-err : goal.returns-in-None-clause-err
returns-in-None-clause-err c =
    texts_no_width c.args.n c.args.i c.args.spec (left c.args.reader.now) (left c.pass.new.self)
    (8 * c.from.result) c.requires
    (omega (arith, c.from.ensures, c.from-octets.ensures)) c.if-not-pass.ensures.enough
    c.if-not-pass.ensures.rest c.in-None.ensures.short

pub returns-then-k-octets-clause-err : goal.returns-then-k-octets-clause-err
returns-then-k-octets-clause-err c =
    texts_too_wide c.args.n c.args.i c.args.spec (left c.args.reader.now)
    c.in-Some.k (left c.take.new.self) (head (goal.at.returns-then-k-octets-clause-err c).In-Some)
    (omega (arith, c.from-octets.ensures, c.if-k-octets.true))

pub returns-then-pass-clause-ok : goal.returns-then-pass-clause-ok
returns-then-pass-clause-ok c =
    texts_pass c.args.n c.args.i c.args.spec (left c.args.reader.now)
    c.in-Some.k (left c.take.new.self) (8 * c.from-2.result * c.from-3.result)
    (left c.pass-2.new.self) (head (goal.at.returns-then-pass-clause-ok c).In-Some)
    (omega (arith, c.from-octets.ensures, c.if-k-octets.false))
    (times_is _ _ _ _ c.from-2.ensures c.from-3.ensures) c.if-pass.ensures.enough
    c.if-pass.ensures.rest

pub returns-else-pass-clause-err : goal.returns-else-pass-clause-err
returns-else-pass-clause-err c =
    texts_end c.args.n c.args.i c.args.spec (left c.args.reader.now)
    c.in-Some.k (left c.take.new.self) (8 * c.from-2.result * c.from-3.result)
    (head (goal.at.returns-else-pass-clause-err c).In-Some)
    (omega (arith, c.from-octets.ensures, c.if-k-octets.false))
    (times_is _ _ _ _ c.from-2.ensures c.from-3.ensures) c.if-pass.ensures.short

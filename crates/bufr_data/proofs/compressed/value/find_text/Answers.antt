-- The text at an index comes after those before it.
use Rattle.std.proofs.Common.{◌*◌, sym, refl, arith}
use Rattle.bufr_bits.specs.Bits.{octets_at}
use Rattle.bufr_bits.specs.Ends.{left}
use Rattle.bufr_data.proofs.CompressedFacts.Lent.{back_again, if_none, text_flat}
use Rattle.bufr_data.proofs.CompressedFacts.Passed.{TextHead, text_head}
use Rattle.bufr_data.proofs.CompressedFacts.Values.{text_without_minimum, text_without_width, text_too_wide}
use Rattle.bufr_data.proofs.CompressedFacts.Values.{text_past, text_there_is, behind_is}
use Rattle.bufr_data.proofs.compressed.value.find_text.Goals.{In_ok-k}
use Rattle.bufr_data.proofs.compressed.value.find_text.Goals as goal

head : (c : In_ok-k)
    → TextHead c.args.spec (left c.args.reader.now) c.in_ok-k.k (left c.take.new.self)
head c =
    text_head c.args.spec (left c.args.reader.now) (left c.pass.new.self) (8 * c.from.result)
    c.in_ok-k.k (left c.take.new.self) c.requires
    (omega (arith, c.from.ensures, c.from-octets.ensures)) c.if-not-pass.ensures.enough
    c.if-not-pass.ensures.rest c.in_ok-k.ensures.found

pub returns-then-not-pass-clause-none : goal.returns-then-not-pass-clause-none
returns-then-not-pass-clause-none c =
    sym (text_without_minimum c.args.spec c.args.index (left c.args.reader.now)
    (8 * c.from.result) c.requires
    (omega (arith, c.from.ensures, c.from-octets.ensures)) c.if-not-pass.ensures.short)

pub returns-in_err-k-clause-none : goal.returns-in_err-k-clause-none
returns-in_err-k-clause-none c =
    if_none c.from_residual.result
    (sym (text_without_width c.args.spec c.args.index (left c.args.reader.now)
    (left c.pass.new.self) (8 * c.from.result) c.requires
    (omega (arith, c.from.ensures, c.from-octets.ensures)) c.if-not-pass.ensures.enough
    c.if-not-pass.ensures.rest c.in_err-k.ensures.short))

pub returns-then-k-eq0-clause-found : goal.returns-then-k-eq0-clause-found
returns-then-k-eq0-clause-found c =
    text_flat c.args.spec c.args.index (left c.args.reader.now) (left c.pass.new.self)
    (left c.return_to.new.self) (8 * c.from.result) c.in_ok-k.k c.from-octets.result
    (left c.take.new.self) c.requires (omega (arith, c.from.ensures, c.from-octets.ensures))
    c.if-not-pass.ensures.enough c.if-not-pass.ensures.rest c.in_ok-k.ensures.found
    c.if-k-eq0.true c.from-octets.ensures
    (back_again c.args.reader.now c.pass.new.self c.take.new.self c.return_to.new.self
    (8 * c.from.result) 6 c.place-start.result c.if-not-pass.ensures.passed c.in_ok-k.ensures.moved
    c.return_to.ensures c.place-start.ensures)

pub returns-then-k-octets-clause-none : goal.returns-then-k-octets-clause-none
returns-then-k-octets-clause-none c =
    sym (text_too_wide c.args.spec c.args.index (left c.args.reader.now)
    c.in_ok-k.k (left c.take.new.self) (head (goal.at.returns-then-k-octets-clause-none c).In_ok-k)
    (omega (arith, c.from-octets.ensures, c.if-k-octets.true)))

pub returns-then-not-pass-2-clause-none : goal.returns-then-not-pass-2-clause-none
returns-then-not-pass-2-clause-none c =
    sym (text_past c.args.spec c.args.index (left c.args.reader.now)
    c.in_ok-k.k (left c.take.new.self) (c.from-2.result * (8 * c.from-3.result))
    (head (goal.at.returns-then-not-pass-2-clause-none c).In_ok-k)
    c.if-k-eq0.false (omega (arith, c.from-octets.ensures, c.if-k-octets.false))
    (behind_is _ _ _ _ c.from-2.ensures c.from-3.ensures) c.if-not-pass-2.ensures.short)

pub returns-clause-found : goal.returns-clause-found
returns-clause-found c =
    sym (text_there_is c.args.spec c.args.index (left c.args.reader.now)
    c.in_ok-k.k (left c.take.new.self) (c.from-2.result * (8 * c.from-3.result))
    (left c.pass-2.new.self) (octets_at c.in_ok-k.k (left c.pass-2.new.self))
    (head (goal.at.returns-clause-found c).In_ok-k)
    c.if-k-eq0.false (omega (arith, c.from-octets.ensures, c.if-k-octets.false))
    (behind_is _ _ _ _ c.from-2.ensures c.from-3.ensures) c.if-not-pass-2.ensures.rest refl)

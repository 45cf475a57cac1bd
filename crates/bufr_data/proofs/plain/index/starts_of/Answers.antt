-- Subsets of known size are passed at once.
use Rattle.std.proofs.Common.{◌≡◌, length, refl, ap, arith}
use Rattle.bufr_bits.specs.Ends.{left}
use Rattle.bufr_data.proofs.PlainFacts.Even.{stand_alike, alike_begin, alike_read}
use Rattle.bufr_data.proofs.plain.index.starts_of.Goals as goal

pub invariant_of-result : goal.invariant_of-result
invariant_of-result c =
    let size : length c.octets-octets.result.now ≡ length c.args.reader.now.octets =
    ap length c.octets-octets.ensures in (
      omega (
        arith,
        size,
        c.bit_of-bit.ensures.all,
        c.if-pass_all.ensures.enough,
        c.if-octets-le-MOST_COUNTED_OCTETS.true,
      ),
      omega (arith, c.if-pass_all.ensures.few),
    )

pub returns-in-Some-clause-exact : goal.returns-in-Some-clause-exact
returns-in-Some-clause-exact c =
    let octets = c.args.reader.now.octets in
    let tree = c.args.template.now in
    let bit = c.bit_of-bit.result in
    let law = c.courses_are_unrollings.ensures in
    let stand =
    stand_alike octets tree c.in-Some.each bit _ c.args.count law.unrolled law.allowed
    (rw c.in-Some.is at c.requires) c.bit_of-bit.ensures.is c.bit_of-bit.ensures.inside
    c.if-pass_all.ensures.few c.if-pass_all.ensures.enough in
    rw (
      alike_read octets tree c.in-Some.each bit 0 1 c.args.count (left c.args.reader.now) stand,
      c.if-pass_all.ensures.rest,
    ) refl

pub returns-in-Some-clause-stand : goal.returns-in-Some-clause-stand
returns-in-Some-clause-stand c =
    let octets = c.args.reader.now.octets in
    let tree = c.args.template.now in
    let bit = c.bit_of-bit.result in
    let law = c.courses_are_unrollings.ensures in
    let stand =
    stand_alike octets tree c.in-Some.each bit _ c.args.count law.unrolled law.allowed
    (rw c.in-Some.is at c.requires) c.bit_of-bit.ensures.is c.bit_of-bit.ensures.inside
    c.if-pass_all.ensures.few c.if-pass_all.ensures.enough in
    alike_begin octets tree c.in-Some.each bit 0 c.args.count (left c.args.reader.now) stand

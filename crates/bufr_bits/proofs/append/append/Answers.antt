-- The field fills the free bits of the last octet first, and then whole octets.
use Rattle.std.proofs.Common.{◌+◌, ◌-◌, ◌*◌, ◌<◌, ◌++◌, take, arith, ap, ◌∙◌}
use Rattle.std.specs.Int.{div_ceil}
use Rattle.bufr_bits.specs.Bits.{bits, bin}
use Rattle.bufr_bits.proofs.Puts.{Putting, putting, put_last, put_after, cast_fits, add_fits}
use Rattle.bufr_bits.proofs.append.append.Goals.{In_ok-extend_from_slice}
use Rattle.bufr_bits.proofs.append.append.Goals as goal

put : (c : In_ok-extend_from_slice)
    → Putting c.args.octets.now.items c.extend_from_slice.new.self.items c.args.len c.args.width
    c.from.result c.len-count.result c.div_ceil-grown.result
    (8 * c.div_ceil-grown.result + (8 * c.len-count.result - c.args.len) - c.args.width)
put c =
    let o = c.args.octets.now in
    putting o.items c.to_be_bytes.result c.extend_from_slice.new.self.items c.args.len
    c.args.width c.from.result c.len-count.result c.div_ceil-grown.result
    c.requires.filled (c.len-count.ensures ∙ o.ok.0) c.requires.width
    (omega (arith, c.requires.fits, c.from.ensures))
    (c.div_ceil-grown.ensures ∙ ap (λ w. div_ceil w 8) c.saturating_sub.ensures)
    c.to_be_bytes.ensures c.in_ok-extend_from_slice.ensures.items

pub overflow_cast-wide-then-free-gt0 : goal.overflow_cast-wide-then-free-gt0
overflow_cast-wide-then-free-gt0 c =
    let o = c.args.octets.now in
    let p = put (goal.at.overflow_cast-wide-then-free-gt0 c).In_ok-extend_from_slice in
    omega (
      arith,
      cast_fits o.items c.extend_from_slice.new.self.items c.args.len c.args.width c.from.result
          c.len-count.result c.div_ceil-grown.result
          (8 * c.div_ceil-grown.result + (8 * c.len-count.result - c.args.len) - c.args.width) p,
    )

pub overflow_add-index_mut : goal.overflow_add-index_mut
overflow_add-index_mut c =
    let o = c.args.octets.now in
    let p = put (goal.at.overflow_add-index_mut c).In_ok-extend_from_slice in
    let small : c.index_mut.result.now < 256 = omega arith in
    omega (
      arith,
      add_fits o.items c.extend_from_slice.new.self.items c.args.len c.args.width c.from.result
          c.len-count.result c.div_ceil-grown.result
          (8 * c.div_ceil-grown.result +
          (8 * c.len-count.result - c.args.len) - c.args.width) c.index_mut.result.now p
          (omega (arith, c.if-free-gt0.true)) c.index_mut.ensures.value small,
    )

pub returns-then-free-gt0-clause-ok : goal.returns-then-free-gt0-clause-ok
returns-then-free-gt0-clause-ok c =
    let o = c.args.octets.now in
    let p = put (goal.at.returns-then-free-gt0-clause-ok c).In_ok-extend_from_slice in
    (put_last _ _ _ _ _ _ _ _ _ p (omega (arith, c.if-free-gt0.true)) c.index_mut.ensures.value).0
    ∙ ap (λ n. take c.args.len (bits o.items) ++ bin c.args.width n) c.from.ensures

pub returns-then-free-gt0-clause-filled : goal.returns-then-free-gt0-clause-filled
returns-then-free-gt0-clause-filled c =
    let p = put (goal.at.returns-then-free-gt0-clause-filled c).In_ok-extend_from_slice in
    (put_last _ _ _ _ _ _ _ _ _ p (omega (arith, c.if-free-gt0.true)) c.index_mut.ensures.value).1

pub returns-else-free-gt0-clause-ok : goal.returns-else-free-gt0-clause-ok
returns-else-free-gt0-clause-ok c =
    let o = c.args.octets.now in
    let p = put (goal.at.returns-else-free-gt0-clause-ok c).In_ok-extend_from_slice in
    (put_after _ _ _ _ _ _ _ _ p (omega (arith, c.if-free-gt0.false))).0
    ∙ ap (λ n. take c.args.len (bits o.items) ++ bin c.args.width n) c.from.ensures

pub returns-else-free-gt0-clause-filled : goal.returns-else-free-gt0-clause-filled
returns-else-free-gt0-clause-filled c =
    let p = put (goal.at.returns-else-free-gt0-clause-filled c).In_ok-extend_from_slice in
    (put_after _ _ _ _ _ _ _ _ p (omega (arith, c.if-free-gt0.false))).1

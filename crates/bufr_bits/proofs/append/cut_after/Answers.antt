-- Zero bits replace what is dropped, and the kept bits come before them.
use Rattle.std.proofs.Common.{◌-◌, ◌*◌, ◌%◌, arith, ◌∙◌, refl}
use Rattle.bufr_bits.proofs.Puts.{cut_whole, cut_inside}
use Rattle.bufr_bits.proofs.append.cut_after.Goals as goal

pub returns-then-low-gt0-clause-kept : goal.returns-then-low-gt0-clause-kept
returns-then-low-gt0-clause-kept c =
    let o = c.args.octets.now in
    let cut = c.truncate.new.self in
    let count = c.len-count.result in
    (cut_inside o.items cut.items c.args.len count c.len-at.result c.index-last.result.now
    ((8 * count - c.args.len) % 8)
    (c.len-count.ensures ∙ o.ok.0) c.requires refl c.if-low-gt0.true c.truncate.ensures.items
    (c.len-at.ensures ∙ cut.ok.0) c.index-last.ensures).0

pub returns-then-low-gt0-clause-filled : goal.returns-then-low-gt0-clause-filled
returns-then-low-gt0-clause-filled c =
    let o = c.args.octets.now in
    let cut = c.truncate.new.self in
    let count = c.len-count.result in
    (cut_inside o.items cut.items c.args.len count c.len-at.result c.index-last.result.now
    ((8 * count - c.args.len) % 8)
    (c.len-count.ensures ∙ o.ok.0) c.requires refl c.if-low-gt0.true c.truncate.ensures.items
    (c.len-at.ensures ∙ cut.ok.0) c.index-last.ensures).1

pub returns-else-low-gt0-clause-kept : goal.returns-else-low-gt0-clause-kept
returns-else-low-gt0-clause-kept c =
    let o = c.args.octets.now in
    (cut_whole o.items c.truncate.new.self.items c.args.len c.len-count.result
    (c.len-count.ensures ∙ o.ok.0) c.requires
    (omega (arith, c.if-low-gt0.false)) c.truncate.ensures.items).0

pub returns-else-low-gt0-clause-filled : goal.returns-else-low-gt0-clause-filled
returns-else-low-gt0-clause-filled c =
    let o = c.args.octets.now in
    (cut_whole o.items c.truncate.new.self.items c.args.len c.len-count.result
    (c.len-count.ensures ∙ o.ok.0) c.requires
    (omega (arith, c.if-low-gt0.false)) c.truncate.ensures.items).1

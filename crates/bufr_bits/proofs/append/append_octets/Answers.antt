-- The octets go after the last one, and move up if it has free bits.
use Rattle.std.proofs.Common.{◌+◌, ◌-◌, ◌*◌, ◌%◌, ◌^◌, length, get_or, arith, ◌∙◌, refl, ap}
use Rattle.bufr_bits.specs.Filled.{moved_up}
use Rattle.bufr_bits.proofs.Moves.{written_back, put_octets_whole, put_octets_moved, clear_read}
use Rattle.bufr_bits.proofs.append.append_octets.Goals as goal

pub move_up-requires-clause-clear : goal.move_up-requires-clause-clear
move_up-requires-clause-clear c =
    let o = c.args.octets.now in
    let count = c.len-count.result in
    ap (λ xs. get_or xs (count - 1) 0 % 2 ^ (8 * count - c.args.len)) c.as_mut_slice.ensures.value
    ∙ clear_read o.items c.extend_from_slice.new.self.items c.args.more.now c.args.len count
    c.requires (c.len-count.ensures ∙ o.ok.0)
    (omega (arith, c.if-free-gt0.true)) c.in_ok-extend_from_slice.ensures.items

pub returns-then-free-gt0-clause-ok : goal.returns-then-free-gt0-clause-ok
returns-then-free-gt0-clause-ok c =
    let o = c.args.octets.now in
    let e = c.extend_from_slice.new.self in
    let back =
    written_back c.move_up.new.octets e.items e.len
    (c.move_up.auto.octets ∙ ap length c.as_mut_slice.ensures.value) e.ok.0 in
    let is =
    c.move_up.ensures
    ∙ ap (moved_up (c.len-count.result - 1 + 1)
    (8 * c.len-count.result - c.args.len)) c.as_mut_slice.ensures.value in
    rw back
    (put_octets_moved o.items e.items c.move_up.new.octets c.args.more.now c.args.len
    (c.args.len + 8 * length c.args.more.now) c.len-count.result c.requires
    (c.len-count.ensures ∙ o.ok.0)
    (omega (arith, c.if-free-gt0.true)) refl c.in_ok-extend_from_slice.ensures.items is).0

pub returns-then-free-gt0-clause-filled : goal.returns-then-free-gt0-clause-filled
returns-then-free-gt0-clause-filled c =
    let o = c.args.octets.now in
    let e = c.extend_from_slice.new.self in
    let back =
    written_back c.move_up.new.octets e.items e.len
    (c.move_up.auto.octets ∙ ap length c.as_mut_slice.ensures.value) e.ok.0 in
    let is =
    c.move_up.ensures
    ∙ ap (moved_up (c.len-count.result - 1 + 1)
    (8 * c.len-count.result - c.args.len)) c.as_mut_slice.ensures.value in
    rw back
    (put_octets_moved o.items e.items c.move_up.new.octets c.args.more.now c.args.len
    (c.args.len + 8 * length c.args.more.now) c.len-count.result c.requires
    (c.len-count.ensures ∙ o.ok.0)
    (omega (arith, c.if-free-gt0.true)) refl c.in_ok-extend_from_slice.ensures.items is).1

pub returns-else-free-gt0-clause-ok : goal.returns-else-free-gt0-clause-ok
returns-else-free-gt0-clause-ok c =
    let o = c.args.octets.now in
    (put_octets_whole o.items c.extend_from_slice.new.self.items c.args.more.now c.args.len
    (c.args.len + 8 * length c.args.more.now) c.len-count.result c.requires
    (c.len-count.ensures ∙ o.ok.0)
    (omega (arith, c.if-free-gt0.false)) refl c.in_ok-extend_from_slice.ensures.items).0

pub returns-else-free-gt0-clause-filled : goal.returns-else-free-gt0-clause-filled
returns-else-free-gt0-clause-filled c =
    let o = c.args.octets.now in
    (put_octets_whole o.items c.extend_from_slice.new.self.items c.args.more.now c.args.len
    (c.args.len + 8 * length c.args.more.now) c.len-count.result c.requires
    (c.len-count.ensures ∙ o.ok.0)
    (omega (arith, c.if-free-gt0.false)) refl c.in_ok-extend_from_slice.ensures.items).1

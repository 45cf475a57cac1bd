-- The octets left are a beginning.
use Rattle.std.proofs.Common.{◌≡◌, ◌==◌, length, take, false, sym, ap, ◌∙◌, Some, arith}
use Rattle.std.specs.Vec.{vec_len}
use Rattle.bufr_report_keys.specs.Usable.{without_last_blanks}
use Rattle.bufr_report_keys.proofs.BlankFacts.{some_left}
use Rattle.bufr_report_keys.proofs.usable.octets_left.Goals as goal

pub returns-else-is_empty : goal.returns-else-is_empty
returns-else-is_empty c =
    let octets = c.into_vec-octets.ensures in
    let slice = c.as_slice.ensures.value in
    let without = c.without_last_blanks-left.ensures in
    let first = c.truncate.ensures.items in
    let left = c.truncate.new.self in
    let taken : left.items ≡ take (length (without_last_blanks c.args.octets)) c.args.octets = cc in
    let all : vec_len left ≡ length left.items = omega (arith, left.ok.0) in
    let there : (length left.items == 0) ≡ false = rw all at (sym c.if-is_empty.ensures) in
    ap Some c.from_vec.ensures ∙ some_left c.args.octets left.items taken there

-- A number of 64 bits has at most twenty digits, so they fit the room.
use Rattle.std.proofs.Common.{◌≤◌, arith, decimal, length}
use Rattle.std.proofs.lemmas.Fmt.{length-decimal-le}
use Rattle.bufr_select_rows.proofs.written.write_count.Goals as goal

pub write_digits-requires : goal.write_digits-requires
write_digits-requires c =
    let short : length (decimal c.args.count) ≤ 20 =
    length-decimal-le 20 c.args.count (omega arith) (omega arith) (omega arith) in
    (omega (arith, short), omega arith)

-- The numbers rank the words, and these the keys.
use Rattle.std.proofs.Common.{◌∙◌, arith}
use Rattle.std.specs.declared.cmp.Ordering.TheVariants.{Less, Equal, Greater}
use Rattle.bufr_entries.specs.PackedKeyLaws.{wmo_ranks}
use Rattle.bufr_entries.proofs.packed_key.WmoWords.order.Goals as goal

pub returns-then-first-second : goal.returns-then-first-second
returns-then-first-second c =
    let one = c.number-first.ensures in
    let two = c.number-second.ensures in
    wmo_ranks c.args.self c.args.other c.args.sub_centre c.args.other_sub_centre (omega arith)
    (omega arith) (omega arith) (omega arith) Less
    (omega (arith, one, two, c.if-first-second.true))

pub returns-then-first-second-2 : goal.returns-then-first-second-2
returns-then-first-second-2 c =
    let one = c.number-first.ensures in
    let two = c.number-second.ensures in
    wmo_ranks c.args.self c.args.other c.args.sub_centre c.args.other_sub_centre (omega arith)
    (omega arith) (omega arith) (omega arith) Greater
    (omega (arith, one, two, c.if-first-second-2.true))

pub returns : goal.returns
returns c =
    let one = c.number-first.ensures in
    let two = c.number-second.ensures in
    c.cmp.ensures
    ∙ wmo_ranks c.args.self c.args.other c.args.sub_centre c.args.other_sub_centre (omega arith)
    (omega arith) (omega arith) (omega arith) Equal
    (omega (arith, one, two, c.if-first-second.false, c.if-first-second-2.false))

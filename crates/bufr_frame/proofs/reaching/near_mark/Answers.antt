-- Octets that don't begin as the mark when cut short don't begin so at all.
use Rattle.std.proofs.Common.{arith}
use Rattle.std.proofs.lemmas.List.{length-take}
use Rattle.bufr_frame.proofs.ReachLaws.{disagrees_near}
use Rattle.bufr_frame.proofs.reaching.near_mark.Goals as goal

pub returns-clause-others : goal.returns-clause-others
returns-clause-others c = λ k l.
    let within = c.next_mark-2.ensures.within in
    disagrees_near c.args.piece.now c.min.result k
    (omega (arith, length-take c.min.result c.args.piece.now))
    (c.next_mark-2.ensures.others k (omega arith) l)

-- Each piece comes after the octets read before.
use Rattle.std.proofs.lemmas.Result.{err_from_is_err_and}
use Rattle.bufr_io.proofs.ReadingFacts.{no_more}
use Rattle.bufr_io.proofs.input.read_all.Goals as goal

pub returns-in_err-piece-clause-all : goal.returns-in_err-piece-clause-all
returns-in_err-piece-clause-all g c =
    let p =
    err_from_is_err_and c.from_residual-in_err-piece.result
    c.from_residual-in_err-piece.ensures.1 in
    rw (p.1, p.2)
    (no_more _ _ (g.S.Source.reading c.args.reader.now) (g.S.Source.reading c.next.new.reader)
    c.next.new.self _ _ (c.in_err-piece.ensures.reads _ _ _ _ c.loop-octets.invariant.1))

pub loop-octets-preserved : goal.loop-octets-preserved
loop-octets-preserved g c =
    let inv = c.loop-octets.invariant in
    let more = rw c.in-Some.is at (c.in_ok-piece.ensures.reads _ _ _ _ inv.1) in
    (inv.0, rw c.in_ok-extend_from_slice.ensures.items more.0)

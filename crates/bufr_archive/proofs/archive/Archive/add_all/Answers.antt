-- Report by report, until memory runs out or none is left.
use Rattle.std.proofs.Common.{◌<◌, length, arith}
use Rattle.bufr_archive.proofs.AddFacts.{one_more}
use Rattle.bufr_archive.proofs.archive.Archive.add_all.Goals as goal

pub loop-index-preserved : goal.loop-index-preserved
loop-index-preserved g c =
    let reports = g.L.ReportList.entries c.args.reports.now in
    let there : c.loop-index.index < length reports =
    omega (arith, c.loop-index-test.true, c.count-count.ensures) in
    one_more c.args.self.now c.loop-index.self c.add_one.new.self reports c.loop-index.index
    c.loop-index.changed c.in-Ok.changes there c.loop-index.invariant
    c.in-Ok.ensures.ok c.in-Ok.ensures.changed

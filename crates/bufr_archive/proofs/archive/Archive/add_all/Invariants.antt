use Rattle.bufr_archive.proofs.AddFacts.{SoFar}
use Rattle.bufr_archive.proofs.archive.Archive.add_all.Given as goal

-- the reports before this one are added, and their changes counted
abbrev pub invariant-loop-index : goal.invariant-loop-index
invariant-loop-index g l =
    SoFar l.fn.self l.self (g.L.ReportList.entries l.reports) l.index l.changed

use Rattle.std.specs.List.{AllByRecursion}
use Rattle.bufr_io.proofs.OpenFacts.{Unread}
use Rattle.bufr_io.proofs.files.files_of.Given as goal

-- nobody has read the files so far
abbrev pub invariant-loop-path : goal.invariant-loop-path
invariant-loop-path g l = AllByRecursion Unread l.files.items

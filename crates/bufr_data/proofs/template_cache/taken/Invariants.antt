use Rattle.bufr_data.specs.Kept.{AreKept}
use Rattle.bufr_data.proofs.template_cache.taken.Given as goal

-- every template is the one of its list
abbrev pub invariant-loop-index : goal.invariant-loop-index
invariant-loop-index g l = AreKept l.tables l.kept.items

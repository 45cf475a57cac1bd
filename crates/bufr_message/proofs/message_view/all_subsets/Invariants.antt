use Rattle.std.proofs.Common.{◌≡◌, take}
use Rattle.bufr_message.proofs.message_view.all_subsets.Given as goal

-- the subsets built are the first `index`
abbrev pub invariant-loop-index : goal.invariant-loop-index
invariant-loop-index l = l.built.items ≡ take l.index l.subsets

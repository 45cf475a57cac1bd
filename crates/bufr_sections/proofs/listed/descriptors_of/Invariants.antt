use Rattle.std.proofs.Common.{◌≡◌, ◌++◌, length}
use Rattle.bufr_sections.specs.Sections.{descriptors_of}
use Rattle.bufr_sections.proofs.listed.descriptors_of.Given as goal

-- the list, and the descriptors of the octets left, are those of all octets
abbrev pub invariant-loop-rest : goal.invariant-loop-rest
invariant-loop-rest l = l.list.items ++ descriptors_of l.rest ≡ descriptors_of l.fn.octets

abbrev pub decreases-loop-rest : goal.decreases-loop-rest
decreases-loop-rest l = length l.rest

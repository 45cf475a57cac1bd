use Rattle.std.proofs.Common.{◌≡◌, ◌++◌, take}
use Rattle.bufr_sections.specs.Sections.{descriptors_of}
use Rattle.bufr_sections.proofs.listed.are_listed.Given as goal

-- the descriptors compared, and those of the octets left, are those of all octets
abbrev pub invariant-loop-descriptor : goal.invariant-loop-descriptor
invariant-loop-descriptor l =
    take l.descriptor-index l.descriptors ++ descriptors_of l.rest ≡ descriptors_of l.fn.octets

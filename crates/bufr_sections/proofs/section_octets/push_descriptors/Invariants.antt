use Rattle.std.proofs.Common.{◌≡◌, ◌++◌, take}
use Rattle.std.specs.List.{flat_map}
use Rattle.std.specs.Int.{bytes_high_first}
use Rattle.bufr_sections.proofs.section_octets.push_descriptors.Given as goal

-- `out` is the old octets and those of the descriptors so far
abbrev pub invariant-loop-descriptor : goal.invariant-loop-descriptor
invariant-loop-descriptor l =
    l.out.items ≡ l.initial.out.items
    ++ flat_map (bytes_high_first 2) (take l.descriptor-index l.descriptors)

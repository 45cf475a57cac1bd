-- The parts in code and in definitions.
use Rattle.bufr_expand.specs.declared.part.Part.{Part}
use Rattle.bufr_expand.specs.declared.part.Part.TheVariants as parts
use Rattle.bufr_expand.specs.declared.part.FirstPart.{FirstPart}
use Rattle.bufr_expand.specs.Expansion as expansion

-- a part of the code, as the definitions have it
abbrev pub seen_part : Part → expansion.Part
seen_part (parts.Single node) = expansion.single node
seen_part (parts.Inner list) = expansion.inner list.now
seen_part (parts.Replication repetitions body) = expansion.replication repetitions body.now

-- a part with the number of descriptors that it takes
abbrev pub seen : FirstPart → expansion.FirstPart
seen found = record { part = seen_part found.part; taken = found.taken }

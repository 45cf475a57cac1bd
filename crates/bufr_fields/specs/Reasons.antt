-- The printed refusals of data and of subsets: number, name and values.
use Rattle.std.specs.Prelude.{ℕ, List, ◌++◌, ◌∷◌, codes, decimal}
use Rattle.bufr_tables.specs.Descriptors.{six_digits}
use Rattle.bufr_fields.specs.declared.fault.DataFault.{DataFault}
use Rattle.bufr_fields.specs.declared.fault.DataFault.TheVariants.{EffectiveRange, DataEnds}
use Rattle.bufr_fields.specs.declared.fault.DataFault.TheVariants.{UnequalCounts, IncrementRange}
use Rattle.bufr_fields.specs.declared.fault.DataFault.TheVariants.{CharIncrement, TooLarge}
use Rattle.bufr_fields.specs.declared.fault.MisfitFault.{MisfitFault}
use Rattle.bufr_fields.specs.declared.fault.MisfitFault.TheVariants as misfits

-- the printed refusal of data that are read
unfoldable pub read_reason : DataFault → List ℕ
read_reason (EffectiveRange d) = codes "V1 EffectiveRange " ++ six_digits d
read_reason (DataEnds j i) = codes "V2 DataEnds " ++ decimal j ++ 32 ∷ decimal i
read_reason (UnequalCounts i) = codes "V3 UnequalCounts " ++ decimal i
read_reason (IncrementRange j i) = codes "V4 IncrementRange " ++ decimal j ++ 32 ∷ decimal i
read_reason (CharIncrement i) = codes "V5 CharIncrement " ++ decimal i
read_reason TooLarge = codes "V6 TooLarge"

-- the printed refusal of subsets that are written
unfoldable pub write_reason : MisfitFault → List ℕ
write_reason (misfits.DoesNotFit j i) = codes "E1 DoesNotFit " ++ decimal j ++ 32 ∷ decimal i
write_reason (misfits.NotCompressible i) = codes "E2 NotCompressible " ++ decimal i
write_reason misfits.TooLarge = codes "E3 TooLarge"

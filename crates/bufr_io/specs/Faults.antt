-- The texts of faults.
use Rattle.std.specs.Prelude.{ℕ, List, ◌++◌, codes, decimal}
use Rattle.bufr_io.specs.declared.fault.Input.{Input}
use Rattle.bufr_io.specs.declared.fault.Input.TheVariants.{TableB, TableD, Number}

-- the words for an input in the lines of faults
unfoldable pub input_text : Input → List ℕ
input_text TableB = codes "table B"
input_text TableD = codes "table D"
input_text (Number n) = codes "input " ++ decimal n

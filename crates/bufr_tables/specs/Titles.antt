-- The titles of the columns of table files.
use Rattle.std.specs.Prelude.{ℕ, List, codes}
use Rattle.bufr_tables.specs.declared.table_faults.Column.{Column}
use Rattle.bufr_tables.specs.declared.table_faults.Column.TheVariants as columns

-- the title of a column
abbrev pub title : Column → List ℕ
title columns.Fxy = codes "FXY"
title columns.Unit = codes "BUFR_Unit"
title columns.Scale = codes "BUFR_Scale"
title columns.ReferenceValue = codes "BUFR_ReferenceValue"
title columns.DataWidth = codes "BUFR_DataWidth_Bits"
title columns.Fxy1 = codes "FXY1"
title columns.Fxy2 = codes "FXY2"

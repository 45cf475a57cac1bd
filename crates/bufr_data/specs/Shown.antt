-- The subsets of an index, plain or compressed.
use Rattle.std.specs.Prelude.{List}
use Rattle.bufr_fields.specs.declared.field.Subset.{Subset}
use Rattle.bufr_data.specs.declared.subset_index.DataIndex.{DataIndex}
use Rattle.bufr_data.specs.declared.subset_index.DataIndex.TheVariants.{Plain, Compressed}
use Rattle.bufr_data.specs.Compressed.{subsets_from}

-- the subsets of an index: plain ones as they are, compressed ones from the columns
abbrev pub shown : DataIndex → List Subset
shown (Plain subsets) = subsets
shown (Compressed c) = subsets_from 0 c.subsets c.columns

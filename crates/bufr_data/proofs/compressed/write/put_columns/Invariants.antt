use Rattle.std.proofs.Common.{◌≡◌, ◌+◌, ◌++◌, Ok, drop}
use Rattle.bufr_data.specs.Compressed.Best.{best_bits, columns_of}
use Rattle.bufr_data.specs.Compressed.Places.{rows_from, columns_here}
use Rattle.bufr_data.specs.Subsets.{Extends}
use Rattle.bufr_data.proofs.compressed.write.put_columns.Given as goal

-- the columns from this place on can be written, and with those put they are all
abbrev pub invariant-loop-place : goal.invariant-loop-place
invariant-loop-place l = record {
  can : columns_of (l.place + 1) (drop l.place l.fields) (rows_from l.place l.others)
      ≡ Ok (columns_here (drop l.place l.fields) (rows_from l.place l.others));
  put : l.fn.sink ++ best_bits (columns_here l.fields (rows_from 0 l.others))
      ≡ l.sink ++ best_bits (columns_here (drop l.place l.fields) (rows_from l.place l.others));
  kept : Extends l.fn.sink l.sink;
}

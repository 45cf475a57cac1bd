-- The loop of `write_cells`: the sources that are left.
use Rattle.std.proofs.Common.{◌≡◌, ◌≤◌, ◌++◌, drop, length, map}
use Rattle.csv.specs.Writing.{default_writer, fields_text}
use Rattle.bufr_data.specs.Compressed.{subset_of}
use Rattle.bufr_select_rows.specs.Rows.{origin}
use Rattle.bufr_select_rows.specs.Sources.{source_text}
use Rattle.bufr_select_rows.proofs.row_line.write_cells.Given as goal

-- with the sources that are left all are written
abbrev pub invariant-loop-source : goal.invariant-loop-source
invariant-loop-source l =
    let text = source_text (origin l.from) (subset_of l.columns.columns l.subset).fields in
    record {
      fields : fields_text default_writer (map text l.left) ++ drop l.start l.room
          ≡ fields_text default_writer (map text l.fn.sources) ++ drop l.end l.fn.room;
      within : l.start ≤ l.end;
    }

-- the sources that are left
abbrev pub decreases-loop-source : goal.decreases-loop-source
decreases-loop-source l = length l.left

-- The loop of `find_sources`: the sources of the cells so far.
use Rattle.std.proofs.Common.{◌≡◌, map, take}
use Rattle.bufr_select_rows.specs.Sources.{source_of}
use Rattle.bufr_select_rows.proofs.source.find_sources.Given as goal

-- there is a source for each cell so far
abbrev pub invariant-loop-cell : goal.invariant-loop-cell
invariant-loop-cell l =
    l.sources.items ≡ map (λ c. source_of l.columns.columns c.column) (take l.cell-index l.cells)

use Rattle.std.proofs.Common.{◌≡◌, map, take}
use Rattle.bufr_tables.specs.TableFiles.{cells_at}
use Rattle.bufr_tables.proofs.columns.cells_at.Given as goal

-- the cells of the places read
abbrev pub invariant-loop-place : goal.invariant-loop-place
invariant-loop-place l =
    map (λ s. s.now) l.cells.items
    ≡ cells_at (map (λ s. s.now) l.fields) (take l.place-index l.places)

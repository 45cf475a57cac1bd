use Rattle.std.proofs.Common.{◌≡◌}
use Rattle.bufr_entries.specs.Entries.{kept}
use Rattle.bufr_shelves.proofs.shelving.shelve.Given as goal

-- the shelf keeps the entries before this one
abbrev pub invariant-loop-key : goal.invariant-loop-key
invariant-loop-key g l = g.S.Shelf.entries l.shelf ≡ kept l.yielded

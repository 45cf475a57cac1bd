use Rattle.std.proofs.Common.{◌≡◌, ◌++◌, length}
use Rattle.bufr_data.specs.Plain.{plain}
use Rattle.bufr_data.specs.Subsets.{Extends}
use Rattle.bufr_data.proofs.compressed.fields.ColumnFields.put.Given as goal

-- the bits put and those of the fields left are the bits of all
abbrev pub invariant-loop-field : goal.invariant-loop-field
invariant-loop-field l = record {
  put : l.sink ++ plain l.self ≡ l.initial.sink ++ plain l.initial.self;
  kept : Extends l.initial.sink l.sink;
}

-- each turn leaves one field fewer
abbrev pub decreases-loop-field : goal.decreases-loop-field
decreases-loop-field l = length l.self

use Rattle.std.proofs.Common.{◌≡◌, map, take}
use Rattle.csv.specs.Records.{fields_of}
use Rattle.bufr_tables.specs.Fields.{used_fields}
use Rattle.bufr_tables.proofs.fields.used_fields.Given as goal

-- the first `i` fields, trimmed
abbrev pub invariant-loop-i : goal.invariant-loop-i
invariant-loop-i l = map (λ s. s.now) l.fields.items ≡ take l.i (used_fields (fields_of l.row))

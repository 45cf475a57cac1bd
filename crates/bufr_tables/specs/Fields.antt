-- The fields of a record, trimmed as a table file uses them.
use Rattle.std.specs.Prelude.{ℕ, ◌==◌, List, [], ◌∷◌, map, reverse, if◌then◌else◌}
use Rattle.csv.specs.Reading.{strip_bom}

-- a record of a table file: its fields, each a list of octets
abbrev pub Record : Type 0
Record = List (List ℕ)

-- drops the spaces at the start
unfoldable pub skip_spaces : List ℕ → List ℕ
skip_spaces [] = []
skip_spaces (c ∷ rest) = if c == 32 then skip_spaces rest else c ∷ rest

-- drops the spaces at both ends
abbrev pub without_spaces : List ℕ → List ℕ
without_spaces text = reverse (skip_spaces (reverse (skip_spaces text)))

-- a record's fields without spaces at their ends, and the first without a byte order mark
abbrev pub used_fields : List (List ℕ) → List (List ℕ)
used_fields [] = []
used_fields (first ∷ rest) = map without_spaces (strip_bom first ∷ rest)

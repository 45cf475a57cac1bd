-- The last lines of `add` and `merge` (this project's own).
use Rattle.std.specs.Prelude.{ℕ, List, ◌∷◌, [], ◌++◌, codes, decimal}
use Rattle.bufr_io.specs.declared.fault.Tally.{Tally}

-- of `add`: the frames, the frames that spell no message, and the reports of the archive
abbrev pub added_line : Tally → List ℕ
added_line tally = codes "frames " ++ decimal tally.frames ++ codes " refused "
    ++ decimal tally.refused ++ codes " reports " ++ decimal tally.reports ++ 10 ∷ []

-- of `merge`: the archives read, and the reports of the archive written
abbrev pub merged_line : Tally → List ℕ
merged_line tally = codes "archives " ++ decimal tally.frames ++ codes " reports "
    ++ decimal tally.reports ++ 10 ∷ []

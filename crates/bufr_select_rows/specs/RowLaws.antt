-- Rows are whole lines.
use Rattle.std.proofs.Common.{ℕ, List, [], ◌∷◌, ◌++◌, cond, refl}
use Rattle.csv.specs.Writing.{default_writer, is_blank, row_body, row_text}
use Rattle.bufr_io.specs.LineLaws.{end_whole}
use Rattle.bufr_io.specs.Lines.{AreWholeLines}

-- a record ends with a line feed
pub row_whole : (fields : List (List ℕ)) → AreWholeLines (row_text default_writer fields)
row_whole fields =
    end_whole (row_body default_writer fields)
    (cond (is_blank default_writer fields) (34 ∷ 34 ∷ []) [] ++ 10 ∷ [])
    (cond (is_blank default_writer fields) (34 ∷ 34 ∷ []) []) refl

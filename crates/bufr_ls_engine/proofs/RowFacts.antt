-- The lines of inputs, and of more: what the contracts of what lists an input and of `run_ls` need.
use Rattle.std.proofs.Common.{◌≡◌, ℕ, ◌+◌, List, [], ◌∷◌, ◌++◌, length, ap, append_assoc}
use Rattle.std.proofs.lemmas.List.{append-nil}
use Rattle.bufr_frame.specs.declared.frames.Found.{Found}
use Rattle.bufr_frame.specs.Streams.{cut}
use Rattle.bufr_io.specs.Numbered.{inputs_from}
use Rattle.bufr_io.specs.ReachedLaws.{inputs_from-more, inputs_to-none}
use Rattle.bufr_ls_engine.specs.Rows.{header, listed_heads, listed_to, row, rows}
use Rattle.bufr_ls_engine.specs.declared.column.Column.{Column}

-- all that is listed of inputs, and the rows of the first frames of the next one
pub listed_on : (columns : List Column) (streams : List (List ℕ)) (frames : List Found)
    → listed_heads columns streams ++ rows columns (length streams + 1) frames
    ≡ listed_to columns streams frames
listed_on columns streams frames =
    append_assoc (header columns) (inputs_from (row columns) 1 streams)
    (rows columns (length streams + 1) frames)

-- all that is listed of inputs and of one more
pub listed_heads-more : (columns : List Column) (streams : List (List ℕ)) (stream : List ℕ)
    → listed_heads columns (streams ++ stream ∷ []) ≡ listed_to columns streams (cut stream)
listed_heads-more columns streams stream =
    ap (λ (t : List ℕ). header columns ++ t) (inputs_from-more (row columns) streams stream)

-- all that is listed of inputs, and no frame
pub listed_to-none : (columns : List Column) (streams : List (List ℕ))
    → listed_to columns streams [] ≡ listed_heads columns streams
listed_to-none columns streams =
    ap (λ (t : List ℕ). header columns ++ t) (inputs_to-none (row columns) streams)

-- before the first input there is the header line alone
pub listed_none : (columns : List Column) → listed_heads columns [] ≡ header columns
listed_none columns = append-nil (header columns)

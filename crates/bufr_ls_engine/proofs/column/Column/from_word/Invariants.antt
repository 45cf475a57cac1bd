-- The loop of `from_word`: the columns so far have another word.
use Rattle.std.proofs.Common.{◌≢◌, ℕ, ◌<◌, get_or}
use Rattle.bufr_ls_engine.specs.Columns.{word}
use Rattle.bufr_ls_engine.specs.declared.column.Column.TheVariants.{Input}
use Rattle.bufr_ls_engine.proofs.column.Column.from_word.Given as goal

-- none of the columns so far has the word
abbrev pub invariant-loop-column : goal.invariant-loop-column
invariant-loop-column l =
    (k : ℕ) → k < l.column-index → word (get_or l.columns k Input) ≢ l.text

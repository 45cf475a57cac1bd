-- The loop of `has_word`: the columns so far have another word.
use Rattle.std.proofs.Common.{◌≡◌, drop}
use Rattle.std.specs.List.{list_any}
use Rattle.std.specs.Str.{bytes_eq}
use Rattle.bufr_select_rows.specs.Columns.{word}
use Rattle.bufr_select_rows.proofs.column_words.has_word.Given as goal

-- whether a column has the word, the columns that are left say
abbrev pub invariant-loop-column : goal.invariant-loop-column
invariant-loop-column l =
    list_any (λ column. bytes_eq (word column) l.here) l.columns
    ≡ list_any (λ column. bytes_eq (word column) l.here) (drop l.column-index l.columns)

-- The loop of `push_words`: the words of the columns after the first.
use Rattle.std.proofs.Common.{◌≡◌, [], ◌∷◌, ◌++◌, take}
use Rattle.std.specs.List.{flat_map}
use Rattle.bufr_ls_engine.specs.Columns.{word}
use Rattle.bufr_ls_engine.proofs.row.push_words.Given as goal

-- the words of the columns so far were added, each with a comma before it
abbrev pub invariant-loop-column : goal.invariant-loop-column
invariant-loop-column l =
    l.text.items
    ≡ l.initial.text.items ++ flat_map (λ y. (44 ∷ []) ++ word y) (take l.column-index l.others)

-- The loop of `from_word`: the columns so far have another word.
use Rattle.std.proofs.Common.{◌≢◌, ℕ, ◌<◌, get_or}
use Rattle.bufr_select_rows.specs.Columns.{told_word}
use Rattle.bufr_select_rows.specs.declared.fact.Fact.TheVariants.{Input}
use Rattle.bufr_select_rows.proofs.fact.Fact.from_word.Given as goal

-- none of the columns so far has the word
abbrev pub invariant-loop-fact : goal.invariant-loop-fact
invariant-loop-fact l =
    (k : ℕ) → k < l.fact-index → told_word (get_or l.facts k Input) ≢ l.text

-- The clauses of `from_word`: the first column with the word, or none.
use Rattle.std.proofs.Common.{below_more, ◌∙◌, sym}
use Rattle.bufr_ls_engine.proofs.ColumnFacts.{none_of_all, other_word}
use Rattle.bufr_ls_engine.proofs.column.Column.from_word.Goals as goal

-- a column more has another word
pub loop-column-preserved : goal.loop-column-preserved
loop-column-preserved c =
    below_more _ _ c.loop-column.invariant
    (λ e. other_word c.word.result.now c.args.text.now (sym c.if-eq.ensures)
    (c.word.ensures ∙ e))

-- none of all has it
pub returns-clause-none : goal.returns-clause-none
returns-clause-none c =
    none_of_all c.args.text.now c.all-columns.result.now c.loop-column.column-index
    c.all-columns.ensures c.loop-column-test.false c.loop-column.invariant

-- The clauses of `from_word`: the first column with the word, or none.
use Rattle.std.proofs.Common.{below_more, ◌∙◌, sym}
use Rattle.bufr_select_rows.proofs.ColumnFacts.{none_of_all, other_word}
use Rattle.bufr_select_rows.proofs.fact.Fact.from_word.Goals as goal

-- a column more has another word
pub loop-fact-preserved : goal.loop-fact-preserved
loop-fact-preserved c =
    below_more _ _ c.loop-fact.invariant
    (λ e. other_word c.word.result.now c.args.text.now (sym c.if-eq.ensures)
    (c.word.ensures ∙ e))

-- none of all has it
pub returns-clause-none : goal.returns-clause-none
returns-clause-none c =
    none_of_all c.args.text.now c.all-facts.result.now c.loop-fact.fact-index
    c.all-facts.ensures c.loop-fact-test.false c.loop-fact.invariant

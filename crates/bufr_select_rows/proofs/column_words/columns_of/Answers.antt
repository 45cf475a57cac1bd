-- The clauses of `columns_of`: word by word, until one is refused.
use Rattle.std.proofs.Common.{IfErr, rules, subst, sym}
use Rattle.bufr_select_rows.specs.Columns.{RefusesColumns}
use Rattle.bufr_select_rows.proofs.ColumnFacts.{HasNamed, cut_once, named_all}
use Rattle.bufr_select_rows.proofs.ColumnFacts.{named_more, named_none, named_refused, not_cut, passed_on}
use Rattle.bufr_select_rows.proofs.column_words.columns_of.Goals as goal

-- at first all words are left
pub words-init : goal.words-init
words-init c = (
  subst (HasNamed c.args.text.now c.args.text.now) (sym c.new-columns.ensures.items)
      (named_none c.args.text.now),
  c.utf8.text,
)

-- what is left is text
pub split_once-requires-text-self : goal.split_once-requires-text-self
split_once-requires-text-self c = λ _. c.words.invariant.1

-- so it is without a comma
pub add_column-requires-in-None-text-here : goal.add_column-requires-in-None-text-here
add_column-requires-in-None-text-here c = λ _. c.words.invariant.1

-- a word is refused
pub returns-in_err-add_column-in-Some-clause-refused : goal.returns-in_err-add_column-in-Some-clause-refused
returns-in_err-add_column-in-Some-clause-refused c =
    passed_on (λ r. IfErr r (RefusesColumns c.args.text.now)) c.from_residual.result
    c.in_err-add_column-in-Some.field-0.0 c.from_residual.ensures.1
    (named_refused c.args.text.now c.words.rest.now c.in-Some.here.now c.words.columns.items
    c.add_column.new.columns.items _ c.in_err-add_column-in-Some.field-0.0 c.words.invariant.0
    (cut_once c.words.rest.now c.split_once.result c.in-Some.here c.in-Some.after
    c.split_once.ensures.cases c.in-Some.is)
    c.in_err-add_column-in-Some.ensures)

-- the columns of one word more are there
pub words-preserved : goal.words-preserved
words-preserved c = (
  named_more c.args.text.now c.words.rest.now c.in-Some.here.now c.in-Some.after.now
      c.words.columns.items c.add_column.new.columns.items c.in_ok-add_column-in-Some.field-0
      c.words.invariant.0
      (cut_once c.words.rest.now c.split_once.result c.in-Some.here c.in-Some.after
      c.split_once.ensures.cases c.in-Some.is)
      c.in_ok-add_column-in-Some.ensures,
  search rules,
)

-- the last word is refused
pub returns-in_err-add_column-in-None-clause-refused : goal.returns-in_err-add_column-in-None-clause-refused
returns-in_err-add_column-in-None-clause-refused c =
    passed_on (λ r. IfErr r (RefusesColumns c.args.text.now))
    c.from_residual-in_err-add_column-in-None.result
    c.in_err-add_column-in-None.field-0.0 c.from_residual-in_err-add_column-in-None.ensures.1
    (named_refused c.args.text.now c.words.rest.now c.words.rest.now c.words.columns.items
    c.add_column-in-None.new.columns.items _ c.in_err-add_column-in-None.field-0.0 c.words.invariant.0
    (not_cut c.words.rest.now c.split_once.result c.split_once.ensures.cases c.in-None.is)
    c.in_err-add_column-in-None.ensures)

-- all words have their columns
pub returns-in-None-clause-named : goal.returns-in-None-clause-named
returns-in-None-clause-named c =
    (named_all c.args.text.now c.words.rest.now c.words.columns.items
    c.add_column-in-None.new.columns.items c.in_ok-add_column-in-None.field-0 c.words.invariant.0
    (not_cut c.words.rest.now c.split_once.result c.split_once.ensures.cases c.in-None.is)
    c.in_ok-add_column-in-None.ensures).0

-- and none is there twice
pub returns-in-None-clause-distinct : goal.returns-in-None-clause-distinct
returns-in-None-clause-distinct c =
    (named_all c.args.text.now c.words.rest.now c.words.columns.items
    c.add_column-in-None.new.columns.items c.in_ok-add_column-in-None.field-0 c.words.invariant.0
    (not_cut c.words.rest.now c.split_once.result c.split_once.ensures.cases c.in-None.is)
    c.in_ok-add_column-in-None.ensures).1

-- each can be a column
pub returns-in-None-clause-can_be : goal.returns-in-None-clause-can_be
returns-in-None-clause-can_be c =
    (named_all c.args.text.now c.words.rest.now c.words.columns.items
    c.add_column-in-None.new.columns.items c.in_ok-add_column-in-None.field-0 c.words.invariant.0
    (not_cut c.words.rest.now c.split_once.result c.split_once.ensures.cases c.in-None.is)
    c.in_ok-add_column-in-None.ensures).2

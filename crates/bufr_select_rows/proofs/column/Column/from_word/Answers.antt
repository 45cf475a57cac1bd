-- The clauses of `from_word`: the column of a word with a descriptor, or none.
use Rattle.std.proofs.Common.{subst, sym}
use Rattle.std.specs.Option.{IfNone}
use Rattle.bufr_select_rows.specs.Columns.{IsNoColumn}
use Rattle.bufr_select_rows.proofs.WordFacts.{after_none, before_none, nth_some, six_none}
use Rattle.bufr_select_rows.proofs.WordFacts.{six_some}
use Rattle.bufr_select_rows.proofs.column.Column.from_word.Goals as goal

pub returns-in_err-fxy-in-len6-clause-none : goal.returns-in_err-fxy-in-len6-clause-none
returns-in_err-fxy-in-len6-clause-none c =
    subst (λ r. IfNone r (IsNoColumn c.args.text.now)) (sym c.from_residual.ensures)
    (six_none c.as_bytes.result.now c.args.text.now c.as_bytes.ensures.value c.in-len6.len_at_least
    c.in-len6.len_below c.in_default.ensures.none c.in_err-fxy-in-len6.ensures)

pub returns-in_ok-fxy-in-len6-clause-named : goal.returns-in_ok-fxy-in-len6-clause-named
returns-in_ok-fxy-in-len6-clause-named c =
    six_some c.as_bytes.result.now c.args.text.now c.in_ok-fxy-in-len6.fxy c.as_bytes.ensures.value
    c.in-len6.len_at_least c.in-len6.len_below c.in_ok-fxy-in-len6.ensures

pub returns-in_err-fxy-in-len7-up-clause-none : goal.returns-in_err-fxy-in-len7-up-clause-none
returns-in_err-fxy-in-len7-up-clause-none c =
    subst (λ r. IfNone r (IsNoColumn c.args.text.now))
    (sym c.from_residual-in_err-fxy-in-len7-up.ensures)
    (before_none c.as_bytes.result.now c.args.text.now c.as_bytes.ensures.value
    c.in-len7-up.len_at_least c.if-mark-ne35.false c.in_default.ensures.none
    c.in_err-fxy-in-len7-up.ensures)

pub returns-in_err-number-in-len7-up-clause-none :
    goal.returns-in_err-number-in-len7-up-clause-none
returns-in_err-number-in-len7-up-clause-none c =
    subst (λ r. IfNone r (IsNoColumn c.args.text.now))
    (sym c.from_residual-in_err-number-in-len7-up.ensures)
    (after_none c.as_bytes.result.now c.args.text.now c.as_bytes.ensures.value
    c.in-len7-up.len_at_least c.if-mark-ne35.false c.in_default.ensures.none
    c.in_err-number-in-len7-up.ensures.none)

pub returns-in_ok-number-in-len7-up-clause-named :
    goal.returns-in_ok-number-in-len7-up-clause-named
returns-in_ok-number-in-len7-up-clause-named c =
    nth_some c.as_bytes.result.now c.args.text.now c.in_ok-fxy-in-len7-up.fxy
    c.in_ok-number-in-len7-up.number c.as_bytes.ensures.value c.in-len7-up.len_at_least
    c.if-mark-ne35.false c.in_ok-fxy-in-len7-up.ensures c.in_ok-number-in-len7-up.ensures.spelt

-- The loop of `source_nth`: one column more.
use Rattle.std.proofs.Common.{◌∙◌, true, false, arith, sym}
use Rattle.bufr_select_rows.proofs.SourceFacts.{is_zero, no_zero, source_begun, source_here, source_none, source_other, stands}
use Rattle.bufr_select_rows.proofs.source.source_nth.Goals as goal

pub overflow_add-index : goal.overflow_add-index
overflow_add-index c =
    let at = stands c.args.columns.now.columns c.columns.index c.in-Some.here c.in-Some.ensures in
    omega (arith, at.2, c.len-len.ensures, c.len-len.type_inv)

pub overflow_add-index-in-Some : goal.overflow_add-index-in-Some
overflow_add-index-in-Some c =
    let at = stands c.args.columns.now.columns c.columns.index c.in-Some.here c.in-Some.ensures in
    omega (arith, at.2, c.len-len.ensures, c.len-len.type_inv)

pub columns-init : goal.columns-init
columns-init c = source_begun c.args.columns.now.columns c.args.fxy c.args.number
    (no_zero c.args.number c.if-number-eq0.false)

pub columns-smaller-then-ne : goal.columns-smaller-then-ne
columns-smaller-then-ne c =
    let at = stands c.args.columns.now.columns c.columns.index c.in-Some.here c.in-Some.ensures in
    omega (arith, at.2)

pub columns-smaller : goal.columns-smaller
columns-smaller c =
    let at = stands c.args.columns.now.columns c.columns.index c.in-Some.here c.in-Some.ensures in
    omega (arith, at.2)

pub columns-preserved-then-ne : goal.columns-preserved-then-ne
columns-preserved-then-ne c =
    let cs = c.args.columns.now.columns in
    let at = stands cs c.columns.index c.in-Some.here c.in-Some.ensures in
    sym (source_other cs c.args.fxy c.columns.ahead c.columns.index c.in-Some.here at
    (sym c.ne.ensures ∙ c.if-ne.true)) ∙ c.columns.invariant

pub returns-then-ahead-eq0 : goal.returns-then-ahead-eq0
returns-then-ahead-eq0 c =
    let cs = c.args.columns.now.columns in
    let at = stands cs c.columns.index c.in-Some.here c.in-Some.ensures in
    sym (source_here cs c.args.fxy c.columns.ahead c.columns.index c.in-Some.here true at
    (sym c.ne.ensures ∙ c.if-ne.false) (is_zero c.columns.ahead c.if-ahead-eq0.true)) ∙ c.columns.invariant

pub columns-preserved : goal.columns-preserved
columns-preserved c =
    let cs = c.args.columns.now.columns in
    let at = stands cs c.columns.index c.in-Some.here c.in-Some.ensures in
    sym (source_here cs c.args.fxy c.columns.ahead c.columns.index c.in-Some.here false at
    (sym c.ne.ensures ∙ c.if-ne.false) (no_zero c.columns.ahead c.if-ahead-eq0.false)) ∙ c.columns.invariant

pub returns : goal.returns
returns c =
    sym (source_none c.args.columns.now.columns c.args.fxy c.columns.ahead c.columns.index
    (sym c.in_default.is ∙ c.fxy_at.ensures)) ∙ c.columns.invariant

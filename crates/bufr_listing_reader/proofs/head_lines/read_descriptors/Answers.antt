use Rattle.std.proofs.Common.{◌≡◌, List, ◌∙◌, sym, ap, subst, ℕ, Ok}
use Rattle.std.proofs.lemmas.Result.{err_from_is_err_and}
use Rattle.bufr_base.specs.Answers.{Fails}
use Rattle.bufr_expand.specs.Templates.{template}
use Rattle.bufr_listing_reader.specs.Cursors.{left, past, printed}
use Rattle.bufr_listing_reader.specs.Lines.{as_printed}
use Rattle.bufr_listing_reader.specs.Reading.{read_descriptors, described}
use Rattle.bufr_listing_reader.proofs.CallFacts.{taken_ok, taken_err}
use Rattle.bufr_listing_reader.proofs.head_lines.read_descriptors.Goals.{After-as_slice}
use Rattle.bufr_listing_reader.proofs.head_lines.read_descriptors.Goals as goal

own : (c : After-as_slice) → read_descriptors c.args.templates.now c.in_ok-line.line.number
    (as_printed c.in_ok-line.line.text.now)
    ≡ described c.in_ok-line.line.number c.as_slice.result.now
    (template c.args.templates.now c.as_slice.result.now)
own c =
    c.in_ok-descriptors.ensures.ok c.args.templates.now
    ∙ ap (λ (xs : List ℕ). described c.in_ok-line.line.number xs
    (template c.args.templates.now xs)) (sym c.as_slice.ensures.value)

pub returns-in_err-descriptors-clause-read : goal.returns-in_err-descriptors-clause-read
returns-in_err-descriptors-clause-read c =
    let p = err_from_is_err_and c.from_residual-in_err-descriptors.result
    c.from_residual-in_err-descriptors.ensures.1 in
    rw (p.1, p.2) (taken_err (read_descriptors c.args.templates.now) (past c.args.lines.now)
    (left c.args.lines.now) (printed c.in_ok-line.line) (left c.take.new.self)
    c.in_err-descriptors.field-0.0 c.in_ok-line.ensures.taken
    (c.in_err-descriptors.ensures.fault c.args.templates.now))

pub returns-in_err-template-clause-read : goal.returns-in_err-template-clause-read
returns-in_err-template-clause-read c =
    let same = own (goal.at.returns-in_err-template-clause-read c).After-as_slice in
    let p = err_from_is_err_and c.from_residual-in_err-template.result
    c.from_residual-in_err-template.ensures.1 in
    rw (p.1, p.2) (taken_err (read_descriptors c.args.templates.now) (past c.args.lines.now)
    (left c.args.lines.now) (printed c.in_ok-line.line) (left c.take.new.self)
    c.in_err-template.field-0.0 c.in_ok-line.ensures.taken
    (subst (λ r. Fails c.in_err-template.field-0.0 r) (sym same) c.in_err-template.ensures.exact))

pub returns-clause-read : goal.returns-clause-read
returns-clause-read c =
    let same = own (goal.at.returns-clause-read c).After-as_slice in
    let ds = ap (λ (xs : List ℕ). record { descriptors = xs; tree = c.in_ok-template.template })
    c.as_slice.ensures.value in
    taken_ok (read_descriptors c.args.templates.now) (past c.args.lines.now) (left c.args.lines.now)
    (printed c.in_ok-line.line) (left c.take.new.self)
    (record { descriptors = c.in_ok-descriptors.descriptors.items; tree = c.in_ok-template.template })
    c.in_ok-line.ensures.taken
    (same ∙ c.in_ok-template.ensures.exact ∙ ap Ok ds)

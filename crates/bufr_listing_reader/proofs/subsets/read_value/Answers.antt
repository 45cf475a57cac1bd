use Rattle.std.proofs.Common.{◌∙◌, sym, ap, FitsSigned, rules}
use Rattle.std.specs.Int.{w64}
use Rattle.bufr_base.specs.declared.failure.Failure.TheVariants.{Fault}
use Rattle.bufr_listing.specs.declared.fault.ListingFault.TheVariants.{BadLine, BadValue}
use Rattle.bufr_listing_reader.specs.Cursors.{left, past, printed}
use Rattle.bufr_listing_reader.specs.FieldLines.{read_field}
use Rattle.bufr_listing_reader.specs.RawWords.{raw_of}
use Rattle.bufr_listing_reader.proofs.CursorFacts.{rest_whole}
use Rattle.bufr_listing_reader.proofs.CallFacts.{taken_ok, taken_err}
use Rattle.bufr_listing_reader.proofs.ValueFacts.{value_some, value_none, value_elsewhere}
use Rattle.bufr_listing_reader.proofs.subsets.read_value.Goals as goal

pub returns-then-not-begins_field-clause-read : goal.returns-then-not-begins_field-clause-read
returns-then-not-begins_field-clause-read c =
    rw c.bad_line.ensures
    (taken_err (read_field c.args.fxy c.args.spec) (past c.args.lines.now)
    (left c.args.lines.now) (printed c.in_ok-line.line) (left c.take.new.self)
    (Fault (BadLine c.in_ok-line.line.number)) c.in_ok-line.ensures.taken
    (value_elsewhere c.args.fxy c.args.spec c.in_ok-line.line.number c.in_ok-line.line.text.now
    (sym c.begins_field.ensures ∙ c.if-not-begins_field.true)))

pub returns-in-None-clause-read : goal.returns-in-None-clause-read
returns-in-None-clause-read c =
    let fits : FitsSigned w64 c.args.spec.reference = search rules in
    let own = rw c.in-None.is at c.in_ok-raw_of.ensures in
    let word = ap (raw_of c.args.spec) (rest_whole 7 c.in_ok-line.line.text.now) in
    rw c.bad_value.ensures
    (taken_err (read_field c.args.fxy c.args.spec) (past c.args.lines.now)
    (left c.args.lines.now) (printed c.in_ok-line.line) (left c.take.new.self)
    (Fault (BadValue c.in_ok-line.line.number)) c.in_ok-line.ensures.taken
    (value_none c.args.fxy c.args.spec c.in_ok-line.line.number c.in_ok-line.line.text.now fits
    (sym c.begins_field.ensures ∙ c.if-not-begins_field.false) (sym word ∙ sym own)))

pub returns-in-Some-clause-read : goal.returns-in-Some-clause-read
returns-in-Some-clause-read c =
    let fits : FitsSigned w64 c.args.spec.reference = search rules in
    let own = rw c.in-Some.is at c.in_ok-raw_of.ensures in
    let word = ap (raw_of c.args.spec) (rest_whole 7 c.in_ok-line.line.text.now) in
    taken_ok (read_field c.args.fxy c.args.spec) (past c.args.lines.now) (left c.args.lines.now)
    (printed c.in_ok-line.line) (left c.take.new.self)
    (record { fxy = c.args.fxy; spec = c.args.spec; raw = c.in-Some.raw })
    c.in_ok-line.ensures.taken
    (value_some c.args.fxy c.args.spec c.in_ok-line.line.number c.in_ok-line.line.text.now
    c.in-Some.raw fits (sym c.begins_field.ensures ∙ c.if-not-begins_field.false)
    (sym word ∙ sym own))

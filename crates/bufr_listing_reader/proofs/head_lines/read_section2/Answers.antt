use Rattle.std.proofs.Common.{◌∙◌, sym, ap, codes, subst}
use Rattle.std.specs.Str.{bytes_eq}
use Rattle.std.proofs.lemmas.Result.{err_from_is_err_and}
use Rattle.bufr_base.specs.Answers.{Fails}
use Rattle.bufr_listing_reader.specs.Cursors.{left}
use Rattle.bufr_listing_reader.specs.Reading.{read_section2}
use Rattle.bufr_listing_reader.proofs.CallFacts.{found_ok, found_err, not_found, none_found}
use Rattle.bufr_listing_reader.proofs.CallFacts.{section2_octets}
use Rattle.bufr_listing_reader.proofs.head_lines.read_section2.Goals.{in_default-via-in-Some+else-begins}
use Rattle.bufr_listing_reader.proofs.head_lines.read_section2.Goals.{in_default-via-in_default}
use Rattle.bufr_listing_reader.proofs.head_lines.read_section2.Goals as goal

pub returns-in_err-octets-in-Some-clause-read : goal.returns-in_err-octets-in-Some-clause-read
returns-in_err-octets-in-Some-clause-read c =
    let p = err_from_is_err_and c.from_residual.result c.from_residual.ensures.1 in
    let next = c.in-Some.ensures in
    rw (p.1, p.2) (found_err (codes "section2") read_section2 (left c.args.lines.now)
    c.in-Some.line next.0 c.in_err-octets-in-Some.field-0.0 next.1
    (sym c.begins.ensures ∙ c.if-begins.true)
    (subst (λ r. Fails c.in_err-octets-in-Some.field-0.0 r)
    (sym (section2_octets c.in-Some.line.number c.in-Some.line.text.now
    (ap (bytes_eq c.in-Some.line.text.now) (sym c.as_slice.ensures) ∙ sym c.eq.ensures
    ∙ c.if-eq.false))) c.in_err-octets-in-Some.ensures))

pub returns-in_ok-octets-in-Some-clause-read : goal.returns-in_ok-octets-in-Some-clause-read
returns-in_ok-octets-in-Some-clause-read c =
    let next = c.in-Some.ensures in
    rw c.from_vec-in-Some.ensures (found_ok (codes "section2") read_section2
    (left c.args.lines.now) c.in-Some.line next.0 (left c.pass.new.self)
    c.in_ok-octets-in-Some.octets.items next.1 c.pass.ensures.lines
    (sym c.begins.ensures ∙ c.if-begins.true)
    (section2_octets c.in-Some.line.number c.in-Some.line.text.now
    (ap (bytes_eq c.in-Some.line.text.now) (sym c.as_slice.ensures) ∙ sym c.eq.ensures
    ∙ c.if-eq.false) ∙ c.in_ok-octets-in-Some.ensures))

pub returns-in_default-clause-read : goal.returns-in_default-clause-read
returns-in_default-clause-read c =
    elim c.in_default.branch [
      | in_default-via-in-Some+else-begins w ↦
          let next = w.in-Some.ensures in
          not_found (codes "section2") read_section2 (left c.args.lines.now)
          w.in-Some.line next.0 next.1 (sym w.begins.ensures ∙ w.if-begins.false)
      | in_default-via-in_default w ↦
          none_found (codes "section2") read_section2 (left c.args.lines.now) w.in_default.ensures
    ]

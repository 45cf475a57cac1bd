use Rattle.std.proofs.Common.{◌≡◌, ◌∙◌, sym, ap, codes, false, length}
use Rattle.std.specs.Prelude.{◌&&◌, nat_le}
use Rattle.std.specs.Str.{bytes_eq}
use Rattle.std.proofs.lemmas.Bool.{and_left, and_right}
use Rattle.bufr_base.specs.declared.failure.Failure.TheVariants.{Fault}
use Rattle.bufr_listing.specs.declared.fault.ListingFault.TheVariants.{BadLine}
use Rattle.bufr_listing_reader.specs.Cursors.{left, past, printed}
use Rattle.bufr_listing_reader.specs.Lines.{first_word, words_of}
use Rattle.bufr_listing_reader.specs.Reading.{read_flags}
use Rattle.bufr_listing_reader.proofs.CallFacts.{taken_err, flags_are_others}
use Rattle.bufr_listing_reader.proofs.head_lines.read_flags.Goals.{else-begins-via-then-begins+else-has_at_most}
use Rattle.bufr_listing_reader.proofs.head_lines.read_flags.Goals.{else-begins-via-else-begins}
use Rattle.bufr_listing_reader.proofs.head_lines.read_flags.Goals as goal

pub returns-clause-read : goal.returns-clause-read
returns-clause-read c =
    let text = c.in_ok-line.line.text.now in
    let others : (bytes_eq (first_word text) (codes "flags") && nat_le (length (words_of text)) 3)
    ≡ false = elim c.else-begins.branch [
      | else-begins-via-then-begins+else-has_at_most w ↦
          and_right (bytes_eq (first_word text) (codes "flags"))
          (nat_le (length (words_of text)) 3)
          (sym (w.has_at_most.ensures ∙ ap (λ ws. nat_le (length ws) 3) w.of.ensures)
          ∙ w.if-has_at_most.false)
      | else-begins-via-else-begins w ↦
          and_left (bytes_eq (first_word text) (codes "flags"))
          (nat_le (length (words_of text)) 3) (sym c.begins.ensures ∙ w.if-begins.false)
    ] in
    rw c.bad_line.ensures (taken_err read_flags (past c.args.lines.now) (left c.args.lines.now)
    (printed c.in_ok-line.line) (left c.take.new.self) (Fault (BadLine c.in_ok-line.line.number))
    c.in_ok-line.ensures.taken (
    flags_are_others c.in_ok-line.line.number text (ap (bytes_eq text) (sym c.as_slice.ensures)
    ∙ sym c.eq.ensures ∙ c.if-eq.false) (ap (bytes_eq text) (sym c.as_slice-2.ensures)
    ∙ sym c.eq-2.ensures ∙ c.if-eq-2.false) (ap (bytes_eq text) (sym c.as_slice-3.ensures)
    ∙ sym c.eq-3.ensures ∙ c.if-eq-3.false) (ap (bytes_eq text) (sym c.as_slice-4.ensures)
    ∙ sym c.eq-4.ensures ∙ c.if-eq-4.false) others))

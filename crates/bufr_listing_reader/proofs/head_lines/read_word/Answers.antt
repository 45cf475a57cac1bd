use Rattle.std.proofs.Common.{◌∙◌, sym}
use Rattle.bufr_base.specs.declared.failure.Failure.TheVariants.{Fault}
use Rattle.bufr_listing.specs.declared.fault.ListingFault.TheVariants.{BadLine}
use Rattle.bufr_listing_reader.specs.Cursors.{left, past, printed}
use Rattle.bufr_listing_reader.specs.Reading.{read_word}
use Rattle.bufr_listing_reader.proofs.CallFacts.{taken_err, word_is_not}
use Rattle.bufr_listing_reader.proofs.head_lines.read_word.Goals as goal

pub returns-else-eq-clause-read : goal.returns-else-eq-clause-read
returns-else-eq-clause-read c =
    rw c.bad_line.ensures
    (taken_err (read_word c.args.word.now) (past c.args.lines.now) (left c.args.lines.now)
    (printed c.in_ok-line.line) (left c.take.new.self)
    (Fault (BadLine c.in_ok-line.line.number)) c.in_ok-line.ensures.taken
    (word_is_not c.args.word.now c.in_ok-line.line.number c.in_ok-line.line.text.now c.requires
    (sym c.eq.ensures ∙ c.if-eq.false)))

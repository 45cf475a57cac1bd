-- The listing of a message is short, and the line of a refusal is whole.
use Rattle.std.proofs.Common.{◌≡◌, ◌++◌, ◌∙◌, ap, sym, Result, Err}
use Rattle.bufr_base.specs.AnswerLaws.{told_fault}
use Rattle.bufr_message.specs.declared.Decoded.{Decoded}
use Rattle.bufr_message.specs.declared.Refused.{Refused}
use Rattle.bufr_message.specs.Messages.{message_of}
use Rattle.bufr_io.specs.Taking.{frame_at}
use Rattle.bufr_engines.specs.declared.frame_lines.OutputForm.TheVariants.{Shown}
use Rattle.bufr_engines.specs.Output.{printed_as}
use Rattle.bufr_engines.proofs.LineFacts.{printed_whole}
use Rattle.bufr_engines.proofs.LineLengths.{listing_short}
use Rattle.bufr_engines.proofs.PartFacts.{adds_held}
use Rattle.bufr_engines.proofs.printer.Printer.show_frame.Goals as goal

pub print_listing-requires-clause-listed : goal.print_listing-requires-clause-listed
print_listing-requires-clause-listed g c =
    listing_short c.in-Ok.found.message
    (c.subsets_are_small.ensures _ _ _ _ c.in-Ok.ensures.found)

pub returns-in_ok-hold_refused-in-Err-Fault-clause-prints :
    goal.returns-in_ok-hold_refused-in-Err-Fault-clause-prints
returns-in_ok-hold_refused-in-Err-Fault-clause-prints g c =
    let p = c.args.self.now in
    let frame = frame_at c.args.place c.args.octets.now in
    let found : Result Decoded Refused = message_of p.message_reader c.args.octets.now in
    let is : found ≡ Err c.in-Err-Fault.why =
    told_fault c.in-Err-Fault.field-0 c.in-Err-Fault.why found c.in-Err-Fault.field-0-is
    c.in-Err-Fault.ensures.exact in
    adds_held (printed_as Shown frame found) c.hold_refused.new.text.items p _
    (c.in_ok-hold_refused-in-Err-Fault.ensures.ok
    ∙ ap (λ r. p.held.items ++ printed_as Shown frame r) (sym is))
    c.requires.lines (printed_whole Shown frame found) c.requires.works

-- By what `read_marks` returns.
use Rattle.std.proofs.Common.{◌≡◌, Ok, List, ℕ, subst, ◌∙◌}
use Rattle.bufr_sections.specs.Sections.{AreOctets}
use Rattle.bufr_tables.specs.Entries.{Entries}
use Rattle.bufr_gather.specs.ArchiveTexts.{IsTextOf, entries_in, marks_or}
use Rattle.bufr_gather.specs.ReportEntries.{entry_in}
use Rattle.bufr_gather.specs.Texts.{entries_read}
use Rattle.bufr_gather.proofs.HeldFacts.{held, text_read, text_stops}
use Rattle.bufr_gather.specs.ReportTextFacts.{accepted, only, refused}
use Rattle.bufr_gather.proofs.archive_text.ArchiveText.read.Goals as goal

pub invariant_of-result : goal.invariant_of-result
invariant_of-result c =
    let octets = c.shrink_to_fit.new.self.items in
    let marks = c.in_ok-marks.marks.items in
    let told : marks_or (entries_read (entry_in c.for_elements-message_reader.result) octets) ≡ Ok marks =
    subst (λ (o : List ℕ). marks_or (entries_read (entry_in c.for_elements-message_reader.result) o) ≡ Ok marks)
    c.deref.ensures.value c.in_ok-marks.ensures.marks in
    subst (λ (t : Entries). IsTextOf t octets marks (entries_in t octets))
    c.for_elements-message_reader.ensures
    (held c.reports_are_entries.ensures c.for_elements-message_reader.result octets marks
    (subst AreOctets c.deref.ensures.value c.in_ok-marks.ensures.octets) told)

pub returns-clause-accepted : goal.returns-clause-accepted
returns-clause-accepted c =
    let octets = c.args.octets.items in
    let shrunk = c.shrink_to_fit.new.self.items in
    accepted c.written_messages_are_spelt.ensures.only c.reports_are_entries.ensures
    c.args.tables.now octets
    (Ok (record { tables = c.args.tables.now; entries = entries_in c.args.tables.now shrunk }))
    (text_read c.for_elements-message_reader.result c.args.tables.now c.deref.result.now shrunk octets
    c.in_ok-marks.marks.items c.for_elements-message_reader.ensures c.deref.ensures.value
    c.shrink_to_fit.ensures.items c.in_ok-marks.ensures.marks)
    (subst AreOctets (c.deref.ensures.value ∙ c.shrink_to_fit.ensures.items)
    c.in_ok-marks.ensures.octets)

pub returns-clause-only : goal.returns-clause-only
returns-clause-only c =
    let octets = c.args.octets.items in
    let shrunk = c.shrink_to_fit.new.self.items in
    only c.written_messages_are_spelt.ensures.only c.reports_are_entries.ensures
    c.args.tables.now octets
    (Ok (record { tables = c.args.tables.now; entries = entries_in c.args.tables.now shrunk }))
    (text_read c.for_elements-message_reader.result c.args.tables.now c.deref.result.now shrunk octets
    c.in_ok-marks.marks.items c.for_elements-message_reader.ensures c.deref.ensures.value
    c.shrink_to_fit.ensures.items c.in_ok-marks.ensures.marks)

pub returns-in_err-marks-clause-only : goal.returns-in_err-marks-clause-only
returns-in_err-marks-clause-only c =
    only c.written_messages_are_spelt.ensures.only c.reports_are_entries.ensures
    c.args.tables.now c.args.octets.items c.from_residual.result
    (text_stops c.for_elements-message_reader.result c.args.tables.now c.deref.result.now c.args.octets.items
    c.in_err-marks.field-0.0 c.from_residual.result c.from_residual.ensures.1
    c.for_elements-message_reader.ensures (c.deref.ensures.value ∙ c.shrink_to_fit.ensures.items)
    c.in_err-marks.ensures.marks)

pub returns-in_err-marks-clause-refused : goal.returns-in_err-marks-clause-refused
returns-in_err-marks-clause-refused c =
    let is = c.deref.ensures.value ∙ c.shrink_to_fit.ensures.items in
    refused c.written_messages_are_spelt.ensures.only c.reports_are_entries.ensures
    c.args.tables.now c.args.octets.items c.from_residual.result
    (text_stops c.for_elements-message_reader.result c.args.tables.now c.deref.result.now c.args.octets.items
    c.in_err-marks.field-0.0 c.from_residual.result c.from_residual.ensures.1
    c.for_elements-message_reader.ensures is c.in_err-marks.ensures.marks)
    (subst AreOctets is c.in_err-marks.ensures.octets)

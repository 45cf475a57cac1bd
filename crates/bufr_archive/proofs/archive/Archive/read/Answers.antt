-- By what `read_entries` returns.
use Rattle.std.proofs.Common.{◌^◌, ◌<◌, ℕ, arith}
use Rattle.std.proofs.lemmas.List.Elements.{All-from_get_or}
use Rattle.bufr_gather.specs.ReportTextFacts.{accepted, only, refused}
use Rattle.bufr_archive.proofs.archive.Archive.read.Goals as goal

pub returns-clause-accepted : goal.returns-clause-accepted
returns-clause-accepted g c =
    let octets = c.args.octets.now in
    accepted c.written_messages_are_spelt.ensures.only c.reports_are_entries.ensures
    c.args.tables.now octets c.read_entries.result c.read_entries.ensures
    (All-from_get_or (λ (x : ℕ). x < 2 ^ 8) octets 0
    (λ i below. omega (arith, c.type_inv.octets i)))

pub returns-clause-only : goal.returns-clause-only
returns-clause-only g c =
    only c.written_messages_are_spelt.ensures.only c.reports_are_entries.ensures
    c.args.tables.now c.args.octets.now c.read_entries.result c.read_entries.ensures

pub returns-clause-refused : goal.returns-clause-refused
returns-clause-refused g c =
    let octets = c.args.octets.now in
    refused c.written_messages_are_spelt.ensures.only c.reports_are_entries.ensures
    c.args.tables.now octets c.read_entries.result c.read_entries.ensures
    (All-from_get_or (λ (x : ℕ). x < 2 ^ 8) octets 0
    (λ i below. omega (arith, c.type_inv.octets i)))

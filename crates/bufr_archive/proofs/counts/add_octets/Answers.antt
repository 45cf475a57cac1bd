-- A message has fewer than 2^16 reports.
use Rattle.bufr_archive.proofs.CountFacts.{octets_are, added_few, changed_few, done_few}
use Rattle.bufr_archive.proofs.counts.add_octets.Goals as goal

pub returns-clause-reports : goal.returns-clause-reports
returns-clause-reports g c =
    added_few c.messages_are_spelt.ensures.read c.args.archive.now c.add_message.new.self
    c.args.octets.now c.add_message.result (octets_are c.args.octets.now c.type_inv.octets)
    c.add_message.ensures

pub returns-clause-changed : goal.returns-clause-changed
returns-clause-changed g c =
    changed_few c.args.archive.now c.add_message.new.self c.args.octets.now c.add_message.result
    c.add_message.ensures

pub returns-clause-done : goal.returns-clause-done
returns-clause-done g c =
    done_few c.messages_are_spelt.ensures.read c.args.archive.now c.add_message.new.self
    c.args.octets.now c.add_message.result (octets_are c.args.octets.now c.type_inv.octets)
    c.add_message.ensures

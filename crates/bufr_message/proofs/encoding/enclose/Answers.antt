use Rattle.std.proofs.Common.{arith, Err}
use Rattle.bufr_base.specs.AnswerLaws.{told_fault}
use Rattle.bufr_sections.specs.SectionsRead.{message_lent}
use Rattle.bufr_message.proofs.EncodingFacts.{whole_octets_are, enclosed_is}
use Rattle.bufr_message.proofs.encoding.enclose.Goals as goal

pub returns-in-Ok : goal.returns-in-Ok
returns-in-Ok c data_bits same =
    let octets =
    whole_octets_are c.args.contents.now data_bits
    (λ i. omega (arith, c.type_inv.contents i)) same in
    enclosed_is (message_lent c.args.sections.now c.args.subsets.now) c.args.contents.now data_bits
    _ octets c.in-Ok.ensures

pub returns-in-Err-Fault : goal.returns-in-Err-Fault
returns-in-Err-Fault c data_bits same =
    let octets =
    whole_octets_are c.args.contents.now data_bits
    (λ i. omega (arith, c.type_inv.contents i)) same in
    enclosed_is (message_lent c.args.sections.now c.args.subsets.now) c.args.contents.now data_bits
    (Err c.in-Err-Fault.fault) octets
    (told_fault _ _ _ c.in-Err-Fault.field-0-is c.in-Err-Fault.ensures)

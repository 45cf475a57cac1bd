use Rattle.std.proofs.Common.{arith}
use Rattle.bufr_base.specs.AnswerLaws.{told_fault}
use Rattle.bufr_message.specs.Reports.{with_parts}
use Rattle.bufr_message.proofs.EncodingFacts.{whole_octets_are}
use Rattle.bufr_message.proofs.OwnBitsFacts.{put_behind, none_behind}
use Rattle.bufr_message.proofs.own_bits.put_with_head.Goals as goal

pub returns-in-Ok-clause-put : goal.returns-in-Ok-clause-put
returns-in-Ok-clause-put c subset data_bits same =
    let a = c.args in
    let octets =
    whole_octets_are a.contents.now data_bits (λ i. omega (arith, c.type_inv.contents i)) same in
    put_behind (with_parts a.head.now a.observed a.descriptors.now subset) a.head.now a.contents.now
    data_bits a.out.now.items _ octets c.requires c.in-Ok.ensures.exact

pub returns-in-Err-Fault-clause-put : goal.returns-in-Err-Fault-clause-put
returns-in-Err-Fault-clause-put c subset data_bits same =
    let a = c.args in
    let octets =
    whole_octets_are a.contents.now data_bits (λ i. omega (arith, c.type_inv.contents i)) same in
    none_behind (with_parts a.head.now a.observed a.descriptors.now subset) a.head.now a.contents.now
    data_bits a.out.now.items _ _ octets c.requires
    (told_fault _ _ _ c.in-Err-Fault.field-0-is c.in-Err-Fault.ensures.exact)
    c.in-Err-Fault.ensures.err

use Rattle.bufr_message.proofs.own_bits.put_alone.Goals as goal

pub returns-clause-put : goal.returns-clause-put
returns-clause-put c subset data_bits same =
    rw (c.with_no_local-head.ensures, c.of_head.ensures)
    at (c.put_with_head-2.ensures.put subset data_bits same)

-- The total length ends the first message.
use Rattle.std.proofs.Common.{◌+◌, ◌*◌, sym, ap, ◌∙◌, arith, take, drop, length, get_or}
use Rattle.std.proofs.lemmas.List.{length-take-le}
use Rattle.bufr_gather.specs.EntryFacts.{none_first, some_first, whole_first, behind_them, from_on}
use Rattle.bufr_gather.proofs.reading.split_first.Goals as goal

pub returns-in_default-clause-first : goal.returns-in_default-clause-first
returns-in_default-clause-first c = sym (none_first c.args.octets.now (omega arith))

pub returns-in_default-clause-behind : goal.returns-in_default-clause-behind
returns-in_default-clause-behind c =
    behind_them c.args.octets.now _ (none_first c.args.octets.now (omega arith))

pub returns-then-length-octets-clause-first : goal.returns-then-length-octets-clause-first
returns-then-length-octets-clause-first c =
    sym (whole_first c.args.octets.now c.in-len7-up.len_at_least (omega arith))

pub returns-then-length-octets-clause-behind : goal.returns-then-length-octets-clause-behind
returns-then-length-octets-clause-behind c =
    let octets = c.args.octets.now in
    from_on octets (length octets)
    ∙ behind_them octets octets (whole_first octets c.in-len7-up.len_at_least (omega arith))

pub returns-clause-first : goal.returns-clause-first
returns-clause-first c =
    sym (some_first c.args.octets.now c.in-len7-up.len_at_least)

pub returns-clause-behind : goal.returns-clause-behind
returns-clause-behind c =
    let octets = c.args.octets.now in
    let n = 65536 * get_or octets 4 0 + 256 * get_or octets 5 0 + get_or octets 6 0 in
    from_on octets n ∙ ap (λ k. drop k octets) (sym (length-take-le n octets (omega arith)))
    ∙ behind_them octets (take n octets) (some_first octets c.in-len7-up.len_at_least)

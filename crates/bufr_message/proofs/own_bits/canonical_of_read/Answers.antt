use Rattle.std.proofs.Common.{◌≡◌, ℕ, List, Option, IfOk, option_map, subst}
use Rattle.bufr_message.proofs.own_bits.canonical_of_read.Goals as goal

pub returns-clause-canonical : goal.returns-clause-canonical
returns-clause-canonical c = λ tables octets is.
    subst (λ (spelt : Option (List ℕ)). IfOk c.spelt_alone.result
    (λ found. option_map (λ v. v.items) found ≡ spelt))
    (c.canonical_messages_are_own.ensures tables c.args.report.now octets is)
    c.spelt_alone.ensures

-- The head says again what the text has.
use Rattle.std.proofs.Common.{◌∙◌, arith, sym}
use Rattle.std.proofs.lemmas.List.Elements.{All-from_get_or}
use Rattle.bufr_sections.specs.Sections.{IsOctet}
use Rattle.bufr_ls_engine.proofs.last_fields.LastFields.set.Goals as goal

pub returns-then-is_of : goal.returns-then-is_of
returns-then-is_of c _ =
    let octets = c.args.octets.now in
    let again =
    c.self.invariant.2 octets
    (All-from_get_or IsOctet octets 0 (λ i here. omega (arith, c.type_inv.octets i)))
    (c.is_of.ensures c.if-is_of.true) in
    (again.0, again.1, sym c.self.view_is ∙ again.3)

use Rattle.std.proofs.Common.{arith, rules}
use Rattle.std.proofs.lemmas.List.Elements.{All-from_get_or}
use Rattle.bufr_sections.specs.Sections.{IsOctet}
use Rattle.bufr_sections.specs.SectionsRead.{envelope}
use Rattle.bufr_message.proofs.message_view.view_in.Goals as goal

pub invariant_of-result : goal.invariant_of-result
invariant_of-result c = record {
  rooms = c.in_ok-subsets.ensures.room;
  list = first_of (search rules, grind arith);
  count = c.in_ok-subsets.ensures.count;
  read = c.requires.read;
  contents =
      (c.sections_are_spelt.ensures.read c.args.octets.now (envelope c.args.sections)
      (All-from_get_or IsOctet c.args.octets.now 0
      (λ i here. omega (arith, c.type_inv.octets i))) c.requires.read).3.contents;
}

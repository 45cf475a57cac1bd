use Rattle.std.proofs.Common.{◌==◌, ◌/◌, length}
use Rattle.bufr_fields.proofs.OctetFacts.{octets_below, and_true}
use Rattle.bufr_fields.proofs.form.is_octets.Goals as goal

pub returns : goal.returns
returns c =
    rw c.from.ensures
    (and_true (length c.args.octets.now == c.args.width / 8) _
    (octets_below c.args.octets.now c.type_inv.octets))

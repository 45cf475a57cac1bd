use Rattle.std.proofs.Common.{◌∙◌, sym}
use Rattle.std.specs.Cmp.Derive.Mapped.{pointwise-map}
use Rattle.bufr_tables.proofs.fields.same_fields.Goals as goal

pub returns : goal.returns
returns c = c.eq.ensures ∙ sym (pointwise-map _ _ c.args.fields.now c.args.others.now)

-- The text stays, and the head is kept.
use Rattle.std.proofs.Common.{◌∙◌, subst, sym}
use Rattle.bufr_ls_engine.specs.RowSteps.{SaysAgain}
use Rattle.bufr_ls_engine.proofs.last_fields.LastFields.set_to.Goals as goal

pub invariant_of-self : goal.invariant_of-self
invariant_of-self c = (
  c.self.invariant.0,
  c.args.said.now.head.master_version,
  subst (λ t. SaysAgain c.keep.new.self c.args.said.now.head.master_version t)
      (sym (c.is_of.ensures c.if-is_of.true) ∙ sym c.self.view_is) c.keep.ensures,
)

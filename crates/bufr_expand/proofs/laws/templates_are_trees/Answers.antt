use Rattle.bufr_expand.proofs.TemplateFacts.{builds_exactly, template_refuses}
use Rattle.bufr_expand.proofs.laws.templates_are_trees.Goals as goal

pub returns : goal.returns
returns c = record { built = builds_exactly; refused = template_refuses }

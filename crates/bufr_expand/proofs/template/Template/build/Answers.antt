-- An expansion onto no nodes is a template.
use Rattle.std.proofs.Common.{rules}
use Rattle.bufr_expand.proofs.FlatFacts.{built-well_formed}
use Rattle.bufr_expand.proofs.template.Template.build.Goals as goal

pub invariant_of-result : goal.invariant_of-result
invariant_of-result c =
    rw c.in_ok-shared.ensures.ok (
      built-well_formed c.args.tables.now c.args.list.now c.new-nodes.result.items
          c.expand.new.nodes.items c.new-nodes.ensures.items c.in_ok-expand.ensures,
      search rules,
    )

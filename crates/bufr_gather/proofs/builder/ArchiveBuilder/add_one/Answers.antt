-- The builder gets the entry of the report.
use Rattle.bufr_gather.proofs.AddFacts.{puts_where_ok}
use Rattle.bufr_gather.proofs.ReportFacts.{put_slot, subset_there}
use Rattle.bufr_gather.proofs.builder.ArchiveBuilder.add_one.Goals as goal

pub returns-clause-ok : goal.returns-clause-ok
returns-clause-ok c =
    let there = subset_there c.args.view.now.message.subsets c.args.index c.requires in
    puts_where_ok c.put_marked.result c.self.inside.message_reader c.self.inside.entries
    c.put_marked.new.self c.args.self.now _ _ c.self.view_is
    (put_slot c.args.view.now.message c.args.index
    there.0 c.head.result.now c.of_head-head.result c.in_ok-slot.slot c.requires there.1
    c.head.ensures c.of_head-head.ensures (c.in_ok-slot.ensures there.0 there.1))
    c.put_marked.ensures.ok

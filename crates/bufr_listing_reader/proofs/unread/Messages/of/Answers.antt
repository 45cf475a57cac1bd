use Rattle.std.proofs.Common.{◌∙◌, ap}
use Rattle.bufr_listing_reader.specs.Unread.{all_of}
use Rattle.bufr_listing_reader.proofs.UnreadFacts.{unread_at, all_listed, few_messages}
use Rattle.bufr_listing_reader.proofs.unread.Messages.of.Goals as goal

pub returns-clause-exact : goal.returns-clause-exact
returns-clause-exact c =
    unread_at c.args.tables.now _ c.args.text.now _ _ c.new.ensures c.of.ensures.past
    c.of.ensures.lines

pub returns-clause-listed : goal.returns-clause-listed
returns-clause-listed c =
    ap all_of (unread_at c.args.tables.now _ c.args.text.now _ _ c.new.ensures c.of.ensures.past
    c.of.ensures.lines)
    ∙ all_listed c.args.tables.now c.args.text.now

pub returns-clause-few : goal.returns-clause-few
returns-clause-few c =
    let is =
    unread_at c.args.tables.now _ c.args.text.now _ _ c.new.ensures c.of.ensures.past
    c.of.ensures.lines in
    rw is (few_messages c.args.tables.now c.args.text.now)

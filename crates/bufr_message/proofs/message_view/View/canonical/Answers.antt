use Rattle.bufr_message.proofs.OwnBitsFacts.{told_there}
use Rattle.bufr_message.proofs.message_view.View.canonical.Goals as goal

pub returns-then-not-branch : goal.returns-then-not-branch
returns-then-not-branch c =
    told_there _ _ _ _ (rw c.new-octets.ensures.items at c.in_ok-put_canonical.ensures.put)
    c.if-not-branch.true

pub returns : goal.returns
returns c =
    told_there _ _ _ _ (rw c.new-octets.ensures.items at c.in_ok-put_canonical.ensures.put)
    c.if-not-branch.false

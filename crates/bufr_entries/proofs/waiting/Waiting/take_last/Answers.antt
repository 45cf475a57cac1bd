-- The octets read ahead are those of the entries left.
use Rattle.std.proofs.Common.{rules}
use Rattle.bufr_entries.proofs.AheadLemmas.{last-taken, last-read}
use Rattle.bufr_entries.proofs.waiting.Waiting.take_last.Goals as goal

pub invariant_of-self-then-left-gt0 : goal.invariant_of-self-then-left-gt0
invariant_of-self-then-left-gt0 c =
    last-taken c.self.inside.octets.items c.self.inside.entries.items c.take_last.new.members.items
    c.in_ok-mark.field-0 c.self.inside.ahead.items c.truncate.new.self.items c.in-Some.left
    c.in_ok-mark.ensures.items c.self.invariant (search rules) (search rules) c.truncate.ensures.items

pub invariant_of-self-in_default : goal.invariant_of-self-in_default
invariant_of-self-in_default c =
    last-read c.self.inside.octets.items c.deref.result.now c.self.inside.entries.items
    c.take_last.new.members.items c.deref-in_default.result.now c.in_ok-mark.field-0
    c.read_last.new.ahead.items c.in_ok-mark.ensures.items c.self.invariant.0
    c.deref.ensures.value c.deref-in_default.ensures.value c.read_last.ensures

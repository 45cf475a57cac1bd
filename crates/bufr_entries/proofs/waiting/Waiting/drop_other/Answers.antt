use Rattle.std.proofs.Common.{◌∙◌, ap, reverse, take, drop, ◌++◌}
use Rattle.bufr_entries.specs.Pages.{waits_in}
use Rattle.bufr_entries.proofs.AheadLemmas.{none-last}
use Rattle.bufr_entries.proofs.PageLemmas.{parts-other, mapped-other}
use Rattle.bufr_entries.proofs.waiting.Waiting.drop_other.Goals as goal

pub invariant_of-self : goal.invariant_of-self
invariant_of-self c = (
  parts-other c.self.inside.octets.items c.self.inside.entries.items
      c.drop_other.new.entries.items c.drop_other.ensures c.self.invariant.0,
  none-last c.self.inside.octets.items c.drop_other.new.entries.items c.clear.new.self.items
      c.clear.ensures.items,
)

pub returns : goal.returns
returns c =
    mapped-other (waits_in c.self.inside.octets.items) c.self.inside.entries.items
    c.drop_other.new.entries.items c.drop_other.ensures
    ∙ ap (λ es. take 1 (reverse es) ++ drop 2 (reverse es)) c.self.view_is

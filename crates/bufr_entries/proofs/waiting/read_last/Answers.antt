-- `ahead` is the octets of the last entries.
use Rattle.std.proofs.Common.{◌≤◌, ◌∙◌, ap, length, rules}
use Rattle.std.proofs.lemmas.List.{take_all}
use Rattle.bufr_entries.specs.Pages.{octets_waiting}
use Rattle.bufr_entries.proofs.AheadLemmas.{none-last, part-last}
use Rattle.bufr_entries.proofs.waiting.read_last.Goals as goal

pub returns : goal.returns
returns c =
    let os = c.args.octets.now in
    let last = c.split_at.result.1.now in
    let end : length last ≤ c.loop-entry.entry-index = search rules in
    part-last os c.args.entries.now c.loop-first.first c.loop-entry.ahead.items
    (c.loop-entry.invariant
    ∙ ap (octets_waiting os) (take_all c.loop-entry.entry-index last end)
    ∙ ap (octets_waiting os) c.split_at.ensures.back)

pub returns-then-is_err : goal.returns-then-is_err
returns-then-is_err c =
    none-last c.args.octets.now c.args.entries.now c.clear-then-is_err.new.self.items
    c.clear-then-is_err.ensures.items

pub returns-then-lie_together : goal.returns-then-lie_together
returns-then-lie_together c =
    none-last c.args.octets.now c.args.entries.now c.clear.new.self.items c.clear.ensures.items

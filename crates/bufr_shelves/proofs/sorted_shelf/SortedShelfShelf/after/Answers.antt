-- Entries with a key come before those without.
use Rattle.std.proofs.Common.{◌∙◌, ap, sym}
use Rattle.std.specs.Option.{option_map, option_copied}
use Rattle.bufr_entries.specs.Entries.{entry_after}
use Rattle.bufr_shelves.specs.Pairs.{with_key, without_key}
use Rattle.bufr_shelves.specs.Shelves.{lent}
use Rattle.bufr_shelves.proofs.ShelvedLemmas.{after-keyed, after-last-key, after-unkeyed}
use Rattle.bufr_shelves.proofs.ShelvedLemmas.{entries-are}
use Rattle.bufr_shelves.proofs.ShelvedLemmas.{sorted-keyed, sorted-unkeyed}
use Rattle.bufr_shelves.proofs.sorted_shelf.SortedShelfShelf.after.Goals as goal

pub returns-in_default : goal.returns-in_default
returns-in_default c =
    c.held_without_key.ensures ∙ ap (option_map without_key) c.next_after.ensures
    ∙ after-unkeyed c.self.inside.keyed.items c.self.inside.unkeyed.items (lent c.args.held)
    (ap option_copied c.in_default.is)
    ∙ ap (λ es. entry_after es (lent c.args.held))
    (sym (entries-are c.args.self.now _ c.self.view_is c.self.invariant))

pub returns-in-Some-held_with_key : goal.returns-in-Some-held_with_key
returns-in-Some-held_with_key c =
    after-keyed c.self.inside.keyed.items c.self.inside.unkeyed.items (lent c.args.held)
    c.in-Some.key.now (ap option_copied c.in-Some.is) (lent c.in-Some-held_with_key.next)
    (c.in-Some-held_with_key.ensures ∙ ap (option_map with_key) c.next_after-2.ensures)
    ∙ ap (λ es. entry_after es (lent c.args.held))
    (sym (entries-are c.args.self.now _ c.self.view_is c.self.invariant))

pub returns-in-None : goal.returns-in-None
returns-in-None c =
    c.held_without_key-in-None.ensures ∙ ap (option_map without_key) c.first_pair.ensures
    ∙ after-last-key c.self.inside.keyed.items c.self.inside.unkeyed.items (lent c.args.held)
    c.in-Some.key.now (ap option_copied c.in-Some.is)
    (c.in-None.ensures ∙ ap (option_map with_key) c.next_after-2.ensures)
    ∙ ap (λ es. entry_after es (lent c.args.held))
    (sym (entries-are c.args.self.now _ c.self.view_is c.self.invariant))

pub next_after-requires : goal.next_after-requires
next_after-requires c =
    sorted-unkeyed c.self.inside.keyed.items c.self.inside.unkeyed.items c.self.invariant

pub next_after-requires-2 : goal.next_after-requires-2
next_after-requires-2 c =
    sorted-keyed c.self.inside.keyed.items c.self.inside.unkeyed.items c.self.invariant

-- Entries with a key are in the map of keys.
use Rattle.std.proofs.Common.{◌∙◌, ap, sym}
use Rattle.std.specs.Option.{option_map}
use Rattle.bufr_entries.specs.Entries.{entry_at}
use Rattle.bufr_shelves.specs.Pairs.{with_key}
use Rattle.bufr_shelves.proofs.ShelvedLemmas.{at-shelved, entries-are}
use Rattle.bufr_shelves.proofs.map_shelf.MapShelfShelf.get.Goals as goal

pub returns : goal.returns
returns c =
    c.held_with_key.ensures ∙ ap (option_map with_key) c.at_key.ensures
    ∙ at-shelved c.args.key.now c.self.inside.keyed.entries c.self.inside.unkeyed.entries
    ∙ ap (λ es. entry_at es c.args.key.now) (sym
    (entries-are c.args.self.now _ c.self.view_is c.self.invariant))

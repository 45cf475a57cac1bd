-- The mark has the key and the update number.
use Rattle.std.proofs.Common.{◌≡◌, ◌++◌, subst}
use Rattle.std.specs.Prelude.{OnOk}
use Rattle.std.specs.Option.{option_map, option_to_list}
use Rattle.bufr_entries.specs.Entries.{kept}
use Rattle.bufr_entries.specs.Marks.{SlotView}
use Rattle.bufr_entries.specs.Pages.{marked}
use Rattle.bufr_entries.proofs.builder.ShelfBuilder.put_octets_of.Goals as goal

pub returns-clause-ok : goal.returns-clause-ok
returns-clause-ok g c =
    let octets = g.O.EntryOctets.octets c.args.entry.now in
    subst (λ (m : SlotView). OnOk c.put_marked.result (kept c.put_marked.new.self
    ≡ kept (kept c.args.self.now ++ option_to_list (option_map (marked m) octets))))
    c.in_ok-mark.ensures c.put_marked.ensures.ok

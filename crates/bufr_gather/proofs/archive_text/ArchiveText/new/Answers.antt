use Rattle.std.proofs.Common.{List, ap}
use Rattle.bufr_entries.specs.declared.entry.Entry.{Entry}
use Rattle.bufr_gather.specs.Archives.{ArchiveView}
use Rattle.bufr_gather.proofs.HeldFacts.{held_nothing, seen_nothing}
use Rattle.bufr_gather.proofs.archive_text.ArchiveText.new.Goals as goal

pub invariant_of-result : goal.invariant_of-result
invariant_of-result c =
    held_nothing c.args.tables.now c.new.result.items c.new-2.result.items c.new.ensures.items
    c.new-2.ensures.items

pub returns : goal.returns
returns c =
    let seen : (es : List Entry) → ArchiveView =
    λ es. record { tables = c.args.tables.now; entries = es } in
    ap seen (seen_nothing c.args.tables.now c.new.result.items c.new.ensures.items)

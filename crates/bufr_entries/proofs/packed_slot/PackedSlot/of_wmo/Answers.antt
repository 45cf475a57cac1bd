-- The words have the parts.
use Rattle.std.proofs.Common.{ℕ, Some, ap}
use Rattle.bufr_entries.specs.declared.key.Key.{Key}
use Rattle.bufr_entries.specs.Marks.{SlotView}
use Rattle.bufr_entries.proofs.packed_slot.PackedSlot.of_wmo.Goals as goal

abbrev slot : Key → ℕ → SlotView
slot k update = record { key = Some k; update = update }

pub returns : goal.returns
returns c =
    ap (λ (k : Key). slot k c.args.update) (c.of_parts-words.ensures c.args.sub_centre)

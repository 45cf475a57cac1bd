-- The starts of plain subsets: listed, or evenly spaced in bits and in items.
use Rattle.std.specs.Prelude.{ℕ, zero, suc, ◌+◌, ◌*◌, ◌<◌, ◌^◌, List, [], ◌∷◌}
use Rattle.bufr_data.specs.declared.plain.fixed_size.Alike.{Alike}
use Rattle.bufr_data.specs.declared.plain.index.SubsetStart.{SubsetStart}
use Rattle.bufr_data.specs.declared.plain.starts.Spacing.{Spacing}
use Rattle.bufr_data.specs.declared.plain.starts.Spacing.TheVariants.{Listed, Even}

-- the start of the subset with `before` others before it, all of one size, the first at this bit
abbrev pub start_after : ℕ → Alike → ℕ → SubsetStart
start_after bit each before = record {
  bit = bit + before * each.bits;
  end = bit + before * each.bits + each.bits;
  used = before * each.items;
}

-- the start of a subset at a bit, with `used` items of the message before it
abbrev pub start_here : ℕ → ℕ → Alike → SubsetStart
start_here bit used each = record { bit = bit; end = bit + each.bits; used = used }

-- the starts of evenly spaced subsets, the first at this bit
abbrev pub even_starts : ℕ → ℕ → Alike → ℕ → List SubsetStart
even_starts bit used each zero = []
even_starts bit used each (suc n) =
    start_here bit used each ∷ even_starts (bit + each.bits) (used + each.items) each n

-- the starts of a spacing
abbrev pub starts_in : Spacing → List SubsetStart
starts_in (Listed starts) = starts.items
starts_in (Even bit each count) = even_starts bit 0 each count

-- the numbers of evenly spaced starts fit in 64 bits
abbrev pub HasRoom : Spacing → Type 0
HasRoom (Listed starts) = Unit {0}
HasRoom (Even bit each count) =
    (bit + count * each.bits < 2 ^ 64) × (count * each.items < 2 ^ 64)

-- The loop of `put_message`: the rows of the subsets so far.
use Rattle.std.proofs.Common.{◌≡◌, ℕ, ◌+◌, IfSome, map, drop}
use Rattle.bufr_select_rows.specs.Rows.{origin}
use Rattle.bufr_select_rows.specs.MessageRows.{subsets_rows}
use Rattle.bufr_select_rows.specs.Sources.{HaveRows}
use Rattle.bufr_io.specs.HeldLaws.{PutsSome}
use Rattle.bufr_select_rows.proofs.picker.put_message.Given as goal

-- with the rows of the subsets that are left all are put, and the cells keep their columns
abbrev pub invariant-loop-index : goal.invariant-loop-index
invariant-loop-index g l = record {
  rows : PutsSome
      (subsets_rows l.initial.picker.each (map (λ c. c.column) l.initial.picker.cells.items)
      (origin l.from) 1 l.found.message.subsets)
      (subsets_rows l.initial.picker.each (map (λ c. c.column) l.initial.picker.cells.items)
      (origin l.from) (l.index + 1) (drop l.index l.found.message.subsets))
      l.fn.rows (g.W.Sink.writing l.fn.writer) l.rows (g.W.Sink.writing l.writer);
  here : (n : ℕ) → record (origin l.here) { subset = n } ≡ record (origin l.from) { subset = n };
  columns : map (λ c. c.column) l.picker.cells.items
      ≡ map (λ c. c.column) l.initial.picker.cells.items;
  each : l.picker.each ≡ l.initial.picker.each;
  asked : l.picker.asked ≡ l.initial.picker.asked;
  sources : IfSome l.columns (HaveRows l.initial.picker.each
      (map (λ c. c.column) l.initial.picker.cells.items) l.picker.sources.items
      l.found.message.subsets);
}

-- Subset by subset, until none is left.
use Rattle.std.proofs.Common.{Err, IfSome, List, ◌+◌, ◌∙◌, map, drop, arith, refl, subst, sym}
use Rattle.bufr_io.specs.declared.fault.ToolFault.TheVariants as faults
use Rattle.bufr_io.specs.PassingLaws.{passed}
use Rattle.bufr_select_rows.specs.Rows.{origin, rows}
use Rattle.bufr_io.specs.HeldTexts.{PutsOrStops}
use Rattle.bufr_select_rows.specs.MessageRows.{subsets_rows}
use Rattle.bufr_io.specs.HeldLaws.{some_first, some_next, some_stops}
use Rattle.bufr_io.specs.HeldLaws.{stops_none}
use Rattle.bufr_io.specs.HeldTexts.{Puts}
use Rattle.bufr_select_rows.specs.Sources.{HaveRows}
use Rattle.bufr_select_rows.specs.declared.cell.Cell.{Cell}
use Rattle.bufr_select_rows.proofs.ChosenFacts.{subset_put}
use Rattle.bufr_select_rows.proofs.PickedFacts.{covers_same, subset_next}
use Rattle.bufr_select_rows.proofs.picker.put_message.Goals as goal

-- the cells have the columns that the set covers
pub put_from_columns-requires-clause-covers : goal.put_from_columns-requires-clause-covers
put_from_columns-requires-clause-covers g c =
    let p = c.args.picker.now in
    let q = c.loop-index.picker in
    let inv = c.loop-index.invariant in
    covers_same p.asked q.asked p.each q.each (map (λ cell. cell.column) p.cells.items)
    (map (λ cell. cell.column) q.cells.items) inv.asked inv.each inv.columns c.requires.covers

-- the columns make the rows of the subsets
pub put_from_columns-requires-clause-have : goal.put_from_columns-requires-clause-have
put_from_columns-requires-clause-have g c =
    let p = c.args.picker.now in
    let q = c.loop-index.picker in
    let inv = c.loop-index.invariant in
    let subsets = c.args.found.now.message.subsets in
    subst
    (λ each. IfSome c.in_ok-columns.columns (HaveRows each (map (λ cell. cell.column) q.cells.items)
    q.sources.items subsets))
    (sym inv.each)
    (subst
    (λ all. IfSome c.in_ok-columns.columns (HaveRows p.each all q.sources.items subsets))
    (sym inv.columns) inv.sources)

-- putting a subset stopped
pub returns-in_err-put_from_columns-clause-puts : goal.returns-in_err-put_from_columns-clause-puts
returns-in_err-put_from_columns-clause-puts g c =
    let p = c.args.picker.now in
    let q = c.loop-index.picker in
    let inv = c.loop-index.invariant in
    let all = map (λ cell. cell.column) p.cells.items in
    let o = origin c.args.from.now in
    let subsets = c.args.found.now.message.subsets in
    let i = c.loop-index.index in
    let from = record (origin c.loop-index.here) { subset = i + 1 } in
    let whole = subsets_rows p.each all o 1 subsets in
    let left = subsets_rows p.each all o (i + 1) (drop i subsets) in
    let rest = subsets_rows p.each all o (i + 1 + 1) (drop (i + 1) subsets) in
    let held = c.loop-index.rows in
    let e = c.in_err-put_from_columns.field-0.0 in
    let put = subset_put subsets i
    (λ s. PutsOrStops (rows (map (λ cell. cell.column) q.cells.items) q.each from s.fields) held
    (g.W.Sink.writing c.loop-index.writer) c.put_from_columns.new.rows
    (g.W.Sink.writing c.put_from_columns.new.writer) (Err e))
    (omega arith) c.in_err-put_from_columns.ensures.puts in
    let still = inv.rows in
    passed
    (PutsOrStops whole c.args.rows.now (g.W.Sink.writing c.args.writer.now) c.put_from_columns.new.rows
    (g.W.Sink.writing c.put_from_columns.new.writer))
    c.from_residual-in_err-put_from_columns.result e c.from_residual-in_err-put_from_columns.ensures.1
    (some_stops whole left (rows (map (λ cell. cell.column) q.cells.items) q.each from put.0.fields) rest
    c.args.rows.now held c.put_from_columns.new.rows (g.W.Sink.writing c.args.writer.now)
    (g.W.Sink.writing c.loop-index.writer) (g.W.Sink.writing c.put_from_columns.new.writer) e still
    (subset_next p.each q.each all (map (λ cell. cell.column) q.cells.items) o from i subsets put.0.fields
    inv.each inv.columns (inv.here (i + 1)) put.1)
    put.2)

-- one subset more was put
pub loop-index-preserved : goal.loop-index-preserved
loop-index-preserved g c =
    let p = c.args.picker.now in
    let q = c.loop-index.picker in
    let inv = c.loop-index.invariant in
    let all = map (λ cell. cell.column) p.cells.items in
    let o = origin c.args.from.now in
    let subsets = c.args.found.now.message.subsets in
    let i = c.loop-index.index in
    let from = record (origin c.loop-index.here) { subset = i + 1 } in
    let whole = subsets_rows p.each all o 1 subsets in
    let left = subsets_rows p.each all o (i + 1) (drop i subsets) in
    let rest = subsets_rows p.each all o (i + 1 + 1) (drop (i + 1) subsets) in
    let held = c.loop-index.rows in
    let e = c.in_ok-put_from_columns.ensures in
    let put = subset_put subsets i
    (λ s. Puts (rows (map (λ cell. cell.column) q.cells.items) q.each from s.fields) held
    (g.W.Sink.writing c.loop-index.writer) c.put_from_columns.new.rows
    (g.W.Sink.writing c.put_from_columns.new.writer))
    (omega arith) e.puts in
    let still = inv.rows in
    record {
      rows = some_next whole left (rows (map (λ cell. cell.column) q.cells.items) q.each from put.0.fields)
          rest c.args.rows.now held c.put_from_columns.new.rows (g.W.Sink.writing c.args.writer.now)
          (g.W.Sink.writing c.loop-index.writer) (g.W.Sink.writing c.put_from_columns.new.writer) still
          (subset_next p.each q.each all (map (λ cell. cell.column) q.cells.items) o from i subsets
          put.0.fields inv.each inv.columns (inv.here (i + 1)) put.1)
          put.2 e.works;
      columns = e.columns ∙ inv.columns;
      here = inv.here;
      each = e.each ∙ inv.each;
      asked = e.asked ∙ inv.asked;
      sources = subst
          (λ sources. IfSome c.in_ok-columns.columns (HaveRows p.each all sources subsets))
          (sym e.sources) inv.sources;
    }

-- there was no memory for the sources
pub returns-in_err-columns-clause-puts : goal.returns-in_err-columns-clause-puts
returns-in_err-columns-clause-puts g c =
    let p = c.args.picker.now in
    let all = map (λ cell. cell.column) p.cells.items in
    let whole = subsets_rows p.each all (origin c.args.from.now) 1 c.args.found.now.message.subsets in
    let w = g.W.Sink.writing c.args.writer.now in
    passed (PutsOrStops whole c.args.rows.now w c.args.rows.now w) c.from_residual.result
    faults.OutOfMemory c.from_residual.ensures.1 (stops_none whole c.args.rows.now w c.requires.works)

-- no subset was put, and the columns make the rows
pub loop-index-init : goal.loop-index-init
loop-index-init g c =
    let p = c.args.picker.now in
    let subsets = c.args.found.now.message.subsets in
    let w = g.W.Sink.writing c.args.writer.now in
    record {
      rows = some_first
          (subsets_rows p.each (map (λ cell. cell.column) p.cells.items) (origin c.args.from.now) 1 subsets)
          c.args.rows.now w c.requires.works;
      here = λ n. refl;
      columns = refl;
      each = refl;
      asked = refl;
      sources = subst
          (λ (cells : List Cell). IfSome c.in_ok-columns.columns (HaveRows p.each
          (map (λ cell. cell.column) cells) c.find_columns.new.sources.items subsets))
          c.deref.ensures.value c.in_ok-columns.ensures;
    }

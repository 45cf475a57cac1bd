-- A subset by all its fields.
use Rattle.std.proofs.Common.{IfSome, List, map, subst, sym}
use Rattle.bufr_fields.specs.declared.field.Subset.{Subset}
use Rattle.bufr_io.specs.HeldTexts.{PutsOrStops}
use Rattle.bufr_select_rows.specs.Rows.{origin, rows}
use Rattle.bufr_select_rows.specs.declared.cell.Cell.{Cell}
use Rattle.bufr_select_rows.proofs.picker.put_walked.Goals as goal

pub returns-clause-puts : goal.returns-clause-puts
returns-clause-puts g c =
    let a = c.args in
    let p = a.picker.now in
    subst
    (λ found. IfSome found (λ (s : Subset). PutsOrStops
    (rows (map (λ cell. cell.column) p.cells.items) p.each (origin a.from.now) s.fields) a.rows.now
    (g.W.Sink.writing a.writer.now) c.put_subset.new.rows (g.W.Sink.writing c.put_subset.new.writer)
    c.put_subset.result))
    (sym c.in_ok-fields.ensures)
    (subst
    (λ (cells : List Cell). PutsOrStops
    (rows (map (λ cell. cell.column) cells) p.each (origin a.from.now) c.in_ok-fields.fields) a.rows.now
    (g.W.Sink.writing a.writer.now) c.put_subset.new.rows (g.W.Sink.writing c.put_subset.new.writer)
    c.put_subset.result)
    c.deref_mut.ensures.value c.put_subset.ensures.puts)

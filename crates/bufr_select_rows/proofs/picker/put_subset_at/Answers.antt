-- A subset by its chosen fields, or by all of them.
use Rattle.std.proofs.Common.{IfSome, List, map, subst, sym}
use Rattle.bufr_fields.specs.declared.field.Subset.{Subset}
use Rattle.bufr_io.specs.HeldTexts.{PutsOrStops}
use Rattle.bufr_select_rows.specs.Rows.{origin, rows}
use Rattle.bufr_select_rows.specs.declared.cell.Cell.{Cell}
use Rattle.bufr_select_rows.proofs.ChosenFacts.{subset_there}
use Rattle.bufr_select_rows.proofs.picker.put_subset_at.Goals as goal

pub returns-in-Some-clause-puts : goal.returns-in-Some-clause-puts
returns-in-Some-clause-puts g c =
    let a = c.args in
    let p = a.picker.now in
    let subset = subset_there c.listed.result.now a.index a.found.now.message.subsets c.in-Some.fields
    c.requires.inside c.in-Some.ensures in
    subst
    (λ found. IfSome found (λ (s : Subset). PutsOrStops
    (rows (map (λ cell. cell.column) p.cells.items) p.each (origin a.from.now) s.fields) a.rows.now
    (g.W.Sink.writing a.writer.now) c.put_chosen.new.rows (g.W.Sink.writing c.put_chosen.new.writer)
    c.put_chosen.result))
    (sym subset.1)
    (subst
    (λ (cells : List Cell). PutsOrStops
    (rows (map (λ cell. cell.column) cells) p.each (origin a.from.now) subset.0) a.rows.now
    (g.W.Sink.writing a.writer.now) c.put_chosen.new.rows (g.W.Sink.writing c.put_chosen.new.writer)
    c.put_chosen.result)
    c.deref_mut.ensures.value
    (c.put_chosen.ensures.puts c.listed.result.now subset.0 c.listed.ensures subset.2))

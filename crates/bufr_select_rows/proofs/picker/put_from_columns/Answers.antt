-- The row of the sources is that of the subset.
use Rattle.std.proofs.Common.{IfSome, ◌≡◌, ◌++◌, ◌∙◌, ap, map, subst, sym}
use Rattle.std.specs.Bool.{OnFalse, OnTrue}
use Rattle.std.specs.List.{slice_get}
use Rattle.bufr_fields.specs.declared.field.Subset.{Subset}
use Rattle.bufr_io.specs.declared.fault.ToolFault.TheVariants as faults
use Rattle.bufr_io.specs.declared.held_rows.HeldRows.{HeldRows}
use Rattle.bufr_io.specs.HeldLaws.{row_held, stops_kept}
use Rattle.bufr_io.specs.HeldTexts.{Puts, PutsOrStops}
use Rattle.bufr_io.specs.PassingLaws.{passed}
use Rattle.bufr_data.specs.Compressed.{subset_of}
use Rattle.bufr_select_rows.specs.RowLaws.{row_whole}
use Rattle.bufr_select_rows.specs.Rows.{origin, rows}
use Rattle.bufr_select_rows.specs.Sources.{source_row, source_text}
use Rattle.bufr_select_rows.proofs.SourceFacts.{subset_row}
use Rattle.bufr_select_rows.proofs.picker.put_from_columns.Goals as goal
use Rattle.bufr_select_rows.proofs.picker.put_from_columns.Goals.{in-Some+in_ok-hold_subset+else-branch}
use Rattle.bufr_select_rows.proofs.picker.put_from_columns.Goals.{in_default}

-- there was no memory for the row
pub returns-in_err-hold_subset-clause-puts : goal.returns-in_err-hold_subset-clause-puts
returns-in_err-hold_subset-clause-puts g c =
    let a = c.args in
    let p = a.picker.now in
    let all = map (λ cell. cell.column) p.cells.items in
    let o = origin a.from.now in
    let w = g.W.Sink.writing a.writer.now in
    let s = subset_row p.each all p.sources.items a.found.now.message.subsets c.in-Some.columns o a.index
    (rw c.in-Some.is at c.requires.have) c.requires.inside in
    let text = rows all p.each o s.0.fields in
    subst
    (λ found. IfSome found (λ (s : Subset). PutsOrStops (rows all p.each o s.fields) a.rows.now w
    c.hold_subset.new.rows w c.from_residual.result))
    (sym s.1)
    (passed (PutsOrStops text a.rows.now w c.hold_subset.new.rows w) c.from_residual.result
    faults.OutOfMemory c.from_residual.ensures.1
    (stops_kept text a.rows.now c.hold_subset.new.rows w c.requires.works
    c.in_err-hold_subset.ensures.err c.in_err-hold_subset.ensures.written))

-- the row waits
pub returns-then-branch-clause-puts : goal.returns-then-branch-clause-puts
returns-then-branch-clause-puts g c =
    let a = c.args in
    let p = a.picker.now in
    let all = map (λ cell. cell.column) p.cells.items in
    let o = origin a.from.now in
    let w = g.W.Sink.writing a.writer.now in
    let columns = c.in-Some.columns.columns in
    let s = subset_row p.each all p.sources.items a.found.now.message.subsets c.in-Some.columns o a.index
    (rw c.in-Some.is at c.requires.have) c.requires.inside in
    let row = source_row p.sources.items o columns a.index in
    let held = subst
    (λ b. OnTrue b (c.hold_subset.new.rows.held.items ≡ a.rows.now.held.items
    ++ source_row c.deref.result.now o columns a.index))
    c.if-branch.true c.in_ok-hold_subset.ensures.held in
    subst
    (λ found. IfSome found (λ (s : Subset). Puts (rows all p.each o s.fields) a.rows.now w
    c.hold_subset.new.rows w))
    (sym s.1)
    (subst (λ text. Puts text a.rows.now w c.hold_subset.new.rows w) s.2
    (row_held row a.rows.now c.hold_subset.new.rows w
    (row_whole (map (source_text o (subset_of columns a.index).fields) p.sources.items))
    (held ∙ ap (λ xs. a.rows.now.held.items ++ source_row xs o columns a.index) c.deref.ensures.value)
    c.in_ok-hold_subset.ensures.written))

-- the cells have the columns that the set covers
pub put_subset_at-requires-clause-covers : goal.put_subset_at-requires-clause-covers
put_subset_at-requires-clause-covers g c =
    elim c.match-columns.branch [
      | in-Some+in_ok-hold_subset+else-branch w ↦ rw w.picker-is c.requires.covers
      | in_default w ↦ rw w.picker-is c.requires.covers
    ]

-- the other subsets
pub returns-clause-puts : goal.returns-clause-puts
returns-clause-puts g c =
    let a = c.args in
    let p = a.picker.now in
    let after = c.put_subset_at in
    let puts_from = λ (r : HeldRows). IfSome (slice_get a.found.now.message.subsets a.index)
    (λ (s : Subset). PutsOrStops
    (rows (map (λ cell. cell.column) p.cells.items) p.each (origin a.from.now) s.fields) r
    (g.W.Sink.writing a.writer.now) after.new.rows (g.W.Sink.writing after.new.writer) after.result) in
    elim c.match-columns.branch [
      | in-Some+in_ok-hold_subset+else-branch w ↦
          subst puts_from
          (w.rows-is
          ∙ subst (λ b. OnFalse b (w.hold_subset.new.rows ≡ a.rows.now)) w.if-branch.false
          w.in_ok-hold_subset.ensures.others)
          (rw w.picker-is at after.ensures.puts)
      | in_default w ↦ subst puts_from w.rows-is (rw w.picker-is at after.ensures.puts)
    ]

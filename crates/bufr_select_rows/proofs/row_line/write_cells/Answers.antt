-- The clauses of `write_cells`: one source more.
use Rattle.std.proofs.Common.{◌∙◌, arith, refl}
use Rattle.bufr_data.specs.Compressed.{subset_of}
use Rattle.bufr_select_rows.specs.Rows.{origin}
use Rattle.bufr_select_rows.specs.Sources.{source_text}
use Rattle.bufr_select_rows.proofs.RowFacts.{field_before}
use Rattle.bufr_select_rows.proofs.row_line.write_cells.Goals as goal

pub loop-source-preserved : goal.loop-source-preserved
loop-source-preserved c =
    let inv = c.loop-source.invariant in
    let e = c.in_ok-field.ensures in
    let text = source_text (origin c.args.from.now)
    (subset_of c.args.columns.now.columns c.args.subset).fields in
    record {
      fields = field_before text c.loop-source.left.now c.in-Some.others.now c.in-Some.source.now
          (text c.in-Some.source.now)
          c.loop-source.room c.write_cell.new.room _ c.loop-source.start
          c.in_ok-field.field c.in-Some.ensures.cases.0 refl
          (omega (arith, c.if-field-eq0.false))
          (omega (
            arith,
            e.within,
            inv.within,
            c.requires.room,
            c.loop-source.auto.room,
            c.write_cell.auto.room,
          ))
          e.written refl ∙ inv.fields;
      within = omega (arith, e.within, inv.within);
    }

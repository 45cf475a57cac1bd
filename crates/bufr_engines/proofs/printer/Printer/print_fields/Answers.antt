-- Field by field, until none is left.
use Rattle.std.proofs.Common.{◌++◌, ℕ, List, Ok, Err, refl, sym, subst, arith}
use Rattle.bufr_listing.specs.Listings.{line, field_line}
use Rattle.bufr_io.specs.declared.fault.ToolFault.TheVariants as faults
use Rattle.bufr_engines.specs.declared.printer.Printer.{Printer}
use Rattle.bufr_engines.specs.Output.{fields_text}
use Rattle.bufr_engines.specs.StreamEngines.{Adds, WritesAllBut}
use Rattle.bufr_engines.proofs.ListingFacts.{amid_fields, amid_few, field_more, field_stopped, fields_done}
use Rattle.bufr_engines.proofs.LineFacts.{line_whole}
use Rattle.bufr_engines.proofs.PartFacts.{adds_halts, adds_held, adds_written, keeps_both}
use Rattle.bufr_io.specs.PassingLaws.{passed}
use Rattle.bufr_engines.proofs.printer.Printer.print_fields.Goals as goal

pub fields-init : goal.fields-init
fields-init g c = record {
  amid = amid_fields _ _ _ c.requires.lines c.requires.works;
  keeps = record { printing = refl; tables = refl; frames = refl; refused = refl; octets = refl };
}

pub fields-preserved : goal.fields-preserved
fields-preserved g c =
    let p = c.fields.self in
    let next = rw c.if-branch.true at c.in_ok-hold_field.ensures.ok in
    let field = next.0 in
    let q : Printer = record p { held = c.hold_field.new.text } in
    let now = c.fields.invariant.amid.added in
    let mid = g.W.Sink.writing c.fields.writer in
    let held = adds_held (line (field_line field)) q.held.items p mid next.2 now.held_whole
    (line_whole (field_line field)) now.written.works in
    let e = c.in_ok-write_long.ensures in
    record {
      amid = field_more _ _ _ field c.args.self.now p c.write_long.new.self _ _ _
          c.in_ok-write_long.field-0 next.1 c.fields.invariant.amid
          (adds_written (line (field_line field)) p q c.write_long.new.self mid mid _
          (Ok c.in_ok-write_long.field-0) held e.writes);
      keeps = keeps_both _ _ _ c.fields.invariant.keeps
          (record {
            printing = e.keeps.printing;
            tables = e.keeps.tables;
            frames = e.keeps.frames;
            refused = e.keeps.refused;
            octets = e.keeps.octets;
          });
    }

pub write_long-requires-clause-lines : goal.write_long-requires-clause-lines
write_long-requires-clause-lines g c =
    let next = rw c.if-branch.true at c.in_ok-hold_field.ensures.ok in
    let now = c.fields.invariant.amid.added in
    (adds_held (line (field_line next.0)) _ c.fields.self (g.W.Sink.writing c.fields.writer)
    next.2 now.held_whole (line_whole (field_line next.0)) now.written.works).held_whole

pub write_long-requires-clause-fits : goal.write_long-requires-clause-fits
write_long-requires-clause-fits g c =
    omega (
      arith,
      c.requires.fits,
      amid_few _ _ c.args.self.now c.fields.self _ _ c.fields.invariant.amid,
    )

pub returns-in_err-hold_field-clause-prints : goal.returns-in_err-hold_field-clause-prints
returns-in_err-hold_field-clause-prints g c =
    let p = c.fields.self in
    let amid = c.fields.invariant.amid in
    let now : Printer = record p { held = c.hold_field.new.text } in
    passed
    (Adds (fields_text c.args.fields) c.args.self.now now (g.W.Sink.writing c.args.writer.now)
    (g.W.Sink.writing c.fields.writer))
    c.from_residual.result faults.OutOfMemory c.from_residual.ensures.1
    (adds_halts (fields_text c.args.fields) amid.text (fields_text c.fields.fields) p.held.items
    c.args.self.now now _ _ amid.parted amid.added c.in_err-hold_field.ensures.err)

pub returns-in_err-hold_field-clause-short : goal.returns-in_err-hold_field-clause-short
returns-in_err-hold_field-clause-short g c =
    let few = amid_few _ _ c.args.self.now c.fields.self _ _ c.fields.invariant.amid in
    omega (arith, few)

pub returns-in_err-write_long-clause-prints : goal.returns-in_err-write_long-clause-prints
returns-in_err-write_long-clause-prints g c =
    let p = c.fields.self in
    let next = rw c.if-branch.true at c.in_ok-hold_field.ensures.ok in
    let field = next.0 in
    let q : Printer = record p { held = c.hold_field.new.text } in
    let now = c.fields.invariant.amid.added in
    let mid = g.W.Sink.writing c.fields.writer in
    let held = adds_held (line (field_line field)) q.held.items p mid next.2 now.held_whole
    (line_whole (field_line field)) now.written.works in
    let e = c.in_err-write_long.field-0.0 in
    passed
    (Adds (fields_text c.args.fields) c.args.self.now c.write_long.new.self
    (g.W.Sink.writing c.args.writer.now) (g.W.Sink.writing c.write_long.new.writer))
    c.from_residual-in_err-write_long.result e c.from_residual-in_err-write_long.ensures.1
    (field_stopped _ _ _ field c.args.self.now p c.write_long.new.self _ _ _ e next.1
    c.fields.invariant.amid
    (adds_written (line (field_line field)) p q c.write_long.new.self mid mid _ (Err e) held
    c.in_err-write_long.ensures.writes))

pub returns-in_err-write_long-clause-short : goal.returns-in_err-write_long-clause-short
returns-in_err-write_long-clause-short g c =
    let few = amid_few _ _ c.args.self.now c.fields.self _ _ c.fields.invariant.amid in
    omega (arith, few, c.in_err-write_long.ensures.short)

pub returns-clause-prints : goal.returns-clause-prints
returns-clause-prints g c =
    let none = rw c.if-branch.false at c.in_ok-hold_field.ensures.ok in
    subst
    (λ (held : List ℕ). WritesAllBut held (c.args.self.now.held.items ++ fields_text c.args.fields)
    c.args.self.now.written c.fields.self.written (g.W.Sink.writing c.args.writer.now)
    (g.W.Sink.writing c.fields.writer))
    (sym none.2) (fields_done _ _ _ c.fields.self _ _ none.0 c.fields.invariant.amid)

pub returns-clause-short : goal.returns-clause-short
returns-clause-short g c =
    let few = amid_few _ _ c.args.self.now c.fields.self _ _ c.fields.invariant.amid in
    omega (arith, few)

-- The heading, subset by subset, and the last line.
use Rattle.std.proofs.Common.{◌≡◌, ℕ, List, [], ◌++◌, length, ◌∙◌, ap, sym, arith, Ok, Err}
use Rattle.std.proofs.Common.{append_assoc, length-append, refl}
use Rattle.bufr_listing.specs.Listings.{line, joined, heading_lines, subset_line, end_line, listing}
use Rattle.bufr_io.specs.declared.fault.ToolFault.TheVariants as faults
use Rattle.bufr_engines.specs.declared.printer.Printer.{Printer}
use Rattle.bufr_engines.specs.StreamEngines.{Adds}
use Rattle.bufr_engines.proofs.LineFacts.{line_whole}
use Rattle.bufr_engines.proofs.ListingFacts.{heading_added, listed, unlisted, listing_parted, listing_ended}
use Rattle.bufr_engines.proofs.ListingFacts.{fields_few, subset_added, subset_few, subset_more}
use Rattle.bufr_engines.proofs.ListingFacts.{subset_stopped}
use Rattle.bufr_engines.proofs.PartFacts.{adds_halts, adds_held, adds_longer, adds_none, adds_written}
use Rattle.bufr_engines.proofs.PartFacts.{held_less, held_more, keeps_both}
use Rattle.bufr_io.specs.PassingLaws.{passed}
use Rattle.bufr_engines.proofs.printer.Printer.print_listing.Goals as goal

pub write_long-requires-clause-lines : goal.write_long-requires-clause-lines
write_long-requires-clause-lines g c =
    let p = c.args.self.now in
    let grown = c.in_ok-extend_from_slice.ensures.items
    ∙ ap (λ (t : List ℕ). p.held.items ++ t) (c.as_slice.ensures
    ∙ c.in_ok-set.ensures c.args.found.now.message.subsets
    ∙ (λ i. joined (heading_lines (c.sections.ensures i)))) in
    (heading_added c.args.found.now.message p _ (g.W.Sink.writing c.args.writer.now) grown
    c.requires.lines c.requires.works).held_whole

pub returns-in_err-write_long-clause-prints : goal.returns-in_err-write_long-clause-prints
returns-in_err-write_long-clause-prints g c =
    let m = c.args.found.now.message in
    let p = c.args.self.now in
    let q : Printer = record p { held = c.extend_from_slice.new.self } in
    let first = g.W.Sink.writing c.args.writer.now in
    let last = g.W.Sink.writing c.write_long.new.writer in
    let e = c.in_err-write_long.field-0.0 in
    let grown = c.in_ok-extend_from_slice.ensures.items
    ∙ ap (λ (t : List ℕ). p.held.items ++ t) (c.as_slice.ensures
    ∙ c.in_ok-set.ensures c.args.found.now.message.subsets
    ∙ (λ i. joined (heading_lines (c.sections.ensures i)))) in
    passed (Adds (listing m) p c.write_long.new.self first last)
    c.from_residual-in_err-write_long.result e c.from_residual-in_err-write_long.ensures.1
    (adds_longer (listed m 0) (unlisted m 0) (listing m) p c.write_long.new.self first last e
    (listing_parted m 0 (c.listings_are_joined_parts.ensures m))
    (adds_written (listed m 0) p q c.write_long.new.self first first last (Err e)
    (heading_added m p q.held.items first grown c.requires.lines c.requires.works)
    c.in_err-write_long.ensures.writes))

pub loop-index-init : goal.loop-index-init
loop-index-init g c =
    let m = c.args.found.now.message in
    let p = c.args.self.now in
    let first = g.W.Sink.writing c.args.writer.now in
    let last = g.W.Sink.writing c.write_long.new.writer in
    let held = c.extend_from_slice.new.self.items in
    let grown = c.in_ok-extend_from_slice.ensures.items
    ∙ ap (λ (t : List ℕ). p.held.items ++ t) (c.as_slice.ensures
    ∙ c.in_ok-set.ensures c.args.found.now.message.subsets
    ∙ (λ i. joined (heading_lines (c.sections.ensures i)))) in
    let e = c.in_ok-write_long.ensures in
    record {
      done = held_less held c.write_long.new.self.held.items (p.held.items ++ listed m 0)
          p.written p.written c.write_long.new.self.written first first last
          (heading_added m p held first grown c.requires.lines c.requires.works) e.writes;
      keeps = record {
        printing = e.keeps.printing;
        tables = e.keeps.tables;
        frames = e.keeps.frames;
        refused = e.keeps.refused;
        octets = e.keeps.octets;
      };
      short = omega (arith, e.short);
    }

pub loop-index-preserved : goal.loop-index-preserved
loop-index-preserved g c =
    let m = c.args.found.now.message in
    let i = c.loop-index.index in
    let p = c.loop-index.self in
    let fields = c.in_ok-fields.fields in
    let at = c.in_ok-fields.ensures in
    let q : Printer = record p { held = c.push_subset_line.new.text } in
    let mid = g.W.Sink.writing c.loop-index.writer in
    let done = c.loop-index.invariant.done in
    let keeps = c.in_ok-print_fields.ensures.keeps in
    let added = subset_added fields p q c.print_fields.new.self mid mid
    (g.W.Sink.writing c.print_fields.new.writer) (Ok c.in_ok-print_fields.field-0)
    (c.subsets_are_joined_lines.ensures [] fields)
    (adds_held (line subset_line) q.held.items p mid c.in_ok-push_subset_line.ensures.ok
    done.held_whole (line_whole subset_line) done.written.works)
    c.in_ok-print_fields.ensures.prints in
    record {
      done = subset_more m i _ c.args.self.now p c.print_fields.new.self _ _ _
          c.in_ok-print_fields.field-0 at done added;
      keeps = keeps_both c.args.self.now p c.print_fields.new.self c.loop-index.invariant.keeps
          (record {
            printing = keeps.printing;
            tables = keeps.tables;
            frames = keeps.frames;
            refused = keeps.refused;
            octets = keeps.octets;
          });
      short =
          let few = subset_few m c.requires.listed _ _ p c.print_fields.new.self
          _ _ c.in_ok-print_fields.field-0 at added in
          omega (arith, few, c.loop-index.invariant.short);
    }

pub print_fields-requires-clause-lines : goal.print_fields-requires-clause-lines
print_fields-requires-clause-lines g c =
    let done = c.loop-index.invariant.done in
    (adds_held (line subset_line) _ c.loop-index.self (g.W.Sink.writing c.loop-index.writer)
    c.in_ok-push_subset_line.ensures.ok done.held_whole (line_whole subset_line)
    done.written.works).held_whole

pub print_fields-requires-clause-fits : goal.print_fields-requires-clause-fits
print_fields-requires-clause-fits g c =
    let few = fields_few c.args.found.now.message c.requires.listed _ c.in_ok-fields.fields
    c.in_ok-fields.ensures (c.subsets_are_joined_lines.ensures [] c.in_ok-fields.fields) in
    let held = ap length c.in_ok-push_subset_line.ensures.ok in
    omega (
      arith,
      c.requires.fits,
      c.requires.listed.few,
      c.loop-index.invariant.short,
      c.loop-index-test.true,
      c.count-index-end.ensures,
      few,
      held,
      length-append c.loop-index.self.held.items (line subset_line),
    )

pub returns-in_err-set-clause-prints : goal.returns-in_err-set-clause-prints
returns-in_err-set-clause-prints g c =
    let text = listing c.args.found.now.message in
    let p = c.args.self.now in
    let writer = g.W.Sink.writing c.args.writer.now in
    passed (Adds text p p writer writer) c.from_residual.result faults.OutOfMemory
    c.from_residual.ensures.1
    (adds_none text p p writer c.requires.lines c.requires.works refl refl)

pub returns-in_err-extend_from_slice-clause-prints :
    goal.returns-in_err-extend_from_slice-clause-prints
returns-in_err-extend_from_slice-clause-prints g c =
    let text = listing c.args.found.now.message in
    let p = c.args.self.now in
    let now : Printer = record p { held = c.extend_from_slice.new.self } in
    let writer = g.W.Sink.writing c.args.writer.now in
    passed (Adds text p now writer writer)
    c.from_residual-in_err-extend_from_slice.result faults.OutOfMemory
    c.from_residual-in_err-extend_from_slice.ensures.1
    (adds_none text p now writer c.requires.lines c.requires.works
    c.in_err-extend_from_slice.ensures.items refl)

pub returns-in_err-fields-clause-prints : goal.returns-in_err-fields-clause-prints
returns-in_err-fields-clause-prints g c =
    let m = c.args.found.now.message in
    let i = c.loop-index.index in
    let p = c.loop-index.self in
    passed
    (Adds (listing m) c.args.self.now p (g.W.Sink.writing c.args.writer.now)
    (g.W.Sink.writing c.loop-index.writer))
    c.from_residual-in_err-fields.result faults.OutOfMemory
    c.from_residual-in_err-fields.ensures.1
    (adds_halts (listing m) (listed m i) (unlisted m i) p.held.items c.args.self.now p _ _
    (listing_parted m i (c.listings_are_joined_parts.ensures m)) c.loop-index.invariant.done refl)

pub returns-in_err-fields-clause-short : goal.returns-in_err-fields-clause-short
returns-in_err-fields-clause-short g c =
    omega (
      arith,
      c.requires.listed.few,
      c.loop-index.invariant.short,
      c.loop-index-test.true,
      c.count-index-end.ensures,
    )

pub returns-in_err-push_subset_line-clause-prints :
    goal.returns-in_err-push_subset_line-clause-prints
returns-in_err-push_subset_line-clause-prints g c =
    let m = c.args.found.now.message in
    let i = c.loop-index.index in
    let p = c.loop-index.self in
    let now : Printer = record p { held = c.push_subset_line.new.text } in
    passed
    (Adds (listing m) c.args.self.now now (g.W.Sink.writing c.args.writer.now)
    (g.W.Sink.writing c.loop-index.writer))
    c.from_residual-in_err-push_subset_line.result faults.OutOfMemory
    c.from_residual-in_err-push_subset_line.ensures.1
    (adds_halts (listing m) (listed m i) (unlisted m i) p.held.items c.args.self.now now _ _
    (listing_parted m i (c.listings_are_joined_parts.ensures m)) c.loop-index.invariant.done
    c.in_err-push_subset_line.ensures.err)

pub returns-in_err-push_subset_line-clause-short :
    goal.returns-in_err-push_subset_line-clause-short
returns-in_err-push_subset_line-clause-short g c =
    omega (
      arith,
      c.requires.listed.few,
      c.loop-index.invariant.short,
      c.loop-index-test.true,
      c.count-index-end.ensures,
    )

pub returns-in_err-print_fields-clause-prints : goal.returns-in_err-print_fields-clause-prints
returns-in_err-print_fields-clause-prints g c =
    let m = c.args.found.now.message in
    let i = c.loop-index.index in
    let p = c.loop-index.self in
    let fields = c.in_ok-fields.fields in
    let q : Printer = record p { held = c.push_subset_line.new.text } in
    let mid = g.W.Sink.writing c.loop-index.writer in
    let done = c.loop-index.invariant.done in
    let added = subset_added fields p q c.print_fields.new.self mid mid
    (g.W.Sink.writing c.print_fields.new.writer) (Err c.in_err-print_fields.field-0.0)
    (c.subsets_are_joined_lines.ensures [] fields)
    (adds_held (line subset_line) q.held.items p mid c.in_ok-push_subset_line.ensures.ok
    done.held_whole (line_whole subset_line) done.written.works)
    c.in_err-print_fields.ensures.prints in
    passed
    (Adds (listing m) c.args.self.now c.print_fields.new.self
    (g.W.Sink.writing c.args.writer.now) (g.W.Sink.writing c.print_fields.new.writer))
    c.from_residual-in_err-print_fields.result c.in_err-print_fields.field-0.0
    c.from_residual-in_err-print_fields.ensures.1
    (subset_stopped m i _ c.args.self.now p c.print_fields.new.self _ _ _
    c.in_err-print_fields.field-0.0 c.in_ok-fields.ensures
    (c.listings_are_joined_parts.ensures m) done added)

pub returns-in_err-print_fields-clause-short : goal.returns-in_err-print_fields-clause-short
returns-in_err-print_fields-clause-short g c =
    let few = fields_few c.args.found.now.message c.requires.listed _ c.in_ok-fields.fields
    c.in_ok-fields.ensures (c.subsets_are_joined_lines.ensures [] c.in_ok-fields.fields) in
    let held = ap length c.in_ok-push_subset_line.ensures.ok in
    omega (
      arith,
      c.requires.listed.few,
      c.loop-index.invariant.short,
      c.loop-index-test.true,
      c.count-index-end.ensures,
      c.in_err-print_fields.ensures.short,
      few,
      held,
      length-append c.loop-index.self.held.items (line subset_line),
    )

pub returns-in_err-extend_from_slice-2-clause-prints :
    goal.returns-in_err-extend_from_slice-2-clause-prints
returns-in_err-extend_from_slice-2-clause-prints g c =
    let m = c.args.found.now.message in
    let i = c.loop-index.index in
    let p = c.args.self.now in
    let q = c.loop-index.self in
    let now : Printer = record q { held = c.extend_from_slice-2.new.self } in
    passed
    (Adds (listing m) p now (g.W.Sink.writing c.args.writer.now)
    (g.W.Sink.writing c.loop-index.writer))
    c.from_residual-in_err-extend_from_slice-2.result faults.OutOfMemory
    c.from_residual-in_err-extend_from_slice-2.ensures.1
    (adds_halts (listing m) (listed m i) (unlisted m i) q.held.items p now _ _
    (listing_parted m i (c.listings_are_joined_parts.ensures m)) c.loop-index.invariant.done
    c.in_err-extend_from_slice-2.ensures.items)

pub returns-in_err-extend_from_slice-2-clause-short :
    goal.returns-in_err-extend_from_slice-2-clause-short
returns-in_err-extend_from_slice-2-clause-short g c =
    omega (
      arith,
      c.requires.listed.few,
      c.loop-index.invariant.short,
      c.loop-index.auto.index-end,
      c.count-index-end.ensures,
    )

pub returns-clause-short : goal.returns-clause-short
returns-clause-short g c =
    omega (
      arith,
      c.requires.listed.few,
      c.loop-index.invariant.short,
      c.loop-index.auto.index-end,
      c.count-index-end.ensures,
    )

pub returns-clause-prints : goal.returns-clause-prints
returns-clause-prints g c =
    let m = c.args.found.now.message in
    let i = c.loop-index.index in
    let old = c.args.self.now.held.items in
    let held = c.loop-index.self.held.items in
    let all : i ≡ length m.subsets =
    omega (
      arith,
      c.loop-index-test.false,
      c.loop-index.auto.index-end,
      c.count-index-end.ensures,
    ) in
    let grown = c.in_ok-extend_from_slice-2.ensures.items
    ∙ ap (λ (t : List ℕ). held ++ t) c.end_text.ensures in
    let is = ap (λ (t : List ℕ). old ++ t)
    (listing_ended m i all (c.listings_are_joined_parts.ensures m))
    ∙ sym (append_assoc old (listed m i) (line end_line)) in
    held_more held (old ++ listed m i) (line end_line) _ (old ++ listing m) _ _ _ _ grown is
    (line_whole end_line) c.loop-index.invariant.done

-- Entry by entry, until one is wrong or none is left.
use Rattle.std.proofs.Common.{◌≡◌, ◌++◌, ◌∷◌, [], ◌+◌, ◌-◌, length, take, drop, Some, None, List, ℕ, sym, ap}
use Rattle.std.proofs.Common.{subst, ◌∙◌, arith}
use Rattle.std.specs.Option.{option_map}
use Rattle.std.proofs.lemmas.List.{length-drop}
use Rattle.bufr_entries.specs.declared.entry.Entry.{Entry}
use Rattle.bufr_entries.specs.Entries.{kept}
use Rattle.bufr_gather.specs.Texts.{right_entry}
use Rattle.bufr_gather.specs.EntryFacts.{from_on}
use Rattle.bufr_gather.specs.Reading.{read, archive_or}
use Rattle.bufr_gather.specs.ReportEntries.{IsReportEntry, entry_in}
use Rattle.bufr_gather.specs.ReadFacts.{ReadSoFar, read_next, read_all, read_stops}
use Rattle.bufr_archive.proofs.archive.Archive.read_entries.Goals as goal

pub returns-in_default : goal.returns-in_default
returns-in_default g c =
    let tables = c.args.tables.now in
    let before = option_map read c.loop-rest.before in
    let found = rw c.loop-rest.invariant.tables at c.in_ok-entry.ensures.is in
    let none : right_entry (entry_in tables) before c.loop-rest.rest.now ≡ None =
    sym found ∙ ap (option_map read) c.in_default.is in
    ap (archive_or tables)
    (read_stops (IsReportEntry tables) (entry_in tables) (c.reports_are_entries.ensures tables)
    c.args.octets.now (g.S.Shelf.entries c.loop-rest.shelf)
    before c.loop-rest.place c.loop-rest.rest.now c.loop-rest.invariant.so_far (omega arith) none)

pub loop-rest-preserved : goal.loop-rest-preserved
loop-rest-preserved g c =
    let e = read c.in-Some.entry in
    let old = g.S.Shelf.entries c.loop-rest.shelf in
    let place = c.loop-rest.place + length c.in-Some.entry.bytes.now in
    let found = rw c.loop-rest.invariant.tables at c.in_ok-entry.ensures.is in
    let next = read_next (IsReportEntry c.args.tables.now) (entry_in c.args.tables.now)
    (c.reports_are_entries.ensures c.args.tables.now) c.args.octets.now
    (g.S.Shelf.entries c.loop-rest.shelf) c.loop-rest.before c.loop-rest.place
    c.loop-rest.rest.now _ c.in-Some.entry c.loop-rest.invariant.so_far found c.in-Some.is in
    let left = subst (λ (r : List ℕ). ReadSoFar (IsReportEntry c.args.tables.now)
    c.args.octets.now (kept (old ++ e ∷ [])) (Some e) place r) (sym (from_on c.loop-rest.rest.now (length c.in-Some.entry.bytes.now))) next.2 in
    record {
      so_far = subst (λ (es : List Entry). ReadSoFar (IsReportEntry c.args.tables.now)
          c.args.octets.now es (Some e) place
          (take (length c.loop-rest.rest.now - length c.in-Some.entry.bytes.now)
          (drop (length c.in-Some.entry.bytes.now) c.loop-rest.rest.now))) (sym c.in_ok-keep.ensures)
          left;
      tables = c.in_ok-entry.ensures.same ∙ c.loop-rest.invariant.tables;
    }

pub loop-rest-smaller : goal.loop-rest-smaller
loop-rest-smaller g c =
    let found = rw c.loop-rest.invariant.tables at c.in_ok-entry.ensures.is in
    let next = read_next (IsReportEntry c.args.tables.now) (entry_in c.args.tables.now)
    (c.reports_are_entries.ensures c.args.tables.now) c.args.octets.now
    (g.S.Shelf.entries c.loop-rest.shelf) c.loop-rest.before c.loop-rest.place
    c.loop-rest.rest.now _ c.in-Some.entry c.loop-rest.invariant.so_far found c.in-Some.is in
    let some = next.0 in
    let within = next.1 in
    let n = length c.in-Some.entry.bytes.now in
    let size : length (take (length c.loop-rest.rest.now - n) (drop n c.loop-rest.rest.now)) ≡ length c.loop-rest.rest.now - n =
    ap length (from_on c.loop-rest.rest.now n) ∙ length-drop n c.loop-rest.rest.now in
    omega (arith, some, within, size)

pub returns : goal.returns
returns g c =
    let tables = c.args.tables.now in
    rw c.loop-rest.invariant.tables
    (ap (archive_or tables)
    (read_all (IsReportEntry tables) (entry_in tables) (c.reports_are_entries.ensures tables)
    c.args.octets.now (g.S.Shelf.entries c.loop-rest.shelf)
    (option_map read c.loop-rest.before) c.loop-rest.place c.loop-rest.rest.now
    c.loop-rest.invariant.so_far (omega arith)))

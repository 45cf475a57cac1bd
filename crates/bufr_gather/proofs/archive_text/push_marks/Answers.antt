-- Entry by entry, until one is wrong or none is left.
use Rattle.std.proofs.Common.{◌≡◌, ◌+◌, ◌-◌, ◌^◌, ◌<◌, ℕ, length, take, drop, Some, None, List, refl, sym, ap}
use Rattle.std.proofs.Common.{subst, ◌∙◌, arith}
use Rattle.std.specs.Option.{option_map}
use Rattle.std.proofs.lemmas.List.{length-drop}
use Rattle.std.proofs.lemmas.List.Elements.{All-from_get_or}
use Rattle.bufr_gather.specs.Texts.{right_entry}
use Rattle.bufr_gather.specs.EntryFacts.{from_on}
use Rattle.bufr_gather.specs.Reading.{read}
use Rattle.bufr_gather.specs.ReportEntries.{entry_in}
use Rattle.bufr_gather.proofs.HeldFacts.{MarkedSoFar, marked_none, marked_more, marked_all}
use Rattle.bufr_gather.proofs.HeldFacts.{marked_stops}
use Rattle.bufr_gather.proofs.archive_text.push_marks.Goals as goal

pub loop-rest-init : goal.loop-rest-init
loop-rest-init c =
    let octets = c.args.octets.now in
    record {
      so_far = marked_none c.args.message_reader.now octets c.args.marks.now.items
          (All-from_get_or (λ (x : ℕ). x < 2 ^ 8) octets 0
          (λ i below. omega (arith, c.type_inv.octets i))) c.requires;
      tables = refl;
    }

pub returns-in_default-clause-marks : goal.returns-in_default-clause-marks
returns-in_default-clause-marks c =
    let tables = c.args.message_reader.now in
    let before = option_map read c.loop-rest.before in
    let found = rw c.loop-rest.invariant.tables at c.in_ok-entry.ensures.is in
    let none : right_entry (entry_in tables) before c.loop-rest.rest.now ≡ None =
    sym found ∙ ap (option_map read) c.in_default.is in
    marked_stops c.reports_are_entries.ensures tables c.args.octets.now before c.loop-rest.place
    c.loop-rest.rest.now c.loop-rest.marks.items c.loop-rest.invariant.so_far (omega arith) none

pub loop-rest-preserved : goal.loop-rest-preserved
loop-rest-preserved c =
    let tables = c.args.message_reader.now in
    let e = read c.in-Some.entry in
    let place = c.loop-rest.place + length c.in-Some.entry.bytes.now in
    let found = rw c.loop-rest.invariant.tables at c.in_ok-entry.ensures.is in
    let next = marked_more c.reports_are_entries.ensures tables c.args.octets.now
    c.loop-rest.before c.loop-rest.place c.loop-rest.rest.now c.loop-rest.marks.items
    c.push_mark.new.marks.items _ c.in-Some.entry c.loop-rest.invariant.so_far found c.in-Some.is
    c.in_ok-push_mark.ensures in
    record {
      so_far = subst (λ (r : List ℕ). MarkedSoFar tables c.args.octets.now (Some e) place r
          c.push_mark.new.marks.items) (sym (from_on c.loop-rest.rest.now (length c.in-Some.entry.bytes.now))) next.2;
      tables = c.in_ok-entry.ensures.same ∙ c.loop-rest.invariant.tables;
    }

pub loop-rest-smaller : goal.loop-rest-smaller
loop-rest-smaller c =
    let found = rw c.loop-rest.invariant.tables at c.in_ok-entry.ensures.is in
    let next = marked_more c.reports_are_entries.ensures c.args.message_reader.now c.args.octets.now
    c.loop-rest.before c.loop-rest.place c.loop-rest.rest.now c.loop-rest.marks.items _ _
    c.in-Some.entry c.loop-rest.invariant.so_far found c.in-Some.is refl in
    let some = next.0 in
    let within = next.1 in
    let n = length c.in-Some.entry.bytes.now in
    let size : length (take (length c.loop-rest.rest.now - n) (drop n c.loop-rest.rest.now)) ≡ length c.loop-rest.rest.now - n =
    ap length (from_on c.loop-rest.rest.now n) ∙ length-drop n c.loop-rest.rest.now in
    omega (arith, some, within, size)

pub returns-clause-marks : goal.returns-clause-marks
returns-clause-marks c =
    marked_all c.reports_are_entries.ensures c.args.message_reader.now c.args.octets.now
    (option_map read c.loop-rest.before) c.loop-rest.place c.loop-rest.rest.now
    c.loop-rest.marks.items _ c.loop-rest.invariant.so_far (omega arith)
    c.in_ok-push_mark-2.ensures

pub returns-clause-octets : goal.returns-clause-octets
returns-clause-octets c =
    All-from_get_or (λ (x : ℕ). x < 2 ^ 8) c.args.octets.now 0
    (λ i below. omega (arith, c.type_inv.octets i))

-- Two runs that took in the same messages agree: for `laws::archives_converge`, and the headline.
use Rattle.std.proofs.Common.{◌≡◌, ℕ, List, ap, subst}
use Rattle.bufr_entries.specs.Keeping.{SameMembers}
use Rattle.bufr_tables.specs.Entries.{Entries}
use Rattle.bufr_gather.specs.Texts.{text}
use Rattle.bufr_gather.specs.ReportEntries.{kept_of}
use Rattle.bufr_gather.specs.StreamsTold.{all_told}
use Rattle.bufr_gather.specs.SameToldLaws.{kept_of-same, same_told}
use Rattle.bufr_archive.specs.Slots.{Slot, new_slots}
use Rattle.bufr_archive.specs.Agreements.{EndsRun, TookExactly}
use Rattle.bufr_archive.specs.Agreements.{KeepsWhatWasTold, Converges}
use Rattle.bufr_archive.proofs.RunFacts.{told_so_far, closed_told, nothing_more, run_holds}
use Rattle.bufr_archive.proofs.RunFacts.{new_holds}

pub took_exactly : (tables : Entries) → TookExactly tables
took_exactly tables count steps answers w i slot there =
    let h =
    run_holds tables steps answers (new_slots count) w.run w.repeated w.joins_closed
    (new_holds tables steps count) i slot there in
    (nothing_more slot.reports (told_so_far tables slot) h.high, h.low)

ends_with : (tables : Entries) (slot : Slot) → EndsRun tables slot
    → SameMembers slot.reports (all_told tables slot.ended)
ends_with tables slot e =
    subst (SameMembers slot.reports) (closed_told tables slot e.closed)
    (took_exactly tables e.count e.steps e.answers e.whole e.number slot e.there)

pub keeps_what_was_told : (tables : Entries) → KeepsWhatWasTold tables
keeps_what_was_told tables slot e =
    kept_of-same tables slot.reports (all_told tables slot.ended) (ends_with tables slot e)

pub converges : (tables : Entries) → Converges tables
converges tables a b p q same =
    let first = ends_with tables a p in
    let second = ends_with tables b q in
    let between = same_told tables a.ended b.ended same in
    let reports : SameMembers a.reports b.reports = (
      λ x h. second.1 x (between.0 x (first.0 x h)),
      λ x h. first.1 x (between.1 x (second.0 x h)),
    ) in
    record {
      reports = reports;
      entries = kept_of-same tables a.reports b.reports reports;
      texts = ap text (kept_of-same tables a.reports b.reports reports);
      stated = ap text (keeps_what_was_told tables a p);
    }

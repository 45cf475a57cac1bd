-- Frame by frame, an archive adds messages, and what it keeps of two lists of reports: for
-- `run_add` and `run_merge`.
use Rattle.std.proofs.Common.{◌≡◌, ℕ, ◌+◌, ◌≤◌, List, [], ◌∷◌, ◌++◌}
use Rattle.std.proofs.Common.{Ok, Err}
use Rattle.std.proofs.Common.{sym, ap, ◌∙◌, subst, arith, length-append}
use Rattle.std.specs.Prelude.{option_to_list}
use Rattle.std.proofs.lemmas.List.{append-nil, map-append}
use Rattle.std.proofs.lemmas.List.Sums.{sum_by_push}
use Rattle.std.proofs.lemmas.Grind.{flat_map-append}
use Rattle.bufr_tables.specs.Entries.{Entries}
use Rattle.bufr_frame.specs.declared.frames.Found.{Found}
use Rattle.bufr_message.specs.declared.Decoded.{Decoded}
use Rattle.bufr_message.specs.declared.Refused.{Refused}
use Rattle.bufr_message.specs.declared.report.Report.{Report}
use Rattle.bufr_message.specs.Messages.{message_of}
use Rattle.bufr_message.specs.Reports.{reports_of, reports_in, reports_read}
use Rattle.bufr_entries.specs.declared.entry.Entry.{Entry}
use Rattle.bufr_entries.specs.Entries.{kept}
use Rattle.bufr_entries.specs.Orders.{kept-early}
use Rattle.bufr_gather.specs.Archives.{ArchiveView, taken_in, entries_of}
use Rattle.bufr_engines.specs.declared.streams.FrameCounts.{FrameCounts}
use Rattle.bufr_gather.specs.ReportEntries.{entry_of, report_entries, kept_of}
use Rattle.bufr_gather.specs.ReportTexts.{archive_of}
use Rattle.bufr_engines.specs.Refusals.{refused_as, frame_refused, refused_of}
use Rattle.bufr_engines.specs.Adds.{reports_of_frames, HasAdded}
use Rattle.bufr_engines.proofs.PrintingFacts.{refused_few, refused_one}

pub kept_more : (tables : Entries) (rs more : List Report)
    → kept (kept_of tables rs ++ entries_of (report_entries tables more))
    ≡ kept_of tables (rs ++ more)
kept_more tables rs more =
    kept-early (entries_of (report_entries tables rs)) (entries_of (report_entries tables more))
    ∙ ap kept
    (sym (flat_map-append option_to_list (report_entries tables rs) (report_entries tables more))
    ∙ ap entries_of (sym (map-append (entry_of tables) rs more)))

told_one : (tables : Entries) (frames : List Found) (frame : Found)
    → reports_of_frames tables (frames ++ frame ∷ [])
    ≡ reports_of_frames tables frames ++ reports_in tables frame.bytes
told_one tables frames frame =
    flat_map-append (λ (f : Found). reports_in tables f.bytes) frames (frame ∷ [])
    ∙ ap (λ rs. reports_of_frames tables frames ++ rs) (append-nil (reports_in tables frame.bytes))

-- an archive with these entries
abbrev pub archive_with : Entries → List Entry → ArchiveView
archive_with tables es = record { tables = tables; entries = es }

archive_more : (tables : Entries) (frames : List Found) (frame : Found) (rs : List Report)
    (new : ArchiveView) → reports_in tables frame.bytes ≡ rs
    → new
    ≡ taken_in (archive_of tables (reports_of_frames tables frames)) (report_entries tables rs)
    → new ≡ archive_of tables (reports_of_frames tables (frames ++ frame ∷ []))
archive_more tables frames frame rs new is new_is =
    new_is
    ∙ ap (archive_with tables) (kept_more tables (reports_of_frames tables frames) rs)
    ∙ ap (archive_of tables)
    (ap (λ (more : List Report). reports_of_frames tables frames ++ more) (sym is)
    ∙ sym (told_one tables frames frame))

refused_more : (tables : Entries) (frames : List Found) (frame : Found)
    → refused_of tables (frames ++ frame ∷ [])
    ≡ refused_of tables frames + frame_refused tables frame
refused_more tables frames frame = sum_by_push (frame_refused tables) frames frame

pub refused_at_most : (tables : Entries) (archive : ArchiveView) (counts : FrameCounts)
    (frames : List Found) → HasAdded tables archive counts frames → counts.refused ≤ counts.frames
refused_at_most tables archive counts frames h =
    let few = refused_few (frame_refused tables) frames (refused_one tables) in
    let a = h.frames_are in
    let b = h.refused_are in
    omega arith

pub added_ok : (tables : Entries) (old new : ArchiveView) (counts counts' : FrameCounts)
    (frames : List Found) (frame : Found) (octets : List ℕ) (d : Decoded)
    → HasAdded tables old counts frames → octets ≡ frame.bytes → message_of old.tables octets ≡ Ok d
    → new ≡ taken_in old (report_entries old.tables (reports_of d.message))
    → counts'.frames ≡ counts.frames + 1 → counts'.refused ≡ counts.refused
    → HasAdded tables new counts' (frames ++ frame ∷ [])
added_ok tables old new counts counts' frames frame octets d h is spells new_is one same =
    let was = h.archive_is in
    let here : message_of tables frame.bytes ≡ Ok d =
    subst (λ (o : List ℕ). message_of tables o ≡ Ok d) is
    (subst (λ (a : ArchiveView). message_of a.tables octets ≡ Ok d) was spells) in
    let there : new
    ≡ taken_in (archive_of tables (reports_of_frames tables frames))
    (report_entries tables (reports_of d.message)) =
    subst (λ (a : ArchiveView). new
    ≡ taken_in a (report_entries a.tables (reports_of d.message))) was new_is in
    let count = refused_more tables frames frame in
    let none : frame_refused tables frame ≡ 0 = ap refused_as here in
    let long = length-append frames (frame ∷ []) in
    let a = h.frames_are in
    let b = h.refused_are in
    record {
      archive_is =
          archive_more tables frames frame (reports_of d.message) new (ap reports_read here) there;
      frames_are = omega arith;
      refused_are = omega arith;
    }

pub added_none : (tables : Entries) (old new : ArchiveView) (counts counts' : FrameCounts)
    (frames : List Found) (frame : Found) (octets : List ℕ) (why : Refused)
    → HasAdded tables old counts frames → octets ≡ frame.bytes
    → message_of old.tables octets ≡ Err why → new ≡ old → counts'.frames ≡ counts.frames + 1
    → counts'.refused ≡ counts.refused + 1 → HasAdded tables new counts' (frames ++ frame ∷ [])
added_none tables old new counts counts' frames frame octets why h is spells new_is one more =
    let was = h.archive_is in
    let here : message_of tables frame.bytes ≡ Err why =
    subst (λ (o : List ℕ). message_of tables o ≡ Err why) is
    (subst (λ (a : ArchiveView). message_of a.tables octets ≡ Err why) was spells) in
    let none : reports_of_frames tables (frames ++ frame ∷ []) ≡ reports_of_frames tables frames =
    told_one tables frames frame
    ∙ ap (λ (rs : List Report). reports_of_frames tables frames ++ rs) (ap reports_read here)
    ∙ append-nil (reports_of_frames tables frames) in
    let count = refused_more tables frames frame in
    let counted : frame_refused tables frame ≡ 1 = ap refused_as here in
    let long = length-append frames (frame ∷ []) in
    let a = h.frames_are in
    let b = h.refused_are in
    record {
      archive_is = new_is ∙ was ∙ ap (archive_of tables) (sym none);
      frames_are = omega arith;
      refused_are = omega arith;
    }

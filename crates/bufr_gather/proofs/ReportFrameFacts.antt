-- Texts of reports as streams: for `laws::texts_are_cut_apart`.
use Rattle.std.proofs.Common.{◌≡◌, List, [], ◌∷◌, ◌++◌, Option, Some, refl, ap, ◌∙◌}
use Rattle.std.specs.List.{AllByRecursion, flat_map}
use Rattle.std.proofs.lemmas.List.{map-append}
use Rattle.bufr_tables.specs.Entries.{Entries}
use Rattle.bufr_frame.specs.declared.frames.Found.{Found}
use Rattle.bufr_frame.specs.Streams.{cut}
use Rattle.bufr_message.specs.declared.report.Report.{Report}
use Rattle.bufr_message.specs.Laws.{BareAreWritten}
use Rattle.bufr_message.specs.Reports.{reports_in, CanonicalIsRead}
use Rattle.bufr_entries.specs.declared.entry.Entry.{Entry}
use Rattle.bufr_entries.specs.Entries.{kept}
use Rattle.bufr_gather.specs.Archives.{entries_of}
use Rattle.bufr_gather.specs.Texts.{text}
use Rattle.bufr_gather.specs.TextLaws.{AreFrames, TellOwn}
use Rattle.bufr_gather.specs.ReportEntries.{entry_of, report_entries, entries_told}
use Rattle.bufr_gather.specs.ReportEntries.{IsReportEntry, AreUnder}
use Rattle.bufr_gather.specs.ReportLaws.{ReportsAreEntries, FramesOfReports, FramesOfReportFronts}
use Rattle.bufr_gather.specs.ReportLaws.{ReportTextsTell}
use Rattle.bufr_gather.specs.ReportTextFacts.{own_is, entries_are}
use Rattle.bufr_gather.specs.TextFacts as texts
use Rattle.bufr_gather.proofs.FrameFacts.{Joined, Fronts, frames_of_texts, frames_of_fronts}
use Rattle.bufr_gather.proofs.FrameFacts.{texts_tell}

-- the entries of reports are frames
are_frames : BareAreWritten → ReportsAreEntries → (tables : Entries) (rs : List Report)
    → AreUnder tables rs → AreFrames (entries_of (report_entries tables rs))
are_frames written laws tables rs under =
    texts.each_so (IsReportEntry tables) _ (laws tables).frame
    (entries_of (report_entries tables rs)) (entries_are written tables rs under)

pub frames_of_reports : BareAreWritten → ReportsAreEntries → Joined → FramesOfReports
frames_of_reports written laws joined tables rs under =
    frames_of_texts joined (entries_of (report_entries tables rs))
    (are_frames written laws tables rs under)

pub frames_of_report_fronts : BareAreWritten → ReportsAreEntries → Fronts → FramesOfReportFronts
frames_of_report_fronts written laws fronts tables rs k n under few room =
    frames_of_fronts fronts (entries_of (report_entries tables rs)) k n
    (are_frames written laws tables rs under) few room

tell_own : BareAreWritten → CanonicalIsRead → (tables : Entries) (es : List Entry)
    → AllByRecursion (IsReportEntry tables) es → TellOwn (entries_told tables) es
tell_own written reads tables es a =
    texts.each_so (IsReportEntry tables) (λ e. entries_told tables e.bytes ≡ Some e ∷ [])
    (λ e is. ap (report_entries tables) (reads tables is.report e.bytes is.canon).1
    ∙ ap (λ (x : Option Entry). x ∷ []) (own_is written tables e is)) es a

entries_of_frames : (tables : Entries) (fs : List Found)
    → report_entries tables (flat_map (λ f. reports_in tables f.bytes) fs)
    ≡ flat_map (λ f. entries_told tables f.bytes) fs
entries_of_frames tables [] = refl
entries_of_frames tables (f ∷ fs) =
    map-append (entry_of tables) (reports_in tables f.bytes)
    (flat_map (λ f. reports_in tables f.bytes) fs)
    ∙ ap (λ (es : List (Option Entry)). entries_told tables f.bytes ++ es)
    (entries_of_frames tables fs)

pub report_texts_tell : BareAreWritten → ReportsAreEntries → CanonicalIsRead → Joined
    → ReportTextsTell
report_texts_tell written laws reads joined tables rs under =
    let es = entries_of (report_entries tables rs) in
    let stream = text (kept es) in
    ap (λ xs. kept (entries_of xs)) (entries_of_frames tables (cut stream))
    ∙ texts_tell joined (entries_told tables) es (are_frames written laws tables rs under)
    (tell_own written reads tables es (entries_are written tables rs under))

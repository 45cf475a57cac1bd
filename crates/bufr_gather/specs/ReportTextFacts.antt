-- Texts of reports, as they are read: for the clauses of `ArchiveText::read` and `Archive::read`.
use Rattle.std.proofs.Common.{◌≡◌, ℕ, List, [], ◌∷◌, take, Option, Some, Result, Ok, Err}
use Rattle.std.proofs.Common.{refl, sym, ap, subst, ◌∙◌}
use Rattle.std.specs.Prelude.{◌++◌, IfOk, IfErr, option_map, option_to_list}
use Rattle.std.specs.List.{AllByRecursion}
use Rattle.bufr_tables.specs.Entries.{Entries}
use Rattle.bufr_base.specs.Answers.{Gives}
use Rattle.bufr_base.specs.declared.failure.Failure.{Failure}
use Rattle.bufr_base.specs.declared.failure.Failure.TheVariants.{Fault, OutOfMemory}
use Rattle.bufr_sections.specs.Sections.{AreOctets}
use Rattle.bufr_message.specs.declared.report.Report.{Report}
use Rattle.bufr_message.specs.Laws.{BareAreWritten}
use Rattle.bufr_message.specs.Reports.{alone, canonical, if_written, IsCanonical, IsUnder}
use Rattle.bufr_entries.specs.declared.entry.Entry.{Entry}
use Rattle.bufr_entries.specs.Entries.{kept}
use Rattle.bufr_gather.specs.declared.reading.NotAnArchive.{NotAnArchive}
use Rattle.bufr_gather.specs.Archives.{ArchiveView, entries_of}
use Rattle.bufr_gather.specs.Texts.{text, IsEntryText, EntriesBreakAt, entries_read}
use Rattle.bufr_gather.specs.Reading.{archive_or, archive_read}
use Rattle.bufr_gather.specs.ReportEntries.{entry_with, entry_of, report_entries}
use Rattle.bufr_gather.specs.ReportEntries.{kept_of, text_of, IsReportEntry, AreUnder, entry_in}
use Rattle.bufr_gather.specs.ReportTexts.{IsText, BreaksAt, archive_of, IsArchiveOf, RefusedAt}
use Rattle.bufr_gather.specs.ReportLaws.{ReportsAreEntries}
use Rattle.bufr_gather.specs.TextFacts as texts

-- ---- reports and their entries

-- a canonical message is the one that is computed
pub canonical_is : BareAreWritten → (tables : Entries) (r : Report) (octets : List ℕ)
    → IsCanonical tables r octets → canonical tables r ≡ Some octets
canonical_is written tables r octets c = ap if_written (written tables (alone r) octets c.spelt)

-- ---- reports and their entries

pub entry_is : BareAreWritten → (tables : Entries) (r : Report) (u : IsUnder tables r)
    → entry_of tables r ≡ Some (entry_with r u.0)
entry_is written tables r u =
    ap (option_map (entry_with r)) (canonical_is written tables r u.0 u.1)

pub own_is : BareAreWritten → (tables : Entries) (e : Entry) (is : IsReportEntry tables e)
    → entry_of tables is.report ≡ Some e
own_is written tables e is =
    entry_is written tables is.report (e.bytes, is.canon) ∙ ap Some (sym is.is)

pub entries_are : BareAreWritten → (tables : Entries) (rs : List Report) → AreUnder tables rs
    → AllByRecursion (IsReportEntry tables) (entries_of (report_entries tables rs))
entries_are written tables [] a = tt
entries_are written tables (r ∷ rs) a =
    let octets = a.0.0 in
    let is : IsReportEntry tables (entry_with r octets) =
    record { report = r; canon = a.0.1; is = refl } in
    subst (λ (x : Option Entry). AllByRecursion (IsReportEntry tables)
    (option_to_list x ++ entries_of (report_entries tables rs)))
    (sym (entry_is written tables r a.0))
    (is, entries_are written tables rs a.1)

reports_are : BareAreWritten → (tables : Entries) (es : List Entry)
    → AllByRecursion (IsReportEntry tables) es
    → (rs : List Report) × AreUnder tables rs × (entries_of (report_entries tables rs) ≡ es)
reports_are written tables [] a = ([], tt, refl)
reports_are written tables (e ∷ es) a =
    let rest = reports_are written tables es a.1 in (
      a.0.report ∷ rest.0,
      ((e.bytes, a.0.canon), rest.1),
      ap (λ (x : Option Entry). option_to_list x ++ entries_of (report_entries tables rest.0))
          (own_is written tables e a.0)
          ∙ ap (λ (es : List Entry). e ∷ es) rest.2,
    )

-- ---- texts

text_of_entries : BareAreWritten → (tables : Entries) (octets : List ℕ)
    → IsEntryText (IsReportEntry tables) octets → IsText tables octets
text_of_entries written tables octets t =
    let rs = reports_are written tables t.entries t.each in
    record {
      reports = rs.0;
      under = rs.1;
      says = t.says ∙ ap (λ es. text (kept es)) (sym rs.2);
    }

text_of_reports : BareAreWritten → (tables : Entries) (octets : List ℕ)
    → IsText tables octets → IsEntryText (IsReportEntry tables) octets
text_of_reports written tables octets t = record {
  entries = entries_of (report_entries tables t.reports);
  each = entries_are written tables t.reports t.under;
  says = t.says;
}

breaks_there : BareAreWritten → (tables : Entries) (octets : List ℕ) (place : ℕ)
    → EntriesBreakAt (IsReportEntry tables) octets place → BreaksAt tables octets place
breaks_there written tables octets place b = record {
  front = text_of_entries written tables (take place octets) b.front;
  proper = b.proper;
  longest = λ n before within t.
      b.longest n before within (text_of_reports written tables (take n octets) t);
}

-- ---- what reading returns

or_ok : (tables : Entries) (x : Result (List Entry) ℕ) (a : ArchiveView)
    → archive_or tables x ≡ Ok a
    → (es : List Entry) × (x ≡ Ok es) × (a ≡ record { tables = tables; entries = es })
or_ok tables (Ok es) a e = (es, refl, cc)
or_ok tables (Err p) a e = absurd cc

or_err : (tables : Entries) (x : Result (List Entry) ℕ) (f : NotAnArchive)
    → archive_or tables x ≡ Err f → x ≡ Err f.place
or_err tables (Ok es) f e = absurd cc
or_err tables (Err p) f e =
    let same : record { place = p } ≡ f = cc in ap (λ (f : NotAnArchive). Err f.place) same

module _ (written : BareAreWritten) (laws : ReportsAreEntries) (tables : Entries)
    (octets : List ℕ) (x : Result ArchiveView (Failure NotAnArchive))
    (gives : Gives (λ a. a) x (archive_read tables octets)) where
  pub accepted : AreOctets octets → IfOk x (IsArchiveOf tables octets)
  accepted all = by x gives
    where
      by : (x : Result ArchiveView (Failure NotAnArchive))
          → Gives (λ a. a) x (archive_read tables octets) → IfOk x (IsArchiveOf tables octets)
      by (Ok a) g =
          let es = or_ok tables (entries_read (entry_in tables) octets) a g in
          let t = texts.read_are_texts (IsReportEntry tables) (entry_in tables) (laws tables)
          octets es.0 all es.1 in
          let rs = reports_are written tables es.0 t.0 in
          let held : es.0 ≡ kept_of tables rs.0 = sym t.2 ∙ ap kept (sym rs.2) in (
            rs.0,
            rs.1,
            t.1 ∙ ap text held,
            es.2 ∙ ap (λ (es : List Entry). record { tables = tables; entries = es }) held,
          )
      by (Err f) g = tt

  pub only : (rs : List Report) → AreUnder tables rs → octets ≡ text_of tables rs
      → Gives (λ a. a) x (Ok (archive_of tables rs))
  only rs under says =
      subst (Gives (λ a. a) x)
      (ap (archive_read tables) says
      ∙ ap (archive_or tables) (texts.texts_are_read (IsReportEntry tables) (entry_in tables)
      (laws tables) (entries_of (report_entries tables rs))
      (entries_are written tables rs under))) gives

  pub refused : AreOctets octets → IfErr x (RefusedAt tables octets)
  refused all = by x gives
    where
      by : (x : Result ArchiveView (Failure NotAnArchive))
          → Gives (λ a. a) x (archive_read tables octets) → IfErr x (RefusedAt tables octets)
      by (Ok a) g = tt
      by (Err (Fault f)) g =
          breaks_there written tables octets f.place
          (texts.refused_break_there (IsReportEntry tables) (entry_in tables) (laws tables) octets
          f.place all (or_err tables (entries_read (entry_in tables) octets) f g))
      by (Err OutOfMemory) g = tt

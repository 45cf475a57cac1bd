-- Texts from before, while keys had no sub-centre, are texts: for `laws::texts_from_before`.
use Rattle.std.proofs.Common.{◌≡◌, inl, inr, List, [], ◌∷◌, ◌++◌, map, Option, Some, refl, sym, ap}
use Rattle.std.proofs.Common.{subst, ◌∙◌}
use Rattle.std.specs.Prelude.{option_to_list}
use Rattle.std.proofs.lemmas.Option.{same_Some}
use Rattle.bufr_tables.specs.Entries.{Entries}
use Rattle.bufr_message.specs.declared.report.Report.{Report}
use Rattle.bufr_message.specs.Laws.{BareAreWritten}
use Rattle.bufr_message.specs.Reports.{IsUnder}
use Rattle.bufr_entries.specs.declared.entry.Entry.{Entry}
use Rattle.bufr_entries.specs.Entries.{kept}
use Rattle.bufr_entries.specs.Keeping.{Has, Within}
use Rattle.bufr_entries.specs.Laws.{CoarselyKeptAreKept, CoarselyKeptIsTheBest}
use Rattle.bufr_gather.specs.Archives.{entries_of}
use Rattle.bufr_gather.specs.Texts.{text}
use Rattle.bufr_gather.specs.ReportEntries.{entry_of, report_entries, kept_of, AreUnder}
use Rattle.bufr_gather.specs.ReportEntries.{IsReportEntry, entry_in}
use Rattle.bufr_gather.specs.ReportTexts.{kept_before}
use Rattle.bufr_gather.specs.ReportLaws.{ReportsAreEntries, HaveEntries, TextsFromBefore}
use Rattle.bufr_gather.specs.ReportLaws.{FromBeforeAreTexts, KeptBeforeIsTheBest}
use Rattle.bufr_gather.specs.TextFacts.{has_each}
use Rattle.bufr_gather.specs.ReportTextFacts.{entry_is, entries_are}

-- ---- the reports of entries

report_of : BareAreWritten → (tables : Entries) (rs : List Report) (e : Entry)
    → AreUnder tables rs → Has (entries_of (report_entries tables rs)) e
    → (r : Report) × Has rs r × IsUnder tables r × (entry_of tables r ≡ Some e)
report_of written tables [] e a h = absurd h
report_of written tables (r ∷ rs) e a h =
    let own = entry_is written tables r a.0 in
    let there = subst (λ (x : Option Entry).
    Has (option_to_list x ++ entries_of (report_entries tables rs)) e) own h in
    elim there [
      | inl same ↦ (r, inl refl, a.0, own ∙ ap Some (sym same))
      | inr more ↦ let t = report_of written tables rs e a.1 more in (t.0, inr t.1, t.2, t.3)
    ]

those_with : BareAreWritten → (tables : Entries) (rs : List Report) → AreUnder tables rs
    → (es : List Entry) → Within es (entries_of (report_entries tables rs))
    → (ks : List Report) × HaveEntries tables rs ks es
those_with written tables rs a [] within =
    ([], record { under = tt; from = λ r h. absurd h; entries = refl })
those_with written tables rs a (e ∷ es) within =
    let one = report_of written tables rs e a (within e (inl refl)) in
    let rest = those_with written tables rs a es (λ f h. within f (inr h)) in (
      one.0 ∷ rest.0,
      record {
        under = (one.2, rest.1.under);
        from = λ r h. elim h
            [ inl same ↦ subst (Has rs) (sym same) one.1 | inr more ↦ rest.1.from r more ];
        entries = ap (λ (x : Option Entry). x ∷ report_entries tables rest.0) one.3
            ∙ ap (λ (xs : List (Option Entry)). Some e ∷ xs) rest.1.entries;
      },
    )

all_there : (es : List Entry) → entries_of (map Some es) ≡ es
all_there [] = refl
all_there (e ∷ es) = ap (λ (es : List Entry). e ∷ es) (all_there es)

kept_of_those : (tables : Entries) (rs ks : List Report) (es : List Entry)
    → HaveEntries tables rs ks es → kept_of tables ks ≡ kept es
kept_of_those tables rs ks es h =
    ap (λ xs. kept (entries_of xs)) h.entries ∙ ap kept (all_there es)

octets_tell : BareAreWritten → ReportsAreEntries → (tables : Entries) (rs : List Report)
    → AreUnder tables rs → (e f : Entry) → Has (entries_of (report_entries tables rs)) e
    → Has (entries_of (report_entries tables rs)) f → e.bytes ≡ f.bytes → e ≡ f
octets_tell written laws tables rs under e f h k same =
    let es = entries_of (report_entries tables rs) in
    let each = entries_are written tables rs under in
    let first = (laws tables).found e (has_each (IsReportEntry tables) es e each h) in
    let second = (laws tables).found f (has_each (IsReportEntry tables) es f each k) in
    same_Some e f (sym first ∙ ap (entry_in tables) same ∙ second)

-- ---- the laws

pub kept_before_is_the_best : BareAreWritten → ReportsAreEntries → CoarselyKeptIsTheBest
    → KeptBeforeIsTheBest
kept_before_is_the_best written laws best tables rs under =
    best (entries_of (report_entries tables rs)) (octets_tell written laws tables rs under)

pub texts_from_before : BareAreWritten → ReportsAreEntries → CoarselyKeptAreKept
    → CoarselyKeptIsTheBest → TextsFromBefore
texts_from_before written laws still best tables rs under =
    let es = kept_before tables rs in
    let are = kept_before_is_the_best written laws best tables rs under in
    let ks = those_with written tables rs under es (λ e h. (are.only_best e h).member) in
    let same : kept_of tables ks.0 ≡ es =
    kept_of_those tables rs ks.0 es ks.1 ∙ still (entries_of (report_entries tables rs)) in
    (ks.0, ks.1, same, ap text same)

pub from_before_are_texts : BareAreWritten → ReportsAreEntries → CoarselyKeptAreKept
    → CoarselyKeptIsTheBest → FromBeforeAreTexts
from_before_are_texts written laws still best tables octets t =
    let ks = texts_from_before written laws still best tables t.reports t.under in
    record { reports = ks.0; under = ks.1.under; says = t.says ∙ sym ks.3 }

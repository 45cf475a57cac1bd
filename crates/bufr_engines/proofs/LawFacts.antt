-- The reports of the texts of groups keep what the reports of all their streams keep: for the law
-- `streams_are_shared_out_anyhow`.
use Rattle.std.proofs.Common.{◌≡◌, ℕ, List, [], ◌∷◌, ◌++◌, map, refl, sym, ap, ◌∙◌}
use Rattle.std.specs.List.{flat_map, AllByRecursion}
use Rattle.std.proofs.lemmas.Grind.{flat_map-append}
use Rattle.bufr_tables.specs.Entries.{Entries}
use Rattle.bufr_message.specs.declared.report.Report.{Report}
use Rattle.bufr_entries.specs.declared.entry.Entry.{Entry}
use Rattle.bufr_entries.specs.Entries.{kept}
use Rattle.bufr_gather.specs.Texts.{text}
use Rattle.bufr_gather.specs.ReportEntries.{AreUnder, kept_of}
use Rattle.bufr_gather.specs.ReportTexts.{told}
use Rattle.bufr_gather.specs.ReportLaws.{ReportTextsTell}
use Rattle.bufr_gather.specs.StreamsTold.{all_told}
use Rattle.bufr_engines.specs.Collected.{collected_text, AreTextsOf, all_of}
use Rattle.bufr_engines.specs.Laws.{SharedOutAnyhow}
use Rattle.bufr_engines.proofs.CollectFacts.{kept_both}

shared_kept : ReportTextsTell
    → (tables : Entries) (groups : List (List (List ℕ))) (lists : List (List Report))
    → AllByRecursion (λ (streams : List (List ℕ)). AreUnder tables (all_told tables streams)) groups
    → AreTextsOf tables (map (collected_text tables) groups) lists
    → kept_of tables (all_of lists)
    ≡ kept_of tables (all_told tables (flat_map (λ (streams : List (List ℕ)). streams) groups))
shared_kept tell tables [] [] under are = refl
shared_kept tell tables (g ∷ groups) (rs ∷ lists) under are =
    let all = flat_map (λ (streams : List (List ℕ)). streams) groups in
    let one : kept_of tables rs ≡ kept_of tables (all_told tables g) =
    sym (tell tables rs are.0) ∙ ap (λ (t : List ℕ). kept_of tables (told tables t)) (sym are.1)
    ∙ tell tables (all_told tables g) under.0 in
    let rest = shared_kept tell tables groups lists under.1 are.2 in
    sym (kept_both tables rs (all_of lists))
    ∙ ap (λ (es : List Entry). kept (es ++ kept_of tables (all_of lists))) one
    ∙ ap (λ (es : List Entry). kept (kept_of tables (all_told tables g) ++ es)) rest
    ∙ kept_both tables (all_told tables g) (all_told tables all)
    ∙ ap (kept_of tables) (sym (flat_map-append (told tables) g all))
shared_kept tell tables [] (rs ∷ lists) under are = absurd are
shared_kept tell tables (g ∷ groups) [] under are = absurd are

pub shared : ReportTextsTell → SharedOutAnyhow
shared tell tables groups lists under are = ap text (shared_kept tell tables groups lists under are)

-- That the text of a merged archive depends on the streams alone, not on their groups nor on the
-- way of merging.
use Rattle.std.specs.Prelude.{◌≡◌, ℕ, List, [], ◌∷◌, map}
use Rattle.std.specs.List.{flat_map, AllByRecursion}
use Rattle.bufr_tables.specs.Entries.{Entries}
use Rattle.bufr_message.specs.declared.report.Report.{Report}
use Rattle.bufr_gather.specs.ReportEntries.{AreUnder}
use Rattle.bufr_sections.specs.Sections.{AreOctets}
use Rattle.bufr_gather.specs.StreamsTold.{HoldSameMessages}
use Rattle.bufr_gather.specs.StreamsTold.{all_told}
use Rattle.bufr_engines.specs.Collected.{collected_text, AreTextsOf, merged_text}

-- the streams of groups, one after another
abbrev pub all_streams : List (List (List ℕ)) → List (List ℕ)
all_streams groups = flat_map (λ streams. streams) groups

-- Streams in groups, the archive of each group, and these archives merged: the text is that of one
-- archive of all the streams. The reports of the streams are under the tables, as all reports of
-- messages are.
abbrev pub SharedOutAnyhow : Type 0
SharedOutAnyhow = (tables : Entries) (groups : List (List (List ℕ))) (lists : List (List Report))
    → AllByRecursion (λ streams. AreUnder tables (all_told tables streams)) groups
    → AreTextsOf tables (map (collected_text tables) groups) lists
    → merged_text tables lists ≡ collected_text tables (all_streams groups)

-- ---- any way of adding and merging

-- Files made of groups of streams, a file for each group: `add` writes the text of a group's
-- reports (`Collects`), and `merge` the text of the reports of archives (`Merges`) that were made
-- in the same way.
pub data AreMadeOf (tables : Entries) : List (List (List ℕ)) → List (List ℕ) → Type 0 where
  none : AreMadeOf tables [] []
  by_add : (streams : List (List ℕ)) {groups : List (List (List ℕ))} {files : List (List ℕ)}
      → AreMadeOf tables groups files
      → AreMadeOf tables (streams ∷ groups) (collected_text tables streams ∷ files)
  by_merge : {parts groups : List (List (List ℕ))} {archives files : List (List ℕ)}
      (lists : List (List Report)) → AreMadeOf tables parts archives
      → AreTextsOf tables archives lists → AreMadeOf tables groups files
      → AreMadeOf tables (all_streams parts ∷ groups) (merged_text tables lists ∷ files)

-- a file made of these streams
abbrev pub IsMadeOf : Entries → List (List ℕ) → List ℕ → Type 0
IsMadeOf tables streams file = AreMadeOf tables (streams ∷ []) (file ∷ [])

-- The headline for the commands: any two ways of adding and merging files whose streams hold the
-- same messages write the same octets, the stated text of the streams' reports.
abbrev pub AnyWayWritesTheSame : Type 0
AnyWayWritesTheSame = (tables : Entries) (a b : List (List ℕ)) (x y : List ℕ)
    → AllByRecursion AreOctets a → AllByRecursion AreOctets b
    → IsMadeOf tables a x → IsMadeOf tables b y → HoldSameMessages tables a b
    → (x ≡ y) × (x ≡ collected_text tables a)

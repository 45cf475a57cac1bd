-- What `add` collects of streams and `merge` of archives, and what they count (this project's own).
use Rattle.std.specs.Prelude.{◌≡◌, ℕ, List, [], ◌∷◌, length}
use Rattle.std.specs.List.{flat_map}
use Rattle.bufr_tables.specs.Entries.{Entries}
use Rattle.bufr_frame.specs.declared.frames.Found.{Found}
use Rattle.bufr_frame.specs.Streams.{cut}
use Rattle.bufr_message.specs.declared.report.Report.{Report}
use Rattle.bufr_io.specs.declared.fault.Tally.{Tally}
use Rattle.bufr_engines.specs.Refusals.{refused_of}
use Rattle.bufr_gather.specs.ReportEntries.{AreUnder, kept_of, text_of}
use Rattle.bufr_gather.specs.StreamsTold.{all_told}

-- ---- streams

-- the frames of the cut of each stream, stream by stream
abbrev pub frames_of : List (List ℕ) → List Found
frames_of streams = flat_map cut streams

-- the text of the archive of all reports of streams
abbrev pub collected_text : Entries → List (List ℕ) → List ℕ
collected_text tables streams = text_of tables (all_told tables streams)

-- the counts of `add`: the frames of the streams, the frames that spell no message, and the reports
-- kept
abbrev pub collected_tally : Entries → List (List ℕ) → Tally
collected_tally tables streams = record {
  frames = length (frames_of streams);
  refused = refused_of tables (frames_of streams);
  skipped = 0;
  reports = length (kept_of tables (all_told tables streams));
}

-- ---- archives

-- the texts of these lists of reports under the tables, a text for each list
abbrev pub AreTextsOf : Entries → List (List ℕ) → List (List Report) → Type 0
AreTextsOf tables [] [] = Unit {0}
AreTextsOf tables (text ∷ texts) (rs ∷ more) =
    AreUnder tables rs × (text ≡ text_of tables rs) × AreTextsOf tables texts more
AreTextsOf tables [] (rs ∷ more) = ⊥
AreTextsOf tables (text ∷ texts) [] = ⊥

-- the reports of all the lists
abbrev pub all_of : List (List Report) → List Report
all_of lists = flat_map (λ rs. rs) lists

-- the text of an archive of the reports of all the lists
abbrev pub merged_text : Entries → List (List Report) → List ℕ
merged_text tables lists = text_of tables (all_of lists)

-- the counts of `merge`: the archives, and the reports kept of all
abbrev pub merged_tally : Entries → List (List Report) → Tally
merged_tally tables lists = record {
  frames = length lists;
  refused = 0;
  skipped = 0;
  reports = length (kept_of tables (all_of lists));
}

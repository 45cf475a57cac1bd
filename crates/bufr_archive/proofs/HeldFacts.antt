-- What a step does to a depot and to its slots: for `Depot::step`.
use Rattle.std.proofs.Common.{◌≡◌, ℕ, zero, suc, ◌+◌, ◌-◌, ◌<◌, ◌≤◌, ◌^◌, true, false, Some, None}
use Rattle.std.proofs.Common.{Result, Ok, Err, List, [], ◌∷◌, ◌++◌, length, take, set, get_or, refl}
use Rattle.std.proofs.Common.{sym, ap, ◌∙◌, subst, arith}
use Rattle.std.specs.Prelude.{slice_get, option_to_list}
use Rattle.std.specs.List.{AllZip}
use Rattle.std.proofs.lemmas.List.{map-append, length-map, take-map, set-get_or}
use Rattle.std.proofs.lemmas.Option.{get_or_from_slice_get, slice_get_past, slice_get_read}
use Rattle.std.proofs.lemmas.List.Elements.{All-append, All-nil}
use Rattle.std.proofs.lemmas.Bool.{le-ltb, lt-ltb}
use Rattle.std.proofs.lemmas.Grind.{flat_map-append}
use Rattle.bufr_tables.specs.Entries.{Entries}
use Rattle.bufr_frame.specs.declared.frames.Found.{Found}
use Rattle.bufr_frame.specs.Framings.{Framing}
use Rattle.bufr_frame.specs.Looks.{new_framing}
use Rattle.bufr_frame.specs.Streams.{sure, cut, Stands}
use Rattle.bufr_frame.specs.StreamLaws.{cut-end, sure-piece}
use Rattle.bufr_sections.specs.Sections.{AreOctets}
use Rattle.bufr_message.specs.declared.report.Report.{Report}
use Rattle.bufr_message.specs.Reports.{IsUnder}
use Rattle.bufr_entries.specs.declared.entry.Entry.{Entry}
use Rattle.bufr_entries.specs.Entries.{kept}
use Rattle.bufr_entries.specs.Orders.{kept-early, kept-late}
use Rattle.bufr_gather.specs.Archives.{ArchiveView, taken_in, merged, entries_of}
use Rattle.bufr_archive.proofs.ChangeCounts.{count_kept}
use Rattle.bufr_gather.specs.ReportEntries.{AreUnder, entry_of, report_entries, kept_of}
use Rattle.bufr_gather.specs.ReportTexts.{archive_of}
use Rattle.bufr_gather.specs.StreamsTold.{reports_among, ReportsToldAreUnder}
use Rattle.bufr_archive.specs.Slots.{count_messages, count_refused, Slot, changed_at}
use Rattle.bufr_archive.specs.Slots.{gains}
use Rattle.bufr_archive.specs.Runs.{frames_of_piece, frames_of_end, is_too_long, new_reports}
use Rattle.bufr_archive.specs.Runs.{changes_of, fed_answer, ended_answer, after, feed_answer}
use Rattle.bufr_archive.specs.Runs.{end_answer, IsAnswer}
use Rattle.bufr_archive.specs.Holdings.{Holding, DepotView, HoldsSlot, StandsFor}
use Rattle.bufr_archive.specs.HeldSteps.{AddsFrames, AddsSome, Feeds, Ends, StepDoes}
use Rattle.bufr_archive.specs.declared.counts.Counts.{Counts}
use Rattle.bufr_archive.specs.declared.steps.Step.{Step}
use Rattle.bufr_archive.specs.declared.steps.Step.TheVariants.{Feed, End}
use Rattle.bufr_archive.specs.declared.steps.Answer.{Answer}
use Rattle.bufr_archive.specs.declared.steps.Answer.TheVariants.{Fed, Ended}
use Rattle.bufr_archive.specs.declared.steps.StepFault.{StepFault}
use Rattle.bufr_archive.specs.declared.steps.StepFault.TheVariants.{NoSlot, StreamTooLong}
use Rattle.bufr_archive.specs.declared.steps.StepFault.TheVariants.{OutOfMemory}
use Rattle.bufr_archive.proofs.ListFacts.{both, each_of, front_of}
use Rattle.bufr_archive.proofs.RunFacts.{among-append}

-- ---- two lists, member by member

module _ {A B : Type 0} (R : A → B → Type 0) where
  pub zip_at : (xs : List A) (ys : List B) (i : ℕ) (x : A) → AllZip R xs ys
      → slice_get xs i ≡ Some x → (y : B) × (slice_get ys i ≡ Some y) × R x y
  zip_at [] ys i x z h = absurd cc
  zip_at (a ∷ xs) [] i x z h = absurd z
  zip_at (a ∷ xs) (b ∷ ys) zero x z h =
      let e : a ≡ x = cc in (b, refl, subst (λ k. R k b) e z.0)
  zip_at (a ∷ xs) (b ∷ ys) (suc i) x z h = zip_at xs ys i x z.1 h

  pub zip_none : (xs : List A) (ys : List B) (i : ℕ) → AllZip R xs ys → slice_get xs i ≡ None
      → slice_get ys i ≡ None
  zip_none [] [] i z h = refl
  zip_none [] (b ∷ ys) i z h = absurd z
  zip_none (a ∷ xs) [] i z h = absurd z
  zip_none (a ∷ xs) (b ∷ ys) zero z h = absurd cc
  zip_none (a ∷ xs) (b ∷ ys) (suc i) z h = zip_none xs ys i z.1 h

pub zip_set : (tables : Entries) (hs : List Holding) (ss : List Slot) (i : ℕ) (k : Holding)
    (s : Slot) (change : Slot → Slot) → AllZip (HoldsSlot tables) hs ss → slice_get ss i ≡ Some s
    → HoldsSlot tables k (change s)
    → AllZip (HoldsSlot tables) (set hs i k) (changed_at ss i change)
zip_set tables [] [] i k s change z h r = tt
zip_set tables [] (b ∷ ss) i k s change z h r = absurd z
zip_set tables (a ∷ hs) [] i k s change z h r = absurd z
zip_set tables (a ∷ hs) (b ∷ ss) zero k s change z h r =
    let e : b ≡ s = cc in (subst (λ t. HoldsSlot tables k (change t)) (sym e) r, z.1)
zip_set tables (a ∷ hs) (b ∷ ss) (suc i) k s change z h r =
    (z.0, zip_set tables hs ss i k s change z.1 h r)

pub set_same : {A : Type 0} (xs : List A) (i : ℕ) (x : A) → slice_get xs i ≡ Some x
    → set xs i x ≡ xs
set_same xs i x e =
    ap (set xs i) (sym (get_or_from_slice_get xs i x x e)) ∙ set-get_or xs i x

-- ---- archives of reports

entries-append : (tables : Entries) (rs qs : List Report)
    → entries_of (report_entries tables (rs ++ qs))
    ≡ entries_of (report_entries tables rs) ++ entries_of (report_entries tables qs)
entries-append tables rs qs =
    ap entries_of (map-append (entry_of tables) rs qs)
    ∙ flat_map-append option_to_list (report_entries tables rs) (report_entries tables qs)

archive_more : (tables : Entries) (rs qs : List Report)
    → taken_in (archive_of tables rs) (report_entries tables qs) ≡ archive_of tables (rs ++ qs)
archive_more tables rs qs =
    ap (λ (es : List Entry). record { tables = tables; entries = es })
    (kept-early (entries_of (report_entries tables rs)) (entries_of (report_entries tables qs))
    ∙ ap kept (sym (entries-append tables rs qs)))

pub archive_joined : (tables : Entries) (rs qs : List Report)
    → merged (archive_of tables rs) (archive_of tables qs) ≡ archive_of tables (rs ++ qs)
archive_joined tables rs qs =
    ap (λ (es : List Entry). record { tables = tables; entries = es })
    (kept-early (entries_of (report_entries tables rs)) (kept_of tables qs)
    ∙ kept-late (entries_of (report_entries tables rs)) (entries_of (report_entries tables qs))
    ∙ ap kept (sym (entries-append tables rs qs)))

-- ---- the reports of frames

parted_under : (tables : Entries) (all fs gs : List Found) → all ≡ fs ++ gs
    → AreUnder tables (reports_among tables all)
    → AreUnder tables (reports_among tables fs) × AreUnder tables (reports_among tables gs)
parted_under tables all fs gs parts under =
    each_of (IsUnder tables) (reports_among tables fs) (reports_among tables gs)
    (subst (AreUnder tables) (ap (reports_among tables) parts ∙ among-append tables fs gs) under)

end_under : ReportsToldAreUnder → (tables : Entries) (s : List ℕ) → AreOctets s
    → AreUnder tables (reports_among tables (sure s))
    × AreUnder tables (reports_among tables (frames_of_end s))
end_under told_under tables s all =
    parted_under tables (cut s) (sure s) (frames_of_end s) (cut-end s) (told_under tables s all)

piece_under : ReportsToldAreUnder → (tables : Entries) (s piece : List ℕ)
    → AreOctets (s ++ piece) → AreUnder tables (reports_among tables (frames_of_piece s piece))
piece_under told_under tables s piece all =
    (parted_under tables (sure (s ++ piece)) (sure s) (frames_of_piece s piece)
    (sure-piece s piece) (end_under told_under tables (s ++ piece) all).0).1

-- ---- one slot

archive_all : (tables : Entries) (h k : ArchiveView) (rs : List Report) (frames : List Found)
    (counts : Counts) → h ≡ archive_of tables rs → AddsFrames h k frames counts
    → k ≡ archive_of tables (rs ++ reports_among tables frames)
archive_all tables h k rs frames counts is adds =
    subst (λ (a : ArchiveView). k
    ≡ taken_in a (report_entries a.tables (reports_among a.tables frames))) is adds.archive
    ∙ archive_more tables rs (reports_among tables frames)

archive_some : (tables : Entries) (h k : ArchiveView) (rs : List Report) (frames : List Found)
    (n : ℕ) → h ≡ archive_of tables rs → AddsSome h k frames n
    → (n ≤ length (reports_among tables frames))
    × (k ≡ archive_of tables (rs ++ take n (reports_among tables frames)))
archive_some tables h k rs frames n is adds =
    let told = reports_among tables frames in
    let same : AddsSome (archive_of tables rs) k frames n =
    subst (λ a. AddsSome a k frames n) is adds in
    let few : n ≤ length (report_entries tables told) = same.few in
    let long = length-map told (entry_of tables) in (
      omega (arith, few, long),
      same.archive ∙ ap (taken_in (archive_of tables rs)) (take-map (entry_of tables) n told)
          ∙ archive_more tables rs (take n told),
    )

counts_are : (tables : Entries) (h k : ArchiveView) (slot : Slot) (frames : List Found)
    (counts : Counts) (answer : ℕ → ℕ → ℕ → Answer) → h ≡ archive_of tables slot.reports
    → AddsFrames h k frames counts
    → answer counts.messages counts.refused counts.changed
    ≡ answer (count_messages tables frames) (count_refused tables frames)
    (changes_of tables frames slot)
counts_are tables h k slot frames counts answer is adds =
    let old = entries_of (report_entries tables slot.reports) in
    let new = entries_of (report_entries tables (reports_among tables frames)) in
    let same : AddsFrames (archive_of tables slot.reports) k frames counts =
    subst (λ a. AddsFrames a k frames counts) is adds in
    let changed : counts.changed ≡ changes_of tables frames slot =
    same.changed ∙ count_kept old new in
    let m = count_messages tables frames in
    let r = count_refused tables frames in
    ap (λ x. answer x counts.refused counts.changed) same.messages
    ∙ ap (λ x. answer m x counts.changed) same.refused ∙ ap (answer m r) changed

pub none_taken : Stands new_framing [] 0
none_taken = record { fed = refl; out_of_sure = omega arith; held = refl }

fits : (framer : Framing) (s piece : List ℕ) (out : ℕ) → Stands framer s out
    → framer.fed + length piece < 2 ^ 64 → is_too_long s piece ≡ false
fits framer s piece out st room =
    let fed = st.fed in
    let most = 2 ^ 64 - 1 in
    le-ltb (2 ^ 64 - 1) (length s + length piece) (omega (arith, fed, room))

too_long : (framer : Framing) (s piece : List ℕ) (out : ℕ) → Stands framer s out
    → 2 ^ 64 - 1 < framer.fed + length piece → is_too_long s piece ≡ true
too_long framer s piece out st room =
    let fed = st.fed in
    lt-ltb (2 ^ 64 - 1) (length s + length piece) (omega (arith, fed, room))

-- ---- steps with one slot

pub none_there : (d e : DepotView) (i n : ℕ) (piece : List ℕ) → e ≡ d → n ≡ length e.slots → n ≤ i
    → StepDoes d d (Feed i piece) (Err (NoSlot i)) × StepDoes d d (End i) (Err (NoSlot i))
none_there d e i n piece same long past =
    let none = slice_get_past d.slots i
    (subst (λ m. m ≤ i) (long ∙ ap (λ (x : DepotView). length x.slots) same) past) in (
      record {
        tables = refl;
        answer = λ slots z. ap (feed_answer d.tables i piece)
            (zip_none (HoldsSlot d.tables) d.slots slots i z none);
        slots = λ slots z. z;
      },
      record {
        tables = refl;
        answer = λ slots z. ap (end_answer d.tables i)
            (zip_none (HoldsSlot d.tables) d.slots slots i z none);
        slots = λ slots z. z;
      },
    )

module _ (told_under : ReportsToldAreUnder) (whole d : DepotView) (i count : ℕ) (h k : Holding)
    (view : d ≡ whole) (count_is : count ≡ length d.slots) (below : i < count)
    (read : h ≡ get_or d.slots i h) where
  -- the depot with one slot changed
  abbrev changed : DepotView
  changed = record d { slots = set d.slots i k }

  there : slice_get d.slots i ≡ Some h
  there = slice_get_read d.slots count i h count_is below read

  by_slot : (step : Step) (result : Result Answer StepFault) (change : Slot → Slot)
      → ((slots : List Slot) → changed_at slots i change ≡ after d.tables step result slots)
      → ((slots : List Slot) (s : Slot) → slice_get slots i ≡ Some s → HoldsSlot d.tables h s
      → IsAnswer d.tables step slots result × HoldsSlot d.tables k (change s))
      → StepDoes whole changed step result
  by_slot step result change leaves each =
      subst (λ (x : DepotView). StepDoes x changed step result) view (record {
        tables = refl;
        answer = λ slots z. let s = zip_at (HoldsSlot d.tables) d.slots slots i h z there in
            (each slots s.0 s.1 s.2).0;
        slots = λ slots z. let s = zip_at (HoldsSlot d.tables) d.slots slots i h z there in
            subst (StandsFor changed) (leaves slots)
            (zip_set d.tables d.slots slots i k s.0 change z s.1 (each slots s.0 s.1 s.2).1);
      })

  some_held : (frames : List Found) (n : ℕ) (s : Slot) → HoldsSlot d.tables h s
      → AreUnder d.tables (reports_among d.tables frames) → k.framer ≡ h.framer
      → AddsSome h.archive k.archive frames n
      → (n ≤ length (reports_among d.tables frames))
      × HoldsSlot d.tables k (gains (take n (reports_among d.tables frames)) s)
  some_held frames n s holds under stays adds =
      let rs = reports_among d.tables frames in
      let out = length (sure s.open_stream) in
      let some = archive_some d.tables h.archive k.archive s.reports frames n holds.archive adds
      in (
        some.0,
        record {
          under = both (IsUnder d.tables) s.reports (take n rs) holds.under
              (front_of (IsUnder d.tables) n rs under);
          archive = some.1;
          octets = holds.octets;
          framer = subst (λ f. Stands f s.open_stream out) (sym stays) holds.framer;
        },
      )

  brings : (piece : List ℕ) (s : Slot) → HoldsSlot d.tables h s
      → h.framer.fed + length piece < 2 ^ 64 → AreOctets piece
      → (is_too_long s.open_stream piece ≡ false) × AreOctets (s.open_stream ++ piece)
      × AreUnder d.tables (reports_among d.tables (frames_of_piece s.open_stream piece))
  brings piece s holds room all =
      let stream = s.open_stream in
      let octets : AreOctets (stream ++ piece) =
      All-append (λ (x : ℕ). x < 2 ^ 8) stream piece holds.octets all in (
        fits h.framer stream piece (length (sure stream)) holds.framer room,
        octets,
        piece_under told_under d.tables stream piece octets,
      )

  fed_slot : (piece : List ℕ) (answer : Answer) (s : Slot) → HoldsSlot d.tables h s
      → Feeds h k piece (Ok answer)
      → (feed_answer d.tables i piece (Some s) ≡ Ok answer)
      × HoldsSlot d.tables k
      (record (gains (new_reports d.tables (Feed i piece) s) s) {
        open_stream = s.open_stream ++ piece;
      })
  fed_slot piece answer s holds feeds =
      let t = d.tables in
      let out = length (sure s.open_stream) in
      let frames = frames_of_piece s.open_stream piece in
      let b = brings piece s holds feeds.0 feeds.1 in
      let short = b.0 in
      let f = feeds.3 s.open_stream out holds.framer in
      let new : new_reports t (Feed i piece) s ≡ reports_among t frames = rw short refl in
      let counted = counts_are t h.archive k.archive s frames f.0 Fed holds.archive f.2 in (
        rw short (ap Ok (sym counted ∙ sym f.1)),
        record {
          under = both (IsUnder t) s.reports (new_reports t (Feed i piece) s) holds.under
              (subst (AreUnder t) (sym new) b.2);
          archive = archive_all t h.archive k.archive s.reports frames f.0 holds.archive f.2
              ∙ ap (λ rs. archive_of t (s.reports ++ rs)) (sym new);
          octets = b.1;
          framer = feeds.2 s.open_stream out holds.framer;
        },
      )

  fed_some : (piece : List ℕ) (n : ℕ) (s : Slot) → HoldsSlot d.tables h s
      → Feeds h k piece (Err (OutOfMemory n))
      → (feed_answer d.tables i piece (Some s)
      ≡ Ok (fed_answer d.tables (frames_of_piece s.open_stream piece) s))
      × ((n ≤ length (new_reports d.tables (Feed i piece) s))
      × HoldsSlot d.tables k (gains (take n (new_reports d.tables (Feed i piece) s)) s))
  fed_some piece n s holds feeds =
      let t = d.tables in
      let frames = frames_of_piece s.open_stream piece in
      let b = brings piece s holds feeds.0 feeds.1 in
      let short = b.0 in
      let new : new_reports t (Feed i piece) s ≡ reports_among t frames = rw short refl in (
        rw short refl,
        subst (λ rs. (n ≤ length rs) × HoldsSlot t k (gains (take n rs) s)) (sym new)
            (some_held frames n s holds b.2 feeds.2
            (feeds.3 s.open_stream (length (sure s.open_stream)) holds.framer)),
      )

  pub feed_does : (piece : List ℕ) (result : Result Answer StepFault) → Feeds h k piece result
      → StepDoes whole changed (Feed i piece) result
  feed_does piece (Ok answer) feeds =
      by_slot (Feed i piece) (Ok answer) _ (λ slots. refl) (λ slots s e holds.
      let f = fed_slot piece answer s holds feeds in
      (ap (feed_answer d.tables i piece) e ∙ f.0, f.1))
  feed_does piece (Err (NoSlot j)) feeds = absurd feeds
  feed_does piece (Err StreamTooLong) feeds =
      let same = ap (set d.slots i) feeds.1 ∙ set_same d.slots i h there in
      let result : Result Answer StepFault = Err StreamTooLong in
      subst (λ (x : DepotView). StepDoes x changed (Feed i piece) result) view (record {
        tables = refl;
        answer = λ slots z. let s = zip_at (HoldsSlot d.tables) d.slots slots i h z there in
            let out = length (sure s.0.open_stream) in
            let long = too_long h.framer s.0.open_stream piece out s.2.framer feeds.0 in
            ap (feed_answer d.tables i piece) s.1 ∙ (rw long refl);
        slots = λ slots z. subst (λ (hs : List Holding). AllZip (HoldsSlot d.tables) hs slots)
            (sym same) z;
      })
  feed_does piece (Err (OutOfMemory n)) feeds =
      by_slot (Feed i piece) (Err (OutOfMemory n)) _ (λ slots. refl) (λ slots s e holds.
      let f = fed_some piece n s holds feeds in (
        record {
          few = rw e f.1.0;
          answer = fed_answer d.tables (frames_of_piece s.open_stream piece) s;
          else_done = ap (feed_answer d.tables i piece) e ∙ f.0;
        },
        f.1.1,
      ))

  ended_slot : (answer : Answer) (s : Slot) → HoldsSlot d.tables h s → Ends h k (Ok answer)
      → (end_answer d.tables i (Some s) ≡ Ok answer)
      × HoldsSlot d.tables k
      (record (gains (new_reports d.tables (End i) s) s) {
        ended = s.ended ++ s.open_stream ∷ [];
        open_stream = [];
      })
  ended_slot answer s holds ends =
      let t = d.tables in
      let out = length (sure s.open_stream) in
      let frames = frames_of_end s.open_stream in
      let f = ends.1 s.open_stream out holds.framer in
      let counted = counts_are t h.archive k.archive s frames f.0 Ended holds.archive f.2 in (
        ap Ok (sym counted ∙ sym f.1),
        record {
          under = both (IsUnder t) s.reports (reports_among t frames) holds.under
              (end_under told_under t s.open_stream holds.octets).1;
          archive = archive_all t h.archive k.archive s.reports frames f.0 holds.archive f.2;
          octets = All-nil (λ (x : ℕ). x < 2 ^ 8);
          framer = subst (λ v. Stands v [] 0) (sym ends.0) none_taken;
        },
      )

  pub end_does : (result : Result Answer StepFault) → Ends h k result
      → StepDoes whole changed (End i) result
  end_does (Ok answer) ends =
      by_slot (End i) (Ok answer) _ (λ slots. refl) (λ slots s e holds.
      let f = ended_slot answer s holds ends in (ap (end_answer d.tables i) e ∙ f.0, f.1))
  end_does (Err (NoSlot j)) ends = absurd ends
  end_does (Err StreamTooLong) ends = absurd ends
  end_does (Err (OutOfMemory n)) ends =
      by_slot (End i) (Err (OutOfMemory n)) _ (λ slots. refl) (λ slots s e holds.
      let frames = frames_of_end s.open_stream in
      let under = (end_under told_under d.tables s.open_stream holds.octets).1 in
      let f = some_held frames n s holds under ends.0
      (ends.1 s.open_stream (length (sure s.open_stream)) holds.framer) in (
        record {
          few = rw e f.0;
          answer = ended_answer d.tables frames s;
          else_done = ap (end_answer d.tables i) e;
        },
        f.1,
      ))

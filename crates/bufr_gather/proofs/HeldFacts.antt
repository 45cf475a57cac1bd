-- Texts with marks: for `read_marks`, and `read`, `merge` and `origins_with` of `ArchiveText`.
use Rattle.std.proofs.Common.{◌≡◌, ℕ, ◌+◌, ◌<◌, ◌≤◌, List, [], ◌∷◌, ◌++◌, length, drop, Option}
use Rattle.std.proofs.Common.{IsErrAnd, Some, None, Result, Ok, Err, refl, sym, ap, subst, ◌∙◌, arith}
use Rattle.std.specs.Prelude.{option_map}
use Rattle.std.specs.Option.{option_to_list}
use Rattle.std.proofs.lemmas.List.{length-drop, length-map, map-append, append-nil}
use Rattle.std.specs.List.{AllByRecursion, flat_map}
use Rattle.std.specs.List.Sorted.{IsStrictlySortedBy}
use Rattle.bufr_tables.specs.Entries.{Entries}
use Rattle.bufr_sections.specs.Sections.{AreOctets}
use Rattle.bufr_entries.specs.declared.entry.Entry.{Entry}
use Rattle.bufr_entries.specs.Entries.{slot_cmp, kept}
use Rattle.bufr_entries.specs.Marks.{SlotView}
use Rattle.bufr_entries.specs.Orders.{kept-are, kept-kept}
use Rattle.bufr_gather.specs.declared.merged_octets.EntrySource.{EntrySource}
use Rattle.bufr_gather.specs.declared.merging_texts.Unmerged.{Unmerged}
use Rattle.bufr_gather.specs.declared.reading.ReadEntry.{ReadEntry}
use Rattle.bufr_gather.specs.Archives.{ArchiveView, merged}
use Rattle.bufr_gather.specs.ArchiveTexts.{entries_or_none, entries_in, IsTextOf, marks_or}
use Rattle.bufr_gather.specs.ArchiveTexts.{AreInOrder, AreLeft, AreMerged}
use Rattle.bufr_gather.specs.MergedOctets.{handed_out, marks_out, HandOutMerged}
use Rattle.bufr_gather.specs.Reading.{read, archive_or, archive_read}
use Rattle.bufr_gather.specs.declared.reading.NotAnArchive.{NotAnArchive}
use Rattle.bufr_base.specs.Answers.{Fails, Gives}
use Rattle.bufr_base.specs.declared.failure.Failure.{Failure}
use Rattle.bufr_base.specs.declared.failure.Failure.TheVariants.{Fault, OutOfMemory}
use Rattle.bufr_gather.specs.ReportEntries.{IsReportEntry, entry_in}
use Rattle.bufr_gather.specs.ReportLaws.{ReportsAreEntries}
use Rattle.bufr_gather.specs.Texts.{text, mark_of, marks_of, right_entry, summary, entries_read}
use Rattle.bufr_gather.specs.ReadFacts.{ReadSoFar, read_more, read_all, read_stops}
use Rattle.bufr_gather.specs.TextFacts.{kept_each, read_are_texts, texts_are_read}
use Rattle.bufr_gather.proofs.TextMergeFacts.{merged_are}

-- an archive of these entries
abbrev seen : Entries → List Entry → ArchiveView
seen tables es = record { tables = tables; entries = es }

-- ---- entries with their marks read

-- the mark of the last entry, if there is one
abbrev last_mark : Option Entry → List SlotView
last_mark before = option_to_list (option_map mark_of before)

-- these marks and that of the last entry are those of the entries read, and these octets are left
pub record MarkedSoFar (tables : Entries) (octets : List ℕ) (before : Option Entry) (place : ℕ)
    (rest : List ℕ) (marks : List SlotView) : Type 0 where
  pub entries : List Entry
  pub read_so_far : ReadSoFar (IsReportEntry tables) octets entries before place rest
  pub marked : marks ++ last_mark before ≡ marks_of entries
  pub left : place + length rest ≡ length octets

pub marked_none : (tables : Entries) (octets : List ℕ) (marks : List SlotView) → AreOctets octets
    → marks ≡ [] → MarkedSoFar tables octets None 0 octets marks
marked_none tables octets marks all none = record {
  entries = [];
  read_so_far = record { run = tt; last = refl; parts = refl; there = refl; some = all };
  marked = append-nil marks ∙ none;
  left = omega arith;
}

module _ (laws : ReportsAreEntries) (tables : Entries) where
  pub marked_more : (octets : List ℕ) (before : Option ReadEntry) (place : ℕ) (rest : List ℕ)
      (marks marks' : List SlotView) (found : Option ReadEntry) (entry : ReadEntry)
      → MarkedSoFar tables octets (option_map read before) place rest marks
      → option_map read found ≡ right_entry (entry_in tables) (option_map read before) rest
      → found ≡ Some entry → marks' ≡ marks ++ last_mark (option_map read before)
      → (12 ≤ length (read entry).bytes) × (length (read entry).bytes ≤ length rest)
      × MarkedSoFar tables octets (Some (read entry)) (place + length (read entry).bytes)
      (drop (length (read entry).bytes) rest) marks'
  marked_more octets before place rest marks marks' found entry s answered is more =
      let e = read entry in
      let m = read_more (IsReportEntry tables) (entry_in tables) (laws tables) octets s.entries
      before place rest found entry s.read_so_far answered is in
      let within = m.1 in
      let left = s.left in
      let behind = length-drop (length e.bytes) rest in (
        m.0,
        m.1,
        record {
          entries = s.entries ++ e ∷ [];
          read_so_far = m.2;
          marked = ap (λ (ms : List SlotView). ms ++ mark_of e ∷ []) (more ∙ s.marked)
              ∙ sym (map-append mark_of s.entries (e ∷ []));
          left = omega arith;
        },
      )

  pub marked_all : (octets : List ℕ) (before : Option Entry) (place : ℕ) (rest : List ℕ)
      (marks marks' : List SlotView) → MarkedSoFar tables octets before place rest marks
      → length rest ≡ 0 → marks' ≡ marks ++ last_mark before
      → marks_or (entries_read (entry_in tables) octets) ≡ Ok marks'
  marked_all octets before place rest marks marks' s none more =
      ap marks_or (read_all (IsReportEntry tables) (entry_in tables) (laws tables) octets s.entries
      before place rest s.read_so_far none)
      ∙ ap Ok (sym (more ∙ s.marked))

  pub marked_stops : (octets : List ℕ) (before : Option Entry) (place : ℕ) (rest : List ℕ)
      (marks : List SlotView) → MarkedSoFar tables octets before place rest marks
      → 0 < length rest → right_entry (entry_in tables) before rest ≡ None
      → marks_or (entries_read (entry_in tables) octets) ≡ Err (record { place = place })
  marked_stops octets before place rest marks s some none =
      ap marks_or (read_stops (IsReportEntry tables) (entry_in tables) (laws tables) octets
      s.entries before place rest s.read_so_far some none)

  -- ---- texts

  pub held : (octets : List ℕ) (marks : List SlotView) → AreOctets octets
      → marks_or (entries_read (entry_in tables) octets) ≡ Ok marks
      → IsTextOf tables octets marks (entries_in tables octets)
  held octets marks all told = by (entries_read (entry_in tables) octets) refl told
    where
      by : (x : Result (List Entry) ℕ) → entries_read (entry_in tables) octets ≡ x
          → marks_or x ≡ Ok marks → IsTextOf tables octets marks (entries_in tables octets)
      by (Ok es) is told =
          let are : entries_in tables octets ≡ es = ap entries_or_none is in
          let t = read_are_texts (IsReportEntry tables) (entry_in tables) (laws tables) octets es
          all is in
          let own : marks_of es ≡ marks = cc in
          subst (IsTextOf tables octets marks) (sym are)
          (record { each = t.0; says = t.1; all_kept = t.2; marked = sym own })
      by (Err place) is told = absurd cc

-- ---- what reading returns: for `read_marks` and `ArchiveText::read`

pub handed_on : {X Y F : Type 0} (view : X → Y) (x : Result X (Failure F)) (e : Failure F)
    (meant : Result Y F) → IsErrAnd x (λ y. y ≡ e) → Fails e meant → Gives view x meant
handed_on view (Err f) e meant handed told = subst (λ g. Fails g meant) (sym handed) told
handed_on view (Ok a) e meant handed told = absurd handed

seen_read : (tables : Entries) (octets : List ℕ) (marks : List SlotView)
    → marks_or (entries_read (entry_in tables) octets) ≡ Ok marks
    → archive_read tables octets ≡ Ok (seen tables (entries_in tables octets))
seen_read tables octets marks = by (entries_read (entry_in tables) octets)
  where
    by : (x : Result (List Entry) ℕ) → marks_or x ≡ Ok marks
        → archive_or tables x ≡ Ok (seen tables (entries_or_none x))
    by (Ok es) told = refl
    by (Err place) told = absurd cc

pub text_read : (message_reader tables : Entries) (lent shrunk octets : List ℕ) (marks : List SlotView)
    → message_reader ≡ tables → lent ≡ shrunk → shrunk ≡ octets
    → marks_or (entries_read (entry_in message_reader) lent) ≡ Ok marks
    → archive_read tables octets ≡ Ok (seen tables (entries_in tables shrunk))
text_read message_reader tables lent shrunk octets marks same is was told =
    ap (archive_read tables) (sym (is ∙ was))
    ∙ seen_read tables lent marks
    (subst (λ (t : Entries). marks_or (entries_read (entry_in t) lent) ≡ Ok marks) same told)
    ∙ ap (λ (o : List ℕ). Ok (seen tables (entries_in tables o))) is

text_fails : (message_reader tables : Entries) (lent octets : List ℕ) (e : Failure NotAnArchive)
    → message_reader ≡ tables → lent ≡ octets
    → Fails e (marks_or (entries_read (entry_in message_reader) lent))
    → Fails e (archive_read tables octets)
text_fails message_reader tables lent octets e same is told =
    by e (entries_read (entry_in tables) octets)
    (subst (λ (t : Entries). Fails e (marks_or (entries_read (entry_in t) octets))) same
    (subst (λ (o : List ℕ). Fails e (marks_or (entries_read (entry_in message_reader) o))) is told))
  where
    by : (e : Failure NotAnArchive) (x : Result (List Entry) ℕ) → Fails e (marks_or x)
        → Fails e (archive_or tables x)
    by OutOfMemory x told = tt
    by (Fault f) (Ok es) told = absurd cc
    by (Fault f) (Err place) told =
        let place_is : record { place = place } ≡ f = cc in ap Err place_is

pub text_stops : (message_reader tables : Entries) (lent octets : List ℕ) (e : Failure NotAnArchive)
    (x : Result ArchiveView (Failure NotAnArchive)) → IsErrAnd x (λ y. y ≡ e)
    → message_reader ≡ tables → lent ≡ octets
    → Fails e (marks_or (entries_read (entry_in message_reader) lent))
    → Gives (λ a. a) x (archive_read tables octets)
text_stops message_reader tables lent octets e (Err f) handed same is told =
    text_fails message_reader tables lent octets f same is
    (subst (λ (g : Failure NotAnArchive).
    Fails g (marks_or (entries_read (entry_in message_reader) lent))) (sym handed) told)
text_stops message_reader tables lent octets e (Ok a) handed same is told = absurd handed

module _ (laws : ReportsAreEntries) (tables : Entries) where
  -- ---- merged texts

  each_of_both : (P : Entry → Type 0) (es fs : List Entry) → AllByRecursion P es
      → AllByRecursion P fs → AllByRecursion P (es ++ fs)
  each_of_both P [] fs a b = b
  each_of_both P (e ∷ es) fs a b = (a.0, each_of_both P es fs a.1 b)

  pub held_merged : (left right octets : List ℕ) (own others marks : List SlotView)
      (es fs : List Entry) → IsTextOf tables left own es → IsTextOf tables right others fs
      → AreMerged es fs octets marks
      → (entries_in tables octets ≡ kept (es ++ fs))
      × IsTextOf tables octets marks (entries_in tables octets)
  held_merged left right octets own others marks es fs l r both =
      let all = es ++ fs in
      let each = each_of_both (IsReportEntry tables) es fs l.each r.each in
      let are : entries_in tables octets ≡ kept all =
      ap (entries_in tables) both.text_is
      ∙ ap entries_or_none
      (texts_are_read (IsReportEntry tables) (entry_in tables) (laws tables) all each) in
      let held : IsTextOf tables octets marks (kept all) = record {
        each = kept_each (IsReportEntry tables) all each;
        says = both.text_is;
        all_kept = kept-kept all;
        marked = both.marked;
      } in
      (are, subst (IsTextOf tables octets marks) (sym are) held)

pub held_in_order : (tables : Entries) (octets : List ℕ) (marks : List SlotView)
    (es : List Entry) → IsTextOf tables octets marks es → AreInOrder tables es
held_in_order tables octets marks es t = record {
  each = t.each;
  ordered = subst (IsStrictlySortedBy slot_cmp) t.all_kept (kept-are es).ordered;
}

pub held_many : (tables : Entries) (octets : List ℕ) (marks : List SlotView) (es : List Entry)
    → IsTextOf tables octets marks es → length marks ≡ length es
held_many tables octets marks es t = ap length t.marked ∙ length-map es mark_of

pub held_none : (tables : Entries) (octets : List ℕ) (marks : List SlotView) (es : List Entry)
    → IsTextOf tables octets marks es → length marks ≡ 0 → es ≡ []
held_none tables octets marks [] t none = refl
held_none tables octets marks (e ∷ es) t none =
    let many = held_many tables octets marks (e ∷ es) t in absurd (omega arith)

nothing_in : (tables : Entries) → entries_in tables [] ≡ []
unfolding summary
nothing_in tables = refl

pub held_nothing : (tables : Entries) (octets : List ℕ) (marks : List SlotView) → octets ≡ []
    → marks ≡ [] → IsTextOf tables octets marks (entries_in tables octets)
held_nothing tables octets marks is are =
    let none : IsTextOf tables [] marks [] =
    record { each = tt; says = refl; all_kept = refl; marked = are } in
    subst (λ (o : List ℕ). IsTextOf tables o marks (entries_in tables o)) (sym is)
    (subst (IsTextOf tables [] marks) (sym (nothing_in tables)) none)

pub seen_nothing : (tables : Entries) (octets : List ℕ) → octets ≡ []
    → entries_in tables octets ≡ []
seen_nothing tables octets is = ap (entries_in tables) is ∙ nothing_in tables

pub merged_held : ReportsAreEntries → (tables others : Entries)
    (left right left' right' octets : List ℕ) (own more marks : List SlotView)
    (origins : List EntrySource) → tables ≡ others → left' ≡ left → right' ≡ right
    → IsTextOf tables left own (entries_in tables left)
    → IsTextOf others right more (entries_in others right)
    → HandOutMerged (entries_in tables left) (entries_in others right) origins
    → octets ≡ flat_map (λ (o : List ℕ). o) (handed_out origins left' right')
    → marks ≡ marks_out origins own more
    → (seen tables (entries_in tables octets)
    ≡ merged (seen tables (entries_in tables left)) (seen others (entries_in others right)))
    × IsTextOf tables octets marks (entries_in tables octets)
merged_held laws tables others left right left' right' octets own more marks origins same left_is
    right_is l r hand joined out =
    let es = entries_in tables left in
    let fs = entries_in others right in
    let there : IsTextOf tables right more fs =
    subst (λ (t : Entries). IsTextOf t right more fs) (sym same) r in
    let both = merged_are es fs origins octets marks hand
    (joined
    ∙ ap (λ (o : List ℕ). flat_map (λ (o : List ℕ). o) (handed_out origins o right'))
    (left_is ∙ l.says)
    ∙ ap (λ (o : List ℕ). flat_map (λ (o : List ℕ). o) (handed_out origins (text es) o))
    (right_is ∙ r.says))
    (out ∙ ap (λ (ms : List SlotView). marks_out origins ms more) l.marked
    ∙ ap (marks_out origins (marks_of es)) r.marked) in
    let h = held_merged laws tables left right octets own more marks es fs l there both in
    (ap (seen tables) h.0, h.1)

pub origins_held : (tables others : Entries) (left right left' right' : List ℕ)
    (own more own' more' : List SlotView) (P : List Entry → List Entry → Type 0) (most : ℕ)
    (first other : Unmerged) → tables ≡ others → left' ≡ left → right' ≡ right → own' ≡ own
    → more' ≡ more → most ≡ length own + length more
    → IsTextOf tables left own (entries_in tables left)
    → IsTextOf others right more (entries_in others right)
    → ((tables : Entries) (es : List Entry) → AreInOrder tables es → own' ≡ marks_of es
    → left' ≡ text es → AreLeft tables es first)
    → ((tables : Entries) (es : List Entry) → AreInOrder tables es → more' ≡ marks_of es
    → right' ≡ text es → AreLeft tables es other)
    → ((tables : Entries) (es fs : List Entry) → AreLeft tables es first
    → AreLeft tables fs other → length es + length fs ≤ most → P es fs)
    → P (entries_in tables left) (entries_in others right)
origins_held tables others left right left' right' own more own' more' P most first other same
    left_is right_is own_is more_is many l r lefts rights told =
    let es = entries_in tables left in
    let fs = entries_in others right in
    let there : IsTextOf tables right more fs =
    subst (λ (t : Entries). IsTextOf t right more fs) (sym same) r in
    let n = held_many tables left own es l in
    let m = held_many tables right more fs there in
    told tables es fs
    (lefts tables es (held_in_order tables left own es l) (own_is ∙ l.marked)
    (left_is ∙ l.says))
    (rights tables fs (held_in_order tables right more fs there) (more_is ∙ r.marked)
    (right_is ∙ r.says)) (omega arith)

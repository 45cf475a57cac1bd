-- Reading a text entry by entry: for `right_entry` and `Archive::read_entries`.
use Rattle.std.proofs.Common.{◌≡◌, ℕ, ◌+◌, ◌-◌, ◌<◌, ◌≤◌, ◌^◌, Bool, true, cond, List, [], ◌∷◌, ◌++◌, length}
use Rattle.std.proofs.Common.{drop, Option, Some, None, Ok, Err, refl, sym, ap, subst, ◌∙◌, arith}
use Rattle.std.proofs.Common.{append_assoc, length-append}
use Rattle.std.specs.Option.{option_map}
use Rattle.std.proofs.lemmas.List.{append-nil, drop_at}
use Rattle.std.proofs.lemmas.List.Elements.{All-drop}
use Rattle.bufr_base.specs.Answers.{result_map}
use Rattle.bufr_entries.specs.declared.entry.Entry.{Entry}
use Rattle.bufr_entries.specs.Entries.{kept}
use Rattle.bufr_sections.specs.Sections.{AreOctets}
use Rattle.bufr_gather.specs.Texts.{text, comes_after, right_entry, entry_then, summary}
use Rattle.bufr_gather.specs.Texts.{entries_read}
use Rattle.bufr_tables.specs.Entries.{Entries}
use Rattle.bufr_gather.specs.EntryLaws.{HasEntryLaws}
use Rattle.bufr_gather.specs.MergedOctets.{first_octets}
use Rattle.bufr_gather.specs.ReportEntries.{IsReportEntry, entry_in}
use Rattle.bufr_gather.specs.ReportLaws.{ReportsAreEntries}
use Rattle.bufr_gather.specs.Reading.{read}
use Rattle.bufr_gather.specs.declared.reading.ReadEntry.{ReadEntry}
use Rattle.bufr_gather.specs.TextLemmas.{text-push}
use Rattle.bufr_gather.specs.EntryFacts as facts
use Rattle.bufr_gather.specs.JudgeFacts.{last_of}
use Rattle.bufr_gather.specs.JudgeFacts as judging
use Rattle.bufr_gather.specs.TextFacts as texts

last_more : (before : Option Entry) (es : List Entry) (e : Entry)
    → last_of before (es ++ e ∷ []) ≡ Some e
last_more before [] e = refl
last_more before (f ∷ fs) e = last_more (Some f) fs e

-- these entries are read, and these octets are left
pub record ReadSoFar (is_entry : Entry → Type 0) (octets : List ℕ) (entries : List Entry)
    (before : Option Entry) (place : ℕ) (rest : List ℕ) : Type 0 where
  pub run : judging.IsRun is_entry None entries
  pub last : last_of None entries ≡ before
  pub parts : octets ≡ text entries ++ rest
  pub there : place ≡ length (text entries)
  pub some : AreOctets rest

module _ (laws : ReportsAreEntries) (tables : Entries) (before : Option Entry)
    (octets front : List ℕ) (found : Option ReadEntry) where
  pub right_none : front ≡ first_octets octets → option_map read found ≡ entry_in tables front
      → found ≡ None → None ≡ right_entry (entry_in tables) before octets
  right_none first answered none =
      facts.right_by_first (IsReportEntry tables) (entry_in tables) (laws tables) before octets
      None (sym (ap (option_map read) none) ∙ answered ∙ ap (entry_in tables) first)

  pub right_told : (entry : ReadEntry) (b : Bool) → front ≡ first_octets octets
      → option_map read found ≡ entry_in tables front → found ≡ Some entry
      → comes_after before (read entry) ≡ b
      → cond b (Some (read entry)) None ≡ right_entry (entry_in tables) before octets
  right_told entry b first answered some told =
      ap (λ x. cond x (Some (read entry)) None) (sym told)
      ∙ facts.right_by_first (IsReportEntry tables) (entry_in tables) (laws tables) before octets
      (Some (read entry)) (sym (ap (option_map read) some) ∙ answered ∙ ap (entry_in tables) first)

module _ (is_entry : Entry → Type 0) (entry_in : List ℕ → Option Entry)
    (laws : HasEntryLaws is_entry entry_in) where
  run_more : (before : Option Entry) (es : List Entry) (e : Entry)
      → judging.IsRun is_entry before es → is_entry e → comes_after (last_of before es) e ≡ true
      → judging.IsRun is_entry before (es ++ e ∷ [])
  run_more before [] e run is after = (is, after, tt)
  run_more before (f ∷ fs) e run is after =
      (run.0, run.1, run_more (Some f) fs e run.2 is after)

  pub read_more : (octets : List ℕ) (es : List Entry) (before : Option ReadEntry) (place : ℕ)
      (rest : List ℕ) (found : Option ReadEntry) (entry : ReadEntry)
      → ReadSoFar is_entry octets es (option_map read before) place rest
      → option_map read found ≡ right_entry entry_in (option_map read before) rest
      → found ≡ Some entry
      → (12 ≤ length (read entry).bytes) × (length (read entry).bytes ≤ length rest)
      × ReadSoFar is_entry octets (es ++ read entry ∷ []) (Some (read entry))
      (place + length (read entry).bytes) (drop (length (read entry).bytes) rest)
  read_more octets es before place rest found entry s answered is =
      let e = read entry in
      let right = sym answered ∙ ap (option_map read) is in
      let k = facts.right_takes is_entry entry_in laws (option_map read before) rest e s.some right
      in
      let after = ap (λ b. comes_after b e) s.last ∙ k.after in
      let run = run_more None es e s.run k.entry after in
      let behind : drop (length e.bytes) rest ≡ k.more =
      ap (drop (length e.bytes)) k.is ∙ drop_at e.bytes k.more (length e.bytes) refl in
      let there = s.there in
      let long : length (text (es ++ e ∷ [])) ≡ length (text es) + length e.bytes =
      ap length (text-push es e) ∙ length-append (text es) e.bytes in
      let size : length rest ≡ length e.bytes + length k.more =
      ap length k.is ∙ length-append e.bytes k.more in
      let left = drop (length e.bytes) rest in
      let next = place + length e.bytes in
      let so_far : ReadSoFar is_entry octets (es ++ e ∷ []) (Some e) next left = record {
        run = run;
        last = last_more None es e;
        parts = s.parts
            ∙ ap (λ (r : List ℕ). text es ++ r)
            (k.is ∙ ap (λ (m : List ℕ). e.bytes ++ m) (sym behind))
            ∙ sym (append_assoc (text es) e.bytes left)
            ∙ ap (λ (t : List ℕ). t ++ left) (sym (text-push es e));
        there = omega arith;
        some = All-drop (λ x. x < 2 ^ 8) (length e.bytes) rest s.some;
      } in (
        judging.long_entry is_entry entry_in laws e k.entry,
        omega (arith, size),
        so_far,
      )

  pub read_next : (octets : List ℕ) (es : List Entry) (before : Option ReadEntry) (place : ℕ)
      (rest : List ℕ) (found : Option ReadEntry) (entry : ReadEntry)
      → ReadSoFar is_entry octets es (option_map read before) place rest
      → option_map read found ≡ right_entry entry_in (option_map read before) rest
      → found ≡ Some entry
      → (12 ≤ length (read entry).bytes) × (length (read entry).bytes ≤ length rest)
      × ReadSoFar is_entry octets (kept (es ++ read entry ∷ [])) (Some (read entry))
      (place + length (read entry).bytes) (drop (length (read entry).bytes) rest)
  read_next octets es before place rest found entry s answered is =
      let e = read entry in
      let m = read_more octets es before place rest found entry s answered is in
      let same : es ++ e ∷ [] ≡ kept (es ++ e ∷ []) =
      sym (texts.kept_of_run is_entry entry_in laws None (es ++ e ∷ []) m.2.run) in (
        m.0,
        m.1,
        subst (λ (xs : List Entry). ReadSoFar is_entry octets xs (Some e)
            (place + length e.bytes) (drop (length e.bytes) rest)) same m.2,
      )

  pub read_all : (octets : List ℕ) (es : List Entry) (before : Option Entry) (place : ℕ)
      (rest : List ℕ) → ReadSoFar is_entry octets es before place rest → length rest ≡ 0
      → entries_read entry_in octets ≡ Ok es
  unfolding summary
  read_all octets es before place [] s none =
      ap (summary entry_in None 0 0) s.parts
      ∙ judging.judged_past is_entry entry_in laws None 0 es [] s.run ∙ ap Ok (append-nil es)
  read_all octets es before place (x ∷ rest) s none = absurd (omega arith)

  pub read_stops : (octets : List ℕ) (es : List Entry) (before : Option Entry) (place : ℕ)
      (rest : List ℕ) → ReadSoFar is_entry octets es before place rest → 0 < length rest
      → right_entry entry_in before rest ≡ None → entries_read entry_in octets ≡ Err place
  unfolding summary
  read_stops octets es before place [] s some none = absurd (omega arith)
  read_stops octets es before place (x ∷ rest) s some none =
      let wrong : right_entry entry_in (last_of None es) (x ∷ rest) ≡ None =
      ap (λ b. right_entry entry_in b (x ∷ rest)) s.last ∙ none in
      let here = 0 + length (text es) in
      let at : here ≡ place =
      (let z : 0 + length (text es) ≡ length (text es) = omega arith in z) ∙ sym s.there in
      ap (summary entry_in None 0 0) s.parts
      ∙ judging.judged_past is_entry entry_in laws None 0 es (x ∷ rest) s.run
      ∙ ap (λ (o : Option Entry). result_map (λ fs. es ++ fs) (entry_then o here
      (λ e. summary entry_in (Some e) (here + 1) (length e.bytes - 1) rest))) wrong
      ∙ ap Err at

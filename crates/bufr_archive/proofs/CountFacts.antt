-- Messages of frames, added one by one: for the answers of `Depot::step`.
use Rattle.std.proofs.Common.{◌≡◌, ℕ, zero, suc, ◌+◌, ◌*◌, ◌<◌, ◌≤◌, ◌^◌, Bool, true, false, not}
use Rattle.std.proofs.Common.{cond, Option, Some, None, Result, Ok, Err, IfOk, is_ok, List, [], ◌∷◌}
use Rattle.std.proofs.Common.{◌++◌, length, take, get_or, Fits, w8, refl, sym, ap, ◌∙◌, subst}
use Rattle.std.proofs.Common.{arith, append_assoc, length-append}
use Rattle.std.specs.Prelude.{option_to_list}
use Rattle.std.proofs.lemmas.List.{append-nil, map-append, length-map, take_more, take-append-le}
use Rattle.std.proofs.Math.Seq.{take-append-add}
use Rattle.std.proofs.lemmas.List.Elements.{All-from_get_or}
use Rattle.std.proofs.lemmas.List.Sums.{count_by_more_no, count_by_more_yes}
use Rattle.std.proofs.lemmas.Grind.{flat_map-append}
use Rattle.bufr_tables.specs.Entries.{Entries}
use Rattle.bufr_frame.specs.declared.frames.Found.{Found}
use Rattle.bufr_sections.specs.declared.message.Decoded.{Decoded}
use Rattle.bufr_sections.specs.Sections.{AreOctets}
use Rattle.bufr_sections.specs.declared.fault.Refused.{Refused as Refusal}
use Rattle.bufr_message.specs.Messages.{message_of}
use Rattle.bufr_message.specs.Reports.{reports_of, reports_read, reports_in, report_of}
use Rattle.bufr_message.specs.Laws.{MessagesReadAreSpelt}
use Rattle.bufr_entries.specs.declared.entry.Entry.{Entry}
use Rattle.bufr_entries.specs.Entries.{kept, changes}
use Rattle.bufr_entries.specs.Orders.{kept-early}
use Rattle.bufr_gather.specs.Archives.{ArchiveView, taken_in, entries_of, IsKept}
use Rattle.bufr_archive.specs.Adding.{count_changes}
use Rattle.bufr_archive.proofs.ChangeCounts.{count_kept, count_more}
use Rattle.bufr_gather.specs.ReportEntries.{entry_of, report_entries, entries_told}
use Rattle.bufr_archive.specs.Adding.{AddsMessage}
use Rattle.bufr_archive.specs.declared.adding.Added.{Added}
use Rattle.bufr_gather.specs.declared.add_fault.AddFault.{AddFault}
use Rattle.bufr_gather.specs.declared.add_fault.AddFault.TheVariants.{Refused, OutOfMemory}
use Rattle.bufr_gather.specs.StreamsTold.{spells, reports_among}
use Rattle.bufr_archive.specs.Slots.{count_messages, count_refused}
use Rattle.bufr_archive.specs.Holdings.{Holding}
use Rattle.bufr_archive.specs.HeldSteps.{AddsFrames, AddsSome}
use Rattle.bufr_archive.specs.declared.counts.Counts.{Counts}

-- ---- changes

one_at_most : (b : Bool) → cond b 1 0 ≤ 1
one_at_most true = omega arith
one_at_most false = omega arith

count_few : (old es : List Entry) → count_changes old es ≤ length es
count_few old [] = omega arith
count_few old (e ∷ es) =
    let rest = count_few (old ++ e ∷ []) es in
    let one = one_at_most (changes old e) in
    omega (arith, rest, one)

entries_few : (rs : List (Option Entry)) → length (entries_of rs) ≤ length rs
entries_few [] = omega arith
entries_few (None ∷ rs) = let rest = entries_few rs in omega (arith, rest)
entries_few (Some e ∷ rs) = let rest = entries_few rs in omega (arith, rest)

-- ---- one message

pub octets_are : (xs : List ℕ) → ((i : ℕ) → Fits w8 (get_or xs i 0)) → AreOctets xs
octets_are xs each = All-from_get_or (λ (x : ℕ). x < 2 ^ 8) xs 0 (λ i below. omega (arith, each i))

few_reports : MessagesReadAreSpelt → (tables : Entries) (octets : List ℕ) (d : Decoded)
    → AreOctets octets → message_of tables octets ≡ Ok d
    → length (report_entries tables (reports_of d.message)) < 2 ^ 16
few_reports read tables octets d all e =
    let spelt = read tables octets d all e in
    let few = spelt.fits.count in
    let long = length-map (reports_of d.message) (entry_of tables) in
    let each = length-map d.message.subsets (report_of d.message) in
    omega (arith, few, long, each)

pub added_few : MessagesReadAreSpelt → (old new : ArchiveView) (octets : List ℕ)
    (result : Result Added AddFault) → AreOctets octets → AddsMessage old new octets result
    → IfOk result (λ (added : Added). added.reports < 2 ^ 16)
added_few read old new octets (Ok added) all h =
    let few = few_reports read old.tables octets h.0 all h.1 in
    let count = h.2.reports_added in omega (arith, few, count)
added_few read old new octets (Err fault) all h = tt

pub changed_few : (old new : ArchiveView) (octets : List ℕ)
    (result : Result Added AddFault) → AddsMessage old new octets result
    → IfOk result (λ (added : Added). added.changed ≤ added.reports)
changed_few old new octets (Ok added) h =
    let rs = report_entries old.tables (reports_of h.0.message) in
    let all = h.2.reports_added in let some = h.2.changed in
    let few = count_few old.entries (entries_of rs) in
    let each = entries_few rs in
    omega (arith, few, each, all, some)
changed_few old new octets (Err fault) h = tt

few_told : MessagesReadAreSpelt → (tables : Entries) (octets : List ℕ)
    → AreOctets octets → length (entries_told tables octets) < 2 ^ 16
few_told read tables octets all =
    elim (message_of tables octets) as
    (λ m. message_of tables octets ≡ m
    → length (report_entries tables (reports_read m)) < 2 ^ 16) [
      | Ok d ↦ λ e. few_reports read tables octets d all e
      | Err why ↦ λ e. omega arith
    ] refl

pub done_few : MessagesReadAreSpelt → (old new : ArchiveView) (octets : List ℕ)
    (result : Result Added AddFault) → AreOctets octets → AddsMessage old new octets result
    → (k : ℕ) → result ≡ Err (OutOfMemory k) → k < 2 ^ 16
done_few read old new octets (Ok added) all h k e = absurd cc
done_few read old new octets (Err (Refused why)) all h k e = absurd cc
done_few read old new octets (Err (OutOfMemory n)) all h k e =
    let same : n ≡ k = cc in
    let few = h.few in let told = few_told read old.tables octets all in
    omega (arith, few, told, same)

-- ---- frames

-- the entries of the reports of frames
abbrev pub entries_among : Entries → List Found → List (Option Entry)
entries_among tables frames = report_entries tables (reports_among tables frames)

entries_among-append : (tables : Entries) (fs gs : List Found)
    → entries_among tables (fs ++ gs) ≡ entries_among tables fs ++ entries_among tables gs
entries_among-append tables fs gs =
    ap (report_entries tables) (flat_map-append (λ (f : Found). reports_in tables f.bytes) fs gs)
    ∙ map-append (entry_of tables) (reports_among tables fs) (reports_among tables gs)

entries_more : (tables : Entries) (fs : List Found) (i : ℕ) (f : Found) → i < length fs
    → entries_among tables (take (i + 1) fs)
    ≡ entries_among tables (take i fs) ++ entries_told tables (get_or fs i f).bytes
entries_more tables fs i f h =
    ap (entries_among tables) (take_more fs i f h)
    ∙ entries_among-append tables (take i fs) (get_or fs i f ∷ [])
    ∙ ap (λ rs. entries_among tables (take i fs) ++ report_entries tables rs)
    (append-nil (reports_in tables (get_or fs i f).bytes))

-- the first i frames are done
pub record SoFar (old new : ArchiveView) (frames : List Found) (i : ℕ) (counts : Counts)
    (joined : ℕ) : Type 0 where
  pub archive : new ≡ taken_in old (entries_among old.tables (take i frames))
  pub messages : counts.messages ≡ count_messages old.tables (take i frames)
  pub refused : counts.refused ≡ count_refused old.tables (take i frames)
  pub changed : counts.changed ≡ count_changes old.entries
      (entries_of (entries_among old.tables (take i frames)))
  pub joined_is : joined ≡ length (entries_among old.tables (take i frames))
  pub few : joined ≤ 65536 * i
  pub changed_few : counts.changed ≤ joined
  pub messages_few : counts.messages ≤ i
  pub refused_few : counts.refused ≤ i

pub added_none : (a : ArchiveView) (fs : List Found) → IsKept a → AddsSome a a fs 0
added_none a fs order = record {
  few = omega arith;
  archive = ap (λ es. record a { entries = es })
      (sym order ∙ ap kept (sym (append-nil a.entries)));
}

pub none_yet : (archive : ArchiveView) (frames : List Found) → IsKept archive
    → SoFar archive archive frames 0 (record { messages = 0; refused = 0; changed = 0 }) 0
none_yet archive frames order = record {
  archive = (added_none archive frames order).archive;
  messages = refl;
  refused = refl;
  changed = refl;
  joined_is = refl;
  few = omega arith;
  changed_few = omega arith;
  messages_few = omega arith;
  refused_few = omega arith;
}

taken_twice : (old new next : ArchiveView) (rs qs : List (Option Entry))
    → new ≡ taken_in old rs → next ≡ taken_in new qs → next ≡ taken_in old (rs ++ qs)
taken_twice old new next rs qs first second =
    second
    ∙ ap (λ (a : ArchiveView). record a { entries = kept (a.entries ++ entries_of qs) }) first
    ∙ ap (λ es. record old { entries = es })
    (kept-early (old.entries ++ entries_of rs) (entries_of qs)
    ∙ ap kept (append_assoc old.entries (entries_of rs) (entries_of qs)
    ∙ ap (λ (es : List Entry). old.entries ++ es) (sym (flat_map-append option_to_list rs qs))))

same_tables : (old new : ArchiveView) (rs : List (Option Entry)) → new ≡ taken_in old rs
    → new.tables ≡ old.tables
same_tables old new rs is = ap (λ (a : ArchiveView). a.tables) is

pub one_added : (old new next : ArchiveView) (fs : List Found) (i : ℕ) (f : Found)
    (counts : Counts) (joined : ℕ) (added : Added) → i < length fs
    → SoFar old new fs i counts joined → AddsMessage new next (get_or fs i f).bytes (Ok added)
    → added.reports < 2 ^ 16 → added.changed ≤ added.reports
    → SoFar old next fs (i + 1)
    (record counts {
      messages = counts.messages + 1;
      changed = counts.changed + added.changed;
    })
    (joined + added.reports)
one_added old new next fs i f counts joined added h s adds few changes =
    let t = old.tables in
    let octets = (get_or fs i f).bytes in
    let before = entries_among t (take i fs) in
    let same = same_tables old new before s.archive in
    let d = adds.0 in
    let spelt : message_of t octets ≡ Ok d = subst (λ u. message_of u octets ≡ Ok d) same adds.1 in
    let one : report_entries new.tables (reports_of d.message) ≡ entries_told t octets =
    ap (λ u. report_entries u (reports_of d.message)) same
    ∙ ap (report_entries t) (sym (ap reports_read spelt)) in
    let more = entries_more t fs i f h in
    let held : new.entries ≡ kept (old.entries ++ entries_of before) =
    ap (λ (a : ArchiveView). a.entries) s.archive in
    let next_is : next ≡ taken_in new (entries_told t octets) =
    adds.2.archive ∙ ap (taken_in new) one in
    let changed_one : added.changed ≡ count_changes (old.entries ++ entries_of before)
    (entries_of (entries_told t octets)) =
    adds.2.changed ∙ ap (λ rs. count_changes new.entries (entries_of rs)) one
    ∙ ap (λ es. count_changes es (entries_of (entries_told t octets))) held
    ∙ count_kept (old.entries ++ entries_of before) (entries_of (entries_told t octets)) in
    let changed_all : count_changes old.entries (entries_of (entries_among t (take (i + 1) fs)))
    ≡ count_changes old.entries (entries_of before)
    + count_changes (old.entries ++ entries_of before) (entries_of (entries_told t octets)) =
    ap (λ rs. count_changes old.entries (entries_of rs)) more
    ∙ ap (count_changes old.entries) (flat_map-append option_to_list before (entries_told t octets))
    ∙ count_more old.entries (entries_of before) (entries_of (entries_told t octets)) in
    let reports_one : added.reports ≡ length (entries_told t octets) =
    adds.2.reports_added ∙ ap length one in
    let reports_all : length (entries_among t (take (i + 1) fs))
    ≡ length before + length (entries_told t octets) =
    ap length more ∙ length-append before (entries_told t octets) in
    let is_message : spells t octets ≡ true = ap is_ok spelt in
    let c = s.changed in let j = s.joined_is in let k = s.few in let l = s.changed_few in
    let m = s.messages_few in let r = s.refused_few in
    record {
      archive = taken_twice old new next before (entries_told t octets) s.archive next_is
          ∙ ap (taken_in old) (sym more);
      messages = ap (λ n. n + 1) s.messages
          ∙ sym (count_by_more_yes (λ (g : Found). spells t g.bytes) fs i f h is_message);
      refused = s.refused
          ∙ sym (count_by_more_no (λ (g : Found). not (spells t g.bytes)) fs i f h
          (ap not is_message));
      changed = omega (arith, c, changed_one, changed_all);
      joined_is = omega (arith, j, reports_one, reports_all);
      few = omega (arith, k, few);
      changed_few = omega (arith, l, changes);
      messages_few = omega (arith, m);
      refused_few = omega (arith, r);
    }

pub one_refused : (old new next : ArchiveView) (fs : List Found) (i : ℕ) (f : Found)
    (counts : Counts) (joined : ℕ) (fault : AddFault) → i < length fs
    → SoFar old new fs i counts joined → AddsMessage new next (get_or fs i f).bytes (Err fault)
    → ((k : ℕ) → fault ≡ OutOfMemory k → ⊥)
    → SoFar old next fs (i + 1) (record counts { refused = counts.refused + 1 }) joined
one_refused old new next fs i f counts joined (OutOfMemory k) h s adds not_memory =
    absurd (not_memory k refl)
one_refused old new next fs i f counts joined (Refused why) h s adds not_memory =
    let t = old.tables in
    let octets = (get_or fs i f).bytes in
    let before = entries_among t (take i fs) in
    let same = same_tables old new before s.archive in
    let spelt : message_of t octets ≡ Err why =
    subst (λ u. message_of u octets ≡ Err why) same adds.0 in
    let none : entries_told t octets ≡ [] =
    ap (report_entries t) (ap reports_read spelt) in
    let more : entries_among t (take (i + 1) fs) ≡ before =
    entries_more t fs i f h ∙ ap (λ rs. before ++ rs) none ∙ append-nil before in
    let is_none : spells t octets ≡ false = ap is_ok spelt in
    let k = s.few in let m = s.messages_few in let r = s.refused_few in
    record {
      archive = adds.1 ∙ s.archive ∙ ap (taken_in old) (sym more);
      messages = s.messages
          ∙ sym (count_by_more_no (λ (g : Found). spells t g.bytes) fs i f h is_none);
      refused = ap (λ n. n + 1) s.refused
          ∙ sym (count_by_more_yes (λ (g : Found). not (spells t g.bytes)) fs i f h
          (ap not is_none));
      changed = s.changed ∙ ap (λ rs. count_changes old.entries (entries_of rs)) (sym more);
      joined_is = s.joined_is ∙ ap length (sym more);
      few = omega (arith, k);
      changed_few = s.changed_few;
      messages_few = omega (arith, m);
      refused_few = omega (arith, r);
    }

parted : (fs : List Found) (i : ℕ) (f : Found) → i < length fs
    → (more : List Found) × (fs ≡ take i fs ++ get_or fs i f ∷ more)
parted [] i f h = absurd (omega arith)
parted (g ∷ fs) zero f h = (fs, refl)
parted (g ∷ fs) (suc i) f h =
    let r = parted fs i f (omega arith) in (r.0, ap (λ gs. g ∷ gs) r.1)

pub ran_out : (old new next : ArchiveView) (fs : List Found) (i : ℕ) (f : Found)
    (counts : Counts) (joined : ℕ) (fault : AddFault) (k : ℕ) → i < length fs
    → SoFar old new fs i counts joined → AddsMessage new next (get_or fs i f).bytes (Err fault)
    → fault ≡ OutOfMemory k → AddsSome old next fs (joined + k)
ran_out old new next fs i f counts joined (Refused why) k h s adds e = absurd cc
ran_out old new next fs i f counts joined (OutOfMemory n) k h s adds e =
    let t = old.tables in
    let octets = (get_or fs i f).bytes in
    let before = entries_among t (take i fs) in
    let here = entries_told t octets in
    let same = same_tables old new before s.archive in
    let n_is : n ≡ k = cc in
    let told : entries_told new.tables octets ≡ here = ap (λ u. entries_told u octets) same in
    let p = parted fs i f h in
    let all : entries_among t fs ≡ before ++ (here ++ entries_among t p.0) =
    ap (entries_among t) p.1
    ∙ entries_among-append t (take i fs) (get_or fs i f ∷ p.0)
    ∙ ap (λ rs. before ++ rs)
    (map-append (entry_of t) (reports_in t octets) (reports_among t p.0)) in
    let fewer : k ≤ length here =
    let a = adds.few in let b = ap length told in omega (arith, a, b, n_is) in
    let long : length (entries_among t fs)
    ≡ length before + (length here + length (entries_among t p.0)) =
    ap length all ∙ length-append before (here ++ entries_among t p.0)
    ∙ ap (λ m. length before + m) (length-append here (entries_among t p.0)) in
    let j = s.joined_is in
    let next_is : next ≡ taken_in new (take k here) =
    adds.archive ∙ ap (λ rs. taken_in new (take n rs)) told
    ∙ ap (λ m. taken_in new (take m here)) n_is in
    let front : take (joined + k) (entries_among t fs) ≡ before ++ take k here =
    ap (λ m. take (m + k) (entries_among t fs)) j ∙ ap (take (length before + k)) all
    ∙ take-append-add before (here ++ entries_among t p.0) k
    ∙ ap (λ rs. before ++ rs) (take-append-le k here (entries_among t p.0) fewer) in
    record {
      few = omega (arith, j, long, fewer);
      archive = taken_twice old new next before (take k here) s.archive next_is
          ∙ ap (taken_in old) (sym front);
    }

pub all_added : (old new : ArchiveView) (fs : List Found) (i : ℕ) (counts : Counts) (joined : ℕ)
    → take i fs ≡ fs → SoFar old new fs i counts joined → AddsFrames old new fs counts
all_added old new fs i counts joined whole s = record {
  archive = s.archive ∙ ap (λ gs. taken_in old (entries_among old.tables gs)) whole;
  messages = s.messages ∙ ap (count_messages old.tables) whole;
  refused = s.refused ∙ ap (count_refused old.tables) whole;
  changed = s.changed
      ∙ ap (λ gs. count_changes old.entries (entries_of (entries_among old.tables gs))) whole;
}

pub moved : (old new : ArchiveView) (fs : List Found) (i : ℕ) (counts others : Counts)
    (joined all : ℕ) → SoFar old new fs i counts joined → others ≡ counts → all ≡ joined
    → SoFar old new fs i others all
moved old new fs i counts others joined all s a b =
    subst (λ k. SoFar old new fs i k all) (sym a)
    (subst (λ j. SoFar old new fs i counts j) (sym b) s)

pub octets_at : (fs : List Found) (i : ℕ) (f : Found) (octets : List ℕ) → f ≡ get_or fs i f
    → octets ≡ f.bytes → octets ≡ (get_or fs i f).bytes
octets_at fs i f octets is same = same ∙ ap (λ (g : Found). g.bytes) is

pub not_memory : (fault : AddFault) (why : Refusal) → fault ≡ Refused why → (k : ℕ)
    → fault ≡ OutOfMemory k → ⊥
not_memory fault why is k e = let no : Refused why ≡ OutOfMemory k = sym is ∙ e in absurd cc

pub of_held : (P : ArchiveView → List Found → Type 0) (held h : Holding)
    (frames others : List Found) → held ≡ h → frames ≡ others → P held.archive frames
    → P h.archive others
of_held P held h frames others is same p =
    subst (λ (k : Holding). P k.archive others) is (subst (P held.archive) same p)

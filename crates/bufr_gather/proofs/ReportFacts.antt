-- The entries of reports: for `laws::reports_are_entries`.
use Rattle.std.proofs.Common.{◌≡◌, ℕ, ◌+◌, ◌-◌, ◌*◌, ◌/◌, ◌%◌, ◌^◌, ◌<◌, Bool, true, false, cond}
use Rattle.std.proofs.Common.{List, [], ◌∷◌, ◌++◌, length, take, drop, Option, Some, None, Result, Ok, Err, refl}
use Rattle.std.proofs.Common.{sym, ap, subst, ◌∙◌, arith, length-append, get_or}
use Rattle.std.specs.Prelude.{codes, option_map, slice_get, IfSome}
use Rattle.std.proofs.lemmas.Option.{cond_some, same_Some, slice_get-map, slice_get-get_or, get_or_from_slice_get}
use Rattle.std.specs.Int.{bytes_high_first}
use Rattle.std.specs.List.{AllByRecursion}
use Rattle.std.proofs.lemmas.List.{drop_at, length-map}
use Rattle.std.proofs.lemmas.Slice.Eq.{bytes_eq-Decides}
use Rattle.bufr_tables.specs.Entries.{Entries}
use Rattle.bufr_frame.specs.Starts.{sevens}
use Rattle.bufr_frame.specs.Cuts.{IsOneFrame}
use Rattle.bufr_sections.specs.declared.layout.Layout.{Layout}
use Rattle.bufr_fields.specs.declared.field.Subset.{Subset}
use Rattle.bufr_sections.specs.declared.message.Decoded.{Decoded}
use Rattle.bufr_sections.specs.declared.message.Message.{Message}
use Rattle.bufr_sections.specs.declared.fault.Refused.{Refused}
use Rattle.bufr_sections.specs.Sections.{Envelope, Ignored, EnvelopeFits, sections, enclosed}
use Rattle.bufr_sections.specs.Sections.{spelling, edition_number}
use Rattle.bufr_message.specs.declared.report.Report.{Report}
use Rattle.bufr_message.specs.declared.report.ReportHead.{ReportHead}
use Rattle.bufr_sections.specs.declared.message.Head.{Head}
use Rattle.bufr_entries.specs.declared.key.Key.{Key}
use Rattle.bufr_report_keys.specs.Keys.{key}
use Rattle.bufr_message.specs.Messages.{message_of, Spells}
use Rattle.bufr_message.specs.OwnBits.{CanonicalIsOwn, spelt_alone}
use Rattle.bufr_message.specs.Laws.{MessagesReadAreSpelt, BareAreWritten}
use Rattle.bufr_message.specs.Reports.{without_local, report_of, reports_of, reports_read, reports_in, canonical}
use Rattle.bufr_message.specs.Reports.{IsCanonical, IsUnder, CanonicalIsRead}
use Rattle.bufr_message.specs.Reports.{ReportsSpeltAreUnder}
use Rattle.bufr_report_keys.specs.Usable.{◌>>=◌}
use Rattle.bufr_entries.specs.declared.entry.Entry.{Entry}
use Rattle.bufr_entries.specs.Marks.{SlotView}
use Rattle.bufr_entries.specs.Pages.{marked}
use Rattle.bufr_sections.specs.Sections.{AreOctets}
use Rattle.bufr_gather.specs.ReportEntries.{AreUnder, entry_of, entry_with, IsReportEntry}
use Rattle.bufr_gather.specs.ReportEntries.{is_canonical, only_one, own_entry, entry_in}
use Rattle.bufr_gather.specs.ReportEntries.{key_of, report_entries, spelt_at, spelt_entry, spelt_entries}
use Rattle.bufr_gather.specs.ReportEntries.{entry_spelt}
use Rattle.bufr_gather.specs.ReportLaws.{ReportsAreEntries}
use Rattle.bufr_gather.specs.EntryFacts.{bind_some}
use Rattle.bufr_gather.specs.ReportTextFacts.{canonical_is}

-- ---- octets of a message are one frame

three_is : (n : ℕ) → n < 2 ^ 24
    → 65536 * (n / 2 ^ 16 % 256) + 256 * (n / 2 ^ 8 % 256) + n % 256 ≡ n
three_is n h = omega arith

enclosed_is_frame : (layout : Layout) (middle : List ℕ) → 12 + length middle < 2 ^ 24
    → IsOneFrame (enclosed layout middle)
enclosed_is_frame layout middle small =
    let n = 12 + length middle in
    let whole = enclosed layout middle in
    let front : List ℕ =
    codes "BUFR" ++ bytes_high_first 3 n ++ edition_number layout ∷ middle in
    let long : length whole ≡ n = omega (arith, length-append middle (codes "7777")) in
    let behind : length whole - 4 ≡ length front =
    omega (arith, length-append middle (codes "7777")) in
    record {
      mark = refl;
      told = ap Some (three_is n small ∙ sym long);
      long = omega arith;
      whole = omega arith;
      end = ap (λ k. take 4 (drop k (front ++ sevens))) behind
          ∙ ap (take 4) (drop_at front sevens (length front) refl);
    }

spelling_is_frame : (layout : Layout) (e : Envelope) (i : Ignored) → EnvelopeFits layout e i
    → IsOneFrame (spelling layout e i)
unfolding spelling
spelling_is_frame layout e i fits =
    let middle = sections layout e i in
    let total : length (enclosed layout middle) < 2 ^ 24 = fits.total in
    enclosed_is_frame layout middle (omega (arith, length-append middle (codes "7777")))

-- ---- an entry in its octets

canonical_is_frame : (tables : Entries) (r : Report) (octets : List ℕ)
    → IsCanonical tables r octets → IsOneFrame octets
canonical_is_frame tables r octets c =
    let s = c.spelt.spells in
    subst IsOneFrame (sym s.spelled) (spelling_is_frame _ _ _ s.fits)

is_canonical_of : BareAreWritten → (tables : Entries) (r : Report) (octets : List ℕ)
    → IsUnder tables r → canonical tables r ≡ Some octets → IsCanonical tables r octets
is_canonical_of written tables r octets u e =
    subst (IsCanonical tables r)
    (same_Some u.0 octets (sym (canonical_is written tables r u.0 u.1) ∙ e)) u.1

entry_found : BareAreWritten → CanonicalIsRead → (tables : Entries) (r : Report)
    (octets : List ℕ) → IsCanonical tables r octets
    → entry_in tables octets ≡ Some (entry_with r octets)
entry_found written reads tables r octets c =
    let one = (reads tables r octets c).1 in
    let known = canonical_is written tables r octets c in
    let own : own_entry tables octets r ≡ Some (entry_with r octets) =
    ap (λ x. cond (is_canonical x octets) (Some (entry_with r octets)) None) known
    ∙ ap (λ b. cond b (Some (entry_with r octets)) None)
    ((bytes_eq-Decides octets octets).1 refl) in
    ap (λ rs. only_one rs >>= own_entry tables octets) one ∙ own

-- ---- octets with an entry

pub only_one_is : (rs : List Report) (r : Report) → only_one rs ≡ Some r → rs ≡ r ∷ []
only_one_is [] r e = absurd cc
only_one_is (x ∷ []) r e = ap (λ y. y ∷ []) cc
only_one_is (x ∷ y ∷ rs) r e = absurd cc

only_other : (rs : List Report) → (length rs ≡ 1 → ⊥) → only_one rs ≡ None
only_other [] other = refl
only_other (x ∷ []) other = absurd (other refl)
only_other (x ∷ y ∷ rs) other = refl

canonical_of : (x : Option (List ℕ)) (octets : List ℕ) → is_canonical x octets ≡ true
    → x ≡ Some octets
canonical_of None octets e = absurd cc
canonical_of (Some canon) octets e = ap Some ((bytes_eq-Decides canon octets).0 e)

read_one : (x : Result Decoded Refused) (r : Report) → reports_read x ≡ r ∷ []
    → (d : Decoded) × (x ≡ Ok d) × (reports_of d.message ≡ r ∷ [])
read_one (Ok d) r e = (d, refl, e)
read_one (Err fault) r e = absurd cc

read_is_under : MessagesReadAreSpelt → ReportsSpeltAreUnder → (tables : Entries) (octets : List ℕ)
    (r : Report) → AreOctets octets → reports_in tables octets ≡ r ∷ [] → IsUnder tables r
read_is_under read_spelt under tables octets r all e =
    let d = read_one (message_of tables octets) r e in
    let spells = read_spelt tables octets d.0 all d.1 in
    let each = under tables d.0.message octets d.0.slack_octets spells in
    let one = subst (AllByRecursion (IsUnder tables)) d.2 each in
    one.0

entry_takes : BareAreWritten → MessagesReadAreSpelt → ReportsSpeltAreUnder → (tables : Entries)
    (octets : List ℕ) (e : Entry) → AreOctets octets → entry_in tables octets ≡ Some e
    → IsReportEntry tables e × (e.bytes ≡ octets)
entry_takes written read_spelt under tables octets e all found =
    let r = bind_some (only_one (reports_in tables octets)) _ e found in
    let one = only_one_is (reports_in tables octets) r.0 r.1 in
    let own = entry_with r.0 octets in
    let t = cond_some (is_canonical (canonical tables r.0) octets) own e r.2 in
    let canon : IsCanonical tables r.0 octets =
    is_canonical_of written tables r.0 octets
    (read_is_under read_spelt under tables octets r.0 all one)
    (canonical_of (canonical tables r.0) octets t.0) in
    let entry : IsReportEntry tables own =
    record { report = r.0; canon = canon; is = refl } in
    (subst (IsReportEntry tables) t.1 entry, ap (λ (e : Entry). e.bytes) (sym t.1))

-- ---- reports have the laws of entries

pub reports_are_entries : MessagesReadAreSpelt → BareAreWritten → CanonicalIsRead
    → ReportsSpeltAreUnder → ReportsAreEntries
reports_are_entries read_spelt written reads under tables = record {
  found = λ e is. entry_found written reads tables is.report e.bytes is.canon ∙ ap Some (sym is.is);
  is = λ octets e all h. (entry_takes written read_spelt under tables octets e all h).0;
  own = λ octets e all h. (entry_takes written read_spelt under tables octets e all h).1;
  frame = λ e is. canonical_is_frame tables is.report e.bytes is.canon;
}

-- ---- entries by the own fields of reports: for `Archive::add_message` and `Archive::read`

pub spelt_is_entry : BareAreWritten → CanonicalIsOwn → (tables : Entries) (r : Report)
    → IsUnder tables r → spelt_entry r ≡ entry_of tables r
spelt_is_entry written own tables r u =
    ap (option_map (entry_with r))
    (own tables r u.0 u.1 ∙ sym (canonical_is written tables r u.0 u.1))

pub spelt_are_entries : BareAreWritten → CanonicalIsOwn → (tables : Entries) (rs : List Report)
    → AreUnder tables rs → spelt_entries rs ≡ report_entries tables rs
spelt_are_entries written own tables [] u = refl
spelt_are_entries written own tables (r ∷ rs) u =
    ap (λ e. e ∷ spelt_entries rs) (spelt_is_entry written own tables r u.0)
    ∙ ap (λ es. entry_of tables r ∷ es) (spelt_are_entries written own tables rs u.1)

pub none_of_more : (tables : Entries) (octets : List ℕ) (d : Decoded)
    → message_of tables octets ≡ Ok d → (length d.message.subsets ≡ 1 → ⊥)
    → None ≡ entry_in tables octets
none_of_more tables octets d is other =
    sym (ap (λ x. only_one (reports_read x) >>= own_entry tables octets) is
    ∙ ap (λ o. o >>= own_entry tables octets) (only_other (reports_of d.message)
    (λ e. other (sym (length-map d.message.subsets (report_of d.message)) ∙ e))))

one_there : (rs : List Report) → length rs ≡ 1 → (r : Report) × (rs ≡ r ∷ [])
one_there [] one = absurd (omega arith)
one_there (r ∷ []) one = (r, refl)
one_there (r ∷ s ∷ rs) one = absurd (omega arith)

own_is_spelt : BareAreWritten → CanonicalIsOwn → (tables : Entries) (octets : List ℕ) (r : Report)
    → IsUnder tables r → own_entry tables octets r ≡ entry_spelt octets r
own_is_spelt written own tables octets r u =
    ap (λ (x : Option (List ℕ)). cond (is_canonical x octets) (Some (entry_with r octets)) None)
    (canonical_is written tables r u.0 u.1 ∙ sym (own tables r u.0 u.1))

report_at : (m : Message) (k : ℕ) (s : Subset) → slice_get m.subsets k ≡ Some s
    → slice_get (reports_of m) k ≡ Some (report_of m s)
report_at m k s is =
    slice_get-map (report_of m) m.subsets k ∙ ap (option_map (report_of m)) is

-- an entry of these parts
abbrev pub of_parts : Option Key → ℕ → List ℕ → Entry
of_parts key update octets = record { key = key; update = update; bytes = octets }

pub entry_made : (m : Message) (s : Subset) (head : Head) (h : ReportHead) (found : Option Key)
    (octets own : List ℕ) → head ≡ m.head → h ≡ without_local head → found ≡ key h s.fields
    → own ≡ octets → of_parts found h.update own ≡ entry_with (report_of m s) octets
entry_made m s head h found octets own head_is h_is key_is own_is =
    ap (λ (k : Option Key). of_parts k h.update own) key_is
    ∙ ap (λ (o : List ℕ). of_parts (key h s.fields) h.update o) own_is
    ∙ ap (λ (x : ReportHead). of_parts (key x s.fields) x.update octets)
    (h_is ∙ ap without_local head_is)

pub entry_marked : (m : Message) (s : Subset) (head : Head) (h : ReportHead) (octets : List ℕ)
    (mark : SlotView) → head ≡ m.head → h ≡ without_local head
    → mark ≡ record { key = key h s.fields; update = h.update }
    → of_parts mark.key mark.update octets ≡ entry_with (report_of m s) octets
entry_marked m s head h octets mark head_is h_is mark_is =
    ap (λ (k : SlotView). of_parts k.key k.update octets) mark_is
    ∙ entry_made m s head h (key h s.fields) octets octets head_is h_is refl refl

one_spelt : BareAreWritten → CanonicalIsOwn → ReportsSpeltAreUnder → (tables : Entries)
    (octets : List ℕ) (d : Decoded) → message_of tables octets ≡ Ok d
    → Spells tables d.message octets d.slack_octets → length d.message.subsets ≡ 1
    → (r : Report) × (slice_get (reports_of d.message) 0 ≡ Some r)
    × (entry_in tables octets ≡ entry_spelt octets r)
one_spelt written own under tables octets d is spells one =
    let t =
    one_there (reports_of d.message)
    (length-map d.message.subsets (report_of d.message) ∙ one) in
    let each =
    subst (AllByRecursion (IsUnder tables)) t.1
    (under tables d.message octets d.slack_octets spells) in (
      t.0,
      ap (λ (rs : List Report). slice_get rs 0) t.1,
      ap (λ x. only_one (reports_read x) >>= own_entry tables octets) is
          ∙ ap (λ (rs : List Report). only_one rs >>= own_entry tables octets) t.1
          ∙ own_is_spelt written own tables octets t.0 each.0,
    )

one_told : (found : Option Report) (r : Report) (octets : List ℕ) (same : Bool) → found ≡ Some r
    → IfSome found (λ r. same ≡ is_canonical (spelt_alone r) octets)
    → is_canonical (spelt_alone r) octets ≡ same
one_told found r octets same is told =
    sym
    (subst (λ (o : Option Report). IfSome o (λ r. same ≡ is_canonical (spelt_alone r) octets)) is
    told)

pub none_of_other : BareAreWritten → CanonicalIsOwn → ReportsSpeltAreUnder → (tables : Entries)
    (octets : List ℕ) (d : Decoded) (same : Bool) → message_of tables octets ≡ Ok d
    → Spells tables d.message octets d.slack_octets → length d.message.subsets ≡ 1
    → IfSome (slice_get (reports_of d.message) 0)
    (λ r. same ≡ is_canonical (spelt_alone r) octets) → same ≡ false → None ≡ entry_in tables octets
none_of_other written own under tables octets d same is spells one told other =
    let t = one_spelt written own under tables octets d is spells one in
    let here = one_told _ t.0 octets same t.1 told ∙ other in
    sym (t.2 ∙ ap (λ b. cond b (Some (entry_with t.0 octets)) None) here)

pub entry_of_own : BareAreWritten → CanonicalIsOwn → ReportsSpeltAreUnder → (tables : Entries)
    (octets : List ℕ) (d : Decoded) (same : Bool) (s : Subset) (e : Entry)
    → message_of tables octets ≡ Ok d → Spells tables d.message octets d.slack_octets
    → length d.message.subsets ≡ 1
    → IfSome (slice_get (reports_of d.message) 0)
    (λ r. same ≡ is_canonical (spelt_alone r) octets) → same ≡ true
    → slice_get d.message.subsets 0 ≡ Some s
    → e ≡ entry_with (report_of d.message s) octets → Some e ≡ entry_in tables octets
entry_of_own written own under tables octets d same s e is spells one told canonical at entry =
    let t = one_spelt written own under tables octets d is spells one in
    let here = one_told _ t.0 octets same t.1 told ∙ canonical in
    let report : report_of d.message s ≡ t.0 =
    same_Some _ _ (sym (report_at d.message 0 s at) ∙ t.1) in
    ap Some (entry ∙ ap (λ (r : Report). entry_with r octets) report)
    ∙ sym (t.2 ∙ ap (λ b. cond b (Some (entry_with t.0 octets)) None) here)

-- ---- entries of a view: for `MessageReports`

viewed_at : (rs : List Report) (i : ℕ) (found : Option Entry)
    → option_map spelt_entry (slice_get rs i) ≡ Some found
    → found ≡ get_or (spelt_entries rs) i None
viewed_at rs i found told =
    sym (get_or_from_slice_get (spelt_entries rs) i found None
    (slice_get-map spelt_entry rs i ∙ told))

spelt_of : (x : Option Report) (canon : Option (List ℕ)) → option_map spelt_alone x ≡ Some canon
    → (r : Report) × (x ≡ Some r) × (spelt_entry r ≡ option_map (entry_with r) canon)
spelt_of None canon told = absurd cc
spelt_of (Some r) canon told =
    (r, refl, ap (option_map (entry_with r)) (same_Some (spelt_alone r) canon told))

pub viewed_none : (rs : List Report) (i : ℕ) (canon : Option (List ℕ))
    → option_map spelt_alone (slice_get rs i) ≡ Some canon → canon ≡ None
    → None ≡ get_or (spelt_entries rs) i None
viewed_none rs i canon told none =
    let r = spelt_of (slice_get rs i) canon told in
    viewed_at rs i None (ap (option_map spelt_entry) r.1
    ∙ ap Some (r.2 ∙ ap (option_map (entry_with r.0)) none))

-- ---- entries with octets written in place: for `ArchiveBuilder::add_one`

parts_of : (m : Message) (s : Subset) (found : Option Key) (update : ℕ)
    → found ≡ key_of (report_of m s) → update ≡ m.head.update
    → option_map (of_parts found update) (spelt_alone (report_of m s))
    ≡ spelt_entry (report_of m s)
parts_of m s found update key_is update_is =
    ap (λ (k : Option Key). option_map (of_parts k update) (spelt_alone (report_of m s))) key_is
    ∙ ap (λ (u : ℕ). option_map (of_parts (key_of (report_of m s)) u)
    (spelt_alone (report_of m s))) update_is

pub put_entry : (m : Message) (i : ℕ) (found : Option Key) (update : ℕ) → i < length m.subsets
    → IfSome (slice_get (reports_of m) i) (λ r. found ≡ key_of r) → update ≡ m.head.update
    → option_map (of_parts found update) (spelt_at (reports_of m) i)
    ≡ get_or (spelt_entries (reports_of m)) i None
put_entry m i found update there key_is update_is =
    let s : Subset = get_or m.subsets i (record { fields = [] }) in
    let at = report_at m i s (slice_get-get_or m.subsets i (record { fields = [] }) there) in
    ap (λ x. option_map (of_parts found update) (x >>= spelt_alone)) at
    ∙ parts_of m s found update
    (subst (λ x. IfSome x (λ r. found ≡ key_of r)) at key_is) update_is
    ∙ sym (get_or_from_slice_get (spelt_entries (reports_of m)) i _ None
    (slice_get-map spelt_entry (reports_of m) i ∙ ap (option_map spelt_entry) at))

pub key_there : (m : Message) (i : ℕ) (s : Subset) (head : Head) (h : ReportHead)
    (found : Option Key) → slice_get m.subsets i ≡ Some s → head ≡ m.head
    → h ≡ without_local head → found ≡ key h s.fields
    → IfSome (slice_get (reports_of m) i) (λ r. found ≡ key_of r)
key_there m i s head h found at head_is h_is key_is =
    subst (λ x. IfSome x (λ r. found ≡ key_of r)) (sym (report_at m i s at))
    (key_is ∙ ap (λ (x : ReportHead). key x s.fields) (h_is ∙ ap without_local head_is))

-- one report of a message as its builder puts it
pub subset_there : (subsets : List Subset) (i : ℕ) → i < length subsets
    → (s : Subset) × (slice_get subsets i ≡ Some s)
subset_there subsets i inside =
    (get_or subsets i (record { fields = [] }), slice_get-get_or subsets i (record { fields = [] }) inside)

pub put_slot : (m : Message) (i : ℕ) (s : Subset) (head : Head) (h : ReportHead) (slot : SlotView)
    → i < length m.subsets → slice_get m.subsets i ≡ Some s → head ≡ m.head
    → h ≡ without_local head → slot ≡ record { key = key h s.fields; update = h.update }
    → option_map (marked slot) (spelt_at (reports_of m) i)
    ≡ get_or (spelt_entries (reports_of m)) i None
put_slot m i s head h slot there at head_is h_is slot_is =
    put_entry m i slot.key slot.update there
    (key_there m i s head h slot.key at head_is h_is (ap (λ (k : SlotView). k.key) slot_is))
    (ap (λ (k : SlotView). k.update) slot_is
    ∙ ap (λ (x : ReportHead). x.update) (h_is ∙ ap without_local head_is))

asked_of : (x : Option Report) (canon : Option (List ℕ)) → option_map spelt_alone x ≡ Some canon
    → x >>= spelt_alone ≡ canon
asked_of None canon told = absurd cc
asked_of (Some r) canon told = same_Some (spelt_alone r) canon told

pub viewed_some : (m : Message) (i : ℕ) (canon : Option (List ℕ)) (octets own : List ℕ)
    (found : Option Key) (update : ℕ) → i < length m.subsets
    → option_map spelt_alone (slice_get (reports_of m) i) ≡ Some canon
    → canon ≡ Some octets → IfSome (slice_get (reports_of m) i) (λ r. found ≡ key_of r)
    → update ≡ m.head.update → own ≡ octets
    → Some (of_parts found update own) ≡ get_or (spelt_entries (reports_of m)) i None
viewed_some m i canon octets own found update there told some key_is update_is own_is =
    let spelt : spelt_at (reports_of m) i ≡ Some octets =
    asked_of (slice_get (reports_of m) i) canon told ∙ some in
    ap (λ (o : List ℕ). Some (of_parts found update o)) own_is
    ∙ sym (ap (option_map (of_parts found update)) spelt)
    ∙ put_entry m i found update there key_is update_is

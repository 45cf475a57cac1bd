-- Slots of a depot, and what merging one into another leaves: for the joins of `Depot::step`.
use Rattle.std.proofs.Common.{◌≡◌, ℕ, zero, suc, ◌+◌, ◌<◌, Some, Result, Ok, Err, List, [], ◌∷◌}
use Rattle.std.proofs.Common.{◌++◌, length, set, get_or, refl, sym, ap, ◌∙◌, subst, arith}
use Rattle.std.specs.Prelude.{slice_get}
use Rattle.std.proofs.lemmas.List.{get_or-set_same, get_or-set_other, set-set}
use Rattle.std.proofs.lemmas.List.Elements.{All-from_recursion, All-get_or}
use Rattle.std.proofs.lemmas.Option.{same_Some, slice_get_within, get_or_from_slice_get}
use Rattle.bufr_tables.specs.Entries.{Entries}
use Rattle.bufr_frame.specs.Framings.{Framing}
use Rattle.bufr_message.specs.declared.report.Report.{Report}
use Rattle.bufr_entries.specs.declared.entry.Entry.{Entry}
use Rattle.bufr_entries.specs.Entries.{kept}
use Rattle.bufr_entries.specs.Orders.{kept-early, kept-late, kept-twice}
use Rattle.bufr_gather.specs.Archives.{ArchiveView, merged, entries_of}
use Rattle.bufr_gather.specs.ReportEntries.{AreUnder, report_entries, text_of}
use Rattle.bufr_gather.specs.Texts.{text}
use Rattle.bufr_gather.specs.declared.reading.NotAnArchive.{NotAnArchive}
use Rattle.bufr_gather.specs.ReportTexts.{archive_of}
use Rattle.bufr_archive.specs.Slots.{Slot}
use Rattle.bufr_archive.specs.Holdings.{Holding, DepotView, HoldsSlot}
use Rattle.bufr_archive.specs.HeldSteps.{StepDoes, AreThere, AreAllUnder, TakesIn, IsJoin, IsAsGood}
use Rattle.bufr_archive.specs.declared.steps.Step.{Step}
use Rattle.bufr_archive.specs.declared.steps.Answer.TheVariants.{Joined}
use Rattle.bufr_archive.specs.declared.steps.StepFault.TheVariants.{OutOfMemory}
use Rattle.bufr_archive.proofs.HeldFacts.{set_same, archive_joined}
use Rattle.bufr_archive.proofs.JoinFacts.{join_done, join_ran_out, as_good}

-- ---- members of lists

pub at_below : {A : Type 0} (xs : List A) (i : ℕ) → i < length xs
    → (x : A) × (slice_get xs i ≡ Some x)
at_below [] i h = absurd (omega arith)
at_below (x ∷ xs) zero h = (x, refl)
at_below (x ∷ xs) (suc i) h = at_below xs i (omega arith)

-- ---- slots

pub are_there : (d : DepotView) (from into : ℕ) → from < length d.slots → into < length d.slots
    → AreThere d from into
are_there d from into f i =
    let s = at_below d.slots from f in let t = at_below d.slots into i in
    record { source = s.0; source_there = s.1; target = t.0; target_there = t.1 }

pub is_below : (d e : DepotView) (i n : ℕ) (h : Holding) → e ≡ d → n ≡ length e.slots
    → slice_get d.slots i ≡ Some h → i < n
is_below d e i n h same long there =
    subst (λ m. i < m) (sym long) (subst (λ (x : DepotView). i < length x.slots) (sym same)
    (slice_get_within d.slots i h there))

pub read_is : (d e : DepotView) (i : ℕ) (h k : Holding) → e ≡ d → slice_get d.slots i ≡ Some h
    → k ≡ get_or e.slots i k → k ≡ h
read_is d e i h k same there is =
    is ∙ ap (λ (x : DepotView). get_or x.slots i k) same
    ∙ get_or_from_slice_get d.slots i h k there

pub is_under : (d e : DepotView) (i : ℕ) (h : Holding) → e ≡ d → slice_get d.slots i ≡ Some h
    → AreAllUnder e.tables e.slots → h.archive.tables ≡ d.tables
is_under d e i h same there all =
    let under = subst (λ (x : DepotView). AreAllUnder x.tables x.slots) same all in
    let under_tables : Holding → Type 0 = λ k. k.archive.tables ≡ d.tables in
    subst under_tables (get_or_from_slice_get d.slots i h h there)
    (All-get_or under_tables d.slots i h (slice_get_within d.slots i h there)
    (All-from_recursion under_tables d.slots under))

-- ---- an archive that takes in another

pub held_merged : (x n a : ArchiveView) (f : Framing) (h : Holding)
    → record { archive = x; framer = f } ≡ h → n ≡ merged x a
    → record { archive = n; framer = f } ≡ record h { archive = merged h.archive a }
held_merged x n a f h is e =
    subst (λ (h : Holding). record { archive = n; framer = f }
    ≡ record h { archive = merged h.archive a }) is
    (ap (λ (z : ArchiveView). let k : Holding = record { archive = z; framer = f } in k) e)

pub held_still : (x n : ArchiveView) (f : Framing) (h : Holding)
    → record { archive = x; framer = f } ≡ h → n ≡ x → record { archive = n; framer = f } ≡ h
held_still x n f h is e =
    ap (λ (z : ArchiveView). let k : Holding = record { archive = z; framer = f } in k) e ∙ is

pub took_all : (d : DepotView) (into : ℕ) (h k : Holding) (a : ArchiveView)
    → slice_get d.slots into ≡ Some h → k ≡ record h { archive = merged h.archive a }
    → TakesIn d (record d { slots = set d.slots into k }) into a (Ok Joined)
took_all d into h k a at e =
    (h, at, ap (λ (k : Holding). record d { slots = set d.slots into k }) e)

pub took_nothing : (d : DepotView) (into : ℕ) (h k : Holding) (a : ArchiveView)
    → slice_get d.slots into ≡ Some h → k ≡ h
    → TakesIn d (record d { slots = set d.slots into k }) into a (Err (OutOfMemory 0))
took_nothing d into h k a at e = (
  refl,
  ap (λ (k : Holding). record d { slots = set d.slots into k }) e
      ∙ ap (λ (hs : List Holding). record d { slots = hs }) (set_same d.slots into h at),
)

-- ---- an archive merged with itself

twice : (tables : Entries) (rs : List Report)
    → merged (archive_of tables rs) (archive_of tables rs) ≡ archive_of tables rs
twice tables rs =
    let es = entries_of (report_entries tables rs) in
    ap (λ (es : List Entry). let a : ArchiveView = record { tables = tables; entries = es } in a)
    (kept-early es (kept es) ∙ kept-late es es ∙ kept-twice es)

pub self_joined : (d : DepotView) (from into : ℕ) → AreThere d from into → from ≡ into
    → (step : Step) → IsJoin step from into → StepDoes d d step (Ok Joined)
self_joined d from into there e step is =
    let same = same_Some there.source there.target
    (sym (ap (slice_get d.slots) (sym e) ∙ there.source_there) ∙ there.target_there) in
    let holds : (s t : Slot) → HoldsSlot d.tables there.source s → HoldsSlot d.tables there.target t
    → there.target.archive ≡ archive_of d.tables (t.reports ++ s.reports) = λ s t hs ht.
    let both : archive_of d.tables s.reports ≡ archive_of d.tables t.reports =
    sym hs.archive ∙ ap (λ (h : Holding). h.archive) same ∙ ht.archive in
    ht.archive ∙ sym (twice d.tables t.reports)
    ∙ ap (merged (archive_of d.tables t.reports)) (sym both)
    ∙ archive_joined d.tables t.reports s.reports in
    subst (λ (hs : List Holding). StepDoes d (record d { slots = hs }) step (Ok Joined))
    (set_same d.slots into there.target there.target_there)
    (join_done d from into there there.target.archive holds step is)

-- ---- an archive taken out, merged into and put back

module _ (d : DepotView) (from into : ℕ) (there : AreThere d from into) (apart : from ≡ into → ⊥)
    (h h2 h3 k1 k2 : Holding) (at : h ≡ get_or d.slots into h) (framer1 : k1.framer ≡ h.framer)
    (at2 : h2 ≡ get_or (set d.slots into k1) from h2)
    (at3 : h3 ≡ get_or (set d.slots into k1) into h3) (framer2 : k2.framer ≡ h3.framer) where
  is_target : h ≡ there.target
  is_target = read_is d d into there.target h refl there.target_there at

  is_source : h2 ≡ there.source
  is_source = read_is d d from there.source h2 refl there.source_there
      (at2 ∙ get_or-set_other d.slots into from k1 h2 apart)

  framer_stays : k2.framer ≡ there.target.framer
  framer_stays =
      let put : h3 ≡ k1 = at3 ∙ get_or-set_same d.slots into k1 h3
      (slice_get_within d.slots into there.target there.target_there) in
      framer2 ∙ ap (λ (k : Holding). k.framer) put ∙ framer1
      ∙ ap (λ (k : Holding). k.framer) is_target

  put_back : (a : ArchiveView) → k2.archive ≡ a
      → set (set d.slots into k1) into k2 ≡ set d.slots into (record there.target { archive = a })
  put_back a e =
      let whole : k2 ≡ record there.target { archive = a } =
      ap (λ (x : ArchiveView). let k : Holding = record { archive = x; framer = k2.framer } in k) e
      ∙ ap (λ (f : Framing). let k : Holding = record { archive = a; framer = f } in
      k) framer_stays in
      set-set d.slots into k1 k2 ∙ ap (set d.slots into) whole

  pub merged_back : k2.archive ≡ merged h.archive h2.archive → (step : Step) → IsJoin step from into
      → StepDoes d (record d { slots = set (set d.slots into k1) into k2 }) step (Ok Joined)
  merged_back e step is =
      let a = merged there.target.archive there.source.archive in
      let e2 : k2.archive ≡ a = e
      ∙ ap (λ (x : Holding). merged x.archive h2.archive) is_target
      ∙ ap (λ (x : Holding). merged there.target.archive x.archive) is_source in
      subst (λ (hs : List Holding). StepDoes d (record d { slots = hs }) step (Ok Joined))
      (sym (put_back a e2))
      (join_done d from into there a
      (as_good d there.source there.target there.source.archive (λ rs u x. refl)) step is)

  pub still_back : k2.archive ≡ h.archive → (step : Step) → IsJoin step from into
      → StepDoes d (record d { slots = set (set d.slots into k1) into k2 }) step
      (Err (OutOfMemory 0))
  still_back e step is =
      let e2 : k2.archive ≡ there.target.archive = e ∙ ap (λ (x : Holding). x.archive) is_target in
      subst (λ (hs : List Holding). StepDoes d (record d { slots = hs }) step (Err (OutOfMemory 0)))
      (sym (put_back there.target.archive e2
      ∙ set_same d.slots into there.target there.target_there))
      (join_ran_out d from into there step is)

pub both_merged : (a b x y : ArchiveView) → a ≡ x → b ≡ y → merged a b ≡ merged x y
both_merged a b x y e f = ap (λ (z : ArchiveView). merged z b) e ∙ ap (merged x) f

-- ---- an archive written and read back

pub read_back : (t1 t2 : Entries) (source back : ArchiveView) (octets : List ℕ) → t1 ≡ t2
    → octets ≡ text source.entries
    → ((rs : List Report) → AreUnder t1 rs → octets ≡ text_of t1 rs
    → (let x : Result ArchiveView NotAnArchive = Ok (archive_of t1 rs) in x) ≡ Ok back)
    → IsAsGood t2 source back
read_back t1 t2 source back octets same wrote only reports under e =
    let got = only reports (subst (λ t. AreUnder t reports) (sym same) under)
    (wrote ∙ ap (λ (a : ArchiveView). text a.entries) e
    ∙ ap (λ t. text_of t reports) (sym same)) in
    let back_is : archive_of t1 reports ≡ back = cc in
    sym back_is ∙ ap (λ t. archive_of t reports) same ∙ sym e

-- Steps that join two slots, new depots and whole runs: for `Depot::step`, `Depot::new` and
-- `Depot::run`.
use Rattle.std.proofs.Common.{◌≡◌, inl, inr, ℕ, zero, suc, ◌+◌, ◌<◌, ◌^◌, Some, Result, Ok, Err}
use Rattle.std.proofs.Common.{List, [], ◌∷◌, ◌++◌, length, take, set, get_or, replicate, refl, sym}
use Rattle.std.proofs.Common.{ap, ◌∙◌, subst, arith, length-append}
use Rattle.std.specs.Prelude.{IsErrAnd}
use Rattle.std.proofs.lemmas.List.{take_more, length-take-le}
use Rattle.std.proofs.lemmas.Option.{same_Some}
use Rattle.std.proofs.lemmas.Result.{err_from_is_err_and}
use Rattle.std.proofs.lemmas.List.Elements.{All-nil}
use Rattle.bufr_tables.specs.Entries.{Entries}
use Rattle.bufr_frame.specs.Looks.{new_framing}
use Rattle.bufr_message.specs.Reports.{IsUnder}
use Rattle.bufr_gather.specs.Archives.{ArchiveView, merged}
use Rattle.bufr_gather.specs.ReportTexts.{archive_of}
use Rattle.bufr_archive.specs.Slots.{Slot, slot_at, gains_all, new_slot, new_slots}
use Rattle.bufr_archive.specs.Runs.{new_reports, slot_of, join_answer, joined_with, joined, done}
use Rattle.bufr_archive.specs.Runs.{after, answer_of, IsAnswer, Run, after_all}
use Rattle.bufr_archive.specs.Holdings.{Holding, DepotView, HoldsSlot, StandsFor}
use Rattle.bufr_archive.specs.HeldSteps.{StepDoes, AreThere, IsFirstMissing, IsAsGood, with_merged}
use Rattle.bufr_archive.specs.HeldSteps.{TakesIn, IsJoin}
use Rattle.bufr_archive.specs.declared.steps.Step.{Step}
use Rattle.bufr_archive.specs.declared.steps.Answer.{Answer}
use Rattle.bufr_archive.specs.declared.steps.Answer.TheVariants.{Fed, Ended, Joined}
use Rattle.bufr_archive.specs.declared.steps.StepFault.{StepFault}
use Rattle.bufr_archive.specs.declared.steps.StepFault.TheVariants.{NoSlot, StreamTooLong}
use Rattle.bufr_archive.specs.declared.steps.StepFault.TheVariants.{OutOfMemory}
use Rattle.bufr_archive.proofs.ListFacts.{both}
use Rattle.bufr_archive.proofs.HeldFacts.{zip_at, zip_none, zip_set, archive_joined, none_taken}
use Rattle.bufr_archive.proofs.StepFacts.{nothing_gained, runs_join}

-- what all joins share: their answer and what they leave
record Joins (from into : ℕ) (step : Step) : Type 0 where
  pub answers : (tables : Entries) (slots : List Slot)
      → answer_of tables step slots
      ≡ join_answer from into (slot_at slots from) (slot_at slots into)
  pub leaves : (tables : Entries) (slots : List Slot)
      → done tables step slots ≡ joined from into slots

by_join : (from into : ℕ) (step : Step) → IsJoin step from into → Joins from into step
by_join from into step (inl e) =
    subst (Joins from into) (sym e) (record { answers = λ t s. refl; leaves = λ t s. refl })
by_join from into step (inr (inl e)) =
    subst (Joins from into) (sym e) (record { answers = λ t s. refl; leaves = λ t s. refl })
by_join from into step (inr (inr e)) =
    subst (Joins from into) (sym e) (record { answers = λ t s. refl; leaves = λ t s. refl })

-- ---- missing slots

missing_answer : (d : DepotView) (from into i : ℕ) → IsFirstMissing d from into i
    → (slots : List Slot) → StandsFor d slots
    → join_answer from into (slot_at slots from) (slot_at slots into) ≡ Err (NoSlot i)
missing_answer d from into i (inl m) slots z =
    ap (λ o. join_answer from into o (slot_at slots into))
    (zip_none (HoldsSlot d.tables) d.slots slots from z m.1)
    ∙ ap (λ n. Err (NoSlot n)) (sym m.0)
missing_answer d from into i (inr m) slots z =
    let s = zip_at (HoldsSlot d.tables) d.slots slots from m.0 z m.1 in
    ap (λ o. join_answer from into o (slot_at slots into)) s.1
    ∙ ap (join_answer from into (Some s.0)) (zip_none (HoldsSlot d.tables) d.slots slots into z m.3)
    ∙ ap (λ n. Err (NoSlot n)) (sym m.2)

pub join_missing : (d : DepotView) (from into : ℕ) (fault : StepFault)
    (result : Result Answer StepFault) → IsErrAnd result (λ e. e ≡ fault)
    → (i : ℕ) × (fault ≡ NoSlot i) × IsFirstMissing d from into i
    → (step : Step) → IsJoin step from into → StepDoes d d step result
join_missing d from into fault result fails missing step is =
    let p = err_from_is_err_and result fails in
    let j = by_join from into step is in
    subst (StepDoes d d step) (sym (p.1 ∙ ap Err (p.2 ∙ missing.1))) (record {
      tables = refl;
      answer = λ slots z. j.answers d.tables slots
          ∙ missing_answer d from into missing.0 missing.2 slots z;
      slots = λ slots z. z;
    })

-- ---- slots that are there

there_answer : (d : DepotView) (from into : ℕ) → AreThere d from into
    → (slots : List Slot) → StandsFor d slots
    → join_answer from into (slot_at slots from) (slot_at slots into) ≡ Ok Joined
there_answer d from into there slots z =
    let s = zip_at (HoldsSlot d.tables) d.slots slots from there.source z there.source_there in
    let t = zip_at (HoldsSlot d.tables) d.slots slots into there.target z there.target_there in
    ap (λ o. join_answer from into o (slot_at slots into)) s.1
    ∙ ap (join_answer from into (Some s.0)) t.1

pub join_ran_out : (d : DepotView) (from into : ℕ) → AreThere d from into
    → (step : Step) → IsJoin step from into → StepDoes d d step (Err (OutOfMemory 0))
join_ran_out d from into there step is =
    let j = by_join from into step is in
    record {
      tables = refl;
      answer = λ slots z. record {
        few = omega arith;
        answer = Joined;
        else_done = j.answers d.tables slots ∙ there_answer d from into there slots z;
      };
      slots = λ slots z. subst (StandsFor d) (sym (nothing_gained slots (slot_of step)
          (λ s. take 0 (new_reports d.tables step s)) (λ s. refl))) z;
    }

joined_stands : (d : DepotView) (from into : ℕ) (there : AreThere d from into) (a : ArchiveView)
    → ((s t : Slot) → HoldsSlot d.tables there.source s → HoldsSlot d.tables there.target t
    → a ≡ archive_of d.tables (t.reports ++ s.reports))
    → (slots : List Slot) → StandsFor d slots
    → StandsFor (record d { slots = set d.slots into (record there.target { archive = a }) })
    (joined from into slots)
joined_stands d from into there a is slots z =
    let s = zip_at (HoldsSlot d.tables) d.slots slots from there.source z there.source_there in
    let t = zip_at (HoldsSlot d.tables) d.slots slots into there.target z there.target_there in
    let holds : HoldsSlot d.tables (record there.target { archive = a }) (gains_all s.0 t.0) =
    record {
      under = both (IsUnder d.tables) t.0.reports s.0.reports t.2.under s.2.under;
      archive = is s.0 t.0 s.2 t.2;
      octets = t.2.octets;
      framer = t.2.framer;
    } in
    subst (λ o. StandsFor
    (record d { slots = set d.slots into (record there.target { archive = a }) })
    (joined_with o into slots)) (sym s.1)
    (zip_set d.tables d.slots slots into (record there.target { archive = a }) t.0
    (gains_all s.0) z t.1 holds)

pub join_done : (d : DepotView) (from into : ℕ) (there : AreThere d from into) (a : ArchiveView)
    → ((s t : Slot) → HoldsSlot d.tables there.source s → HoldsSlot d.tables there.target t
    → a ≡ archive_of d.tables (t.reports ++ s.reports))
    → (step : Step) → IsJoin step from into
    → StepDoes d (record d { slots = set d.slots into (record there.target { archive = a }) }) step
    (Ok Joined)
join_done d from into there a holds step is =
    let j = by_join from into step is in
    let held : Holding = record there.target { archive = a } in
    record {
      tables = refl;
      answer = λ slots z. j.answers d.tables slots ∙ there_answer d from into there slots z;
      slots = λ slots z. subst
          (StandsFor (record d { slots = set d.slots into held })) (sym (j.leaves d.tables slots))
          (joined_stands d from into there a holds slots z);
    }

pub as_good : (d : DepotView) (source target : Holding) (a : ArchiveView)
    → IsAsGood d.tables source.archive a → (s t : Slot)
    → HoldsSlot d.tables source s → HoldsSlot d.tables target t
    → merged target.archive a ≡ archive_of d.tables (t.reports ++ s.reports)
as_good d source target a good s t hs ht =
    let same : a ≡ archive_of d.tables s.reports =
    good s.reports hs.under hs.archive ∙ hs.archive in
    ap (merged target.archive) same
    ∙ ap (λ (b : ArchiveView). merged b (archive_of d.tables s.reports)) ht.archive
    ∙ archive_joined d.tables t.reports s.reports

pub took : (d new : DepotView) (from into : ℕ) (there : AreThere d from into) (a : ArchiveView)
    (result : Result Answer StepFault) → IsAsGood d.tables there.source.archive a
    → TakesIn d new into a result → (step : Step) → IsJoin step from into
    → StepDoes d new step result
took d new from into there a (Ok Joined) good takes step is =
    let same = same_Some takes.0 there.target (sym takes.1 ∙ there.target_there) in
    let done =
    join_done d from into there (merged there.target.archive a)
    (as_good d there.source there.target a good) step is in
    subst (λ n. StepDoes d n step (Ok Joined))
    (sym (takes.2
    ∙ ap (λ (t : Holding). record d { slots = with_merged d.slots into t a }) same)) done
took d new from into there a (Ok (Fed m r c)) good takes step is = absurd takes
took d new from into there a (Ok (Ended m r c)) good takes step is = absurd takes
took d new from into there a (Err (NoSlot i)) good takes step is = absurd takes
took d new from into there a (Err StreamTooLong) good takes step is = absurd takes
took d new from into there a (Err (OutOfMemory k)) good takes step is =
    subst (λ n. StepDoes d n step (Err (OutOfMemory k))) (sym takes.1)
    (subst (λ j. StepDoes d d step (Err (OutOfMemory j))) (sym takes.0)
    (join_ran_out d from into there step is))

-- ---- new depots

-- the holding of a new slot
abbrev pub new_holding : Entries → Holding
new_holding tables = record {
  archive = record { tables = tables; entries = [] };
  framer = new_framing;
}

new_holds : (tables : Entries) → HoldsSlot tables (new_holding tables) new_slot
new_holds tables = record {
  under = tt;
  archive = refl;
  octets = All-nil (λ (x : ℕ). x < 2 ^ 8);
  framer = none_taken;
}

pub new_stands : (tables : Entries) (n : ℕ)
    → StandsFor (record { tables = tables; slots = replicate n (new_holding tables) }) (new_slots n)
new_stands tables zero = tt
new_stands tables (suc n) = (new_holds tables, new_stands tables n)

-- ---- runs

-- the first steps are done
pub record RunSoFar (old new : DepotView) (steps : List Step)
    (answers : List (Result Answer StepFault)) (i : ℕ) : Type 0 where
  pub tables : new.tables ≡ old.tables
  pub count : length answers ≡ i
  pub run : (slots : List Slot) → StandsFor old slots → Run old.tables (take i steps) answers slots
  pub stands : (slots : List Slot) → StandsFor old slots
      → StandsFor new (after_all old.tables (take i steps) answers slots)

pub none_run : (d : DepotView) (steps : List Step) → RunSoFar d d steps [] 0
none_run d steps =
    record { tables = refl; count = refl; run = λ slots z. tt; stands = λ slots z. z }

pub one_run : (old new next : DepotView) (steps : List Step)
    (answers : List (Result Answer StepFault)) (i : ℕ) (step : Step)
    (answer : Result Answer StepFault) → i < length steps → step ≡ get_or steps i step
    → RunSoFar old new steps answers i → StepDoes new next step answer
    → RunSoFar old next steps (answers ++ answer ∷ []) (i + 1)
one_run old new next steps answers i step answer h is s does =
    let t = old.tables in
    let more = take_more steps i step h ∙ ap (λ s. take i steps ++ s ∷ []) (sym is) in
    let counted = s.count in
    let long : length (take i steps) ≡ length answers =
    length-take-le i steps (omega (arith, h)) ∙ sym counted in
    let turn : (slots : List Slot) → _ =
    λ slots. runs_join t (take i steps) (step ∷ []) answers (answer ∷ []) slots long in
    let one : (slots : List Slot) → StandsFor old slots
    → IsAnswer t step (after_all t (take i steps) answers slots) answer = λ slots z.
    subst (λ u. IsAnswer u step (after_all t (take i steps) answers slots) answer) s.tables
    (does.answer (after_all t (take i steps) answers slots) (s.stands slots z)) in
    let left : (slots : List Slot) → StandsFor old slots
    → StandsFor next (after t step answer (after_all t (take i steps) answers slots)) = λ slots z.
    subst (λ u. StandsFor next
    (after u step answer (after_all t (take i steps) answers slots))) s.tables
    (does.slots (after_all t (take i steps) answers slots) (s.stands slots z)) in
    record {
      tables = does.tables ∙ s.tables;
      count = length-append answers (answer ∷ []) ∙ ap (λ n. n + 1) counted;
      run = λ slots z. subst (λ ss. Run t ss (answers ++ answer ∷ []) slots) (sym more)
          ((turn slots).both (s.run slots z) (one slots z, tt));
      stands =
          λ slots z. subst (λ ss. StandsFor next (after_all t ss (answers ++ answer ∷ []) slots))
          (sym more)
          (subst (StandsFor next) (sym (turn slots).left) (left slots z));
    }

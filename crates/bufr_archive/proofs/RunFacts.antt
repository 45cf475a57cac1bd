-- In a whole run a slot has exactly the reports of its ended streams and of the sure frames of its
-- open one: for `laws::archives_converge`.
use Rattle.std.proofs.Common.{◌≡◌, ◌≢◌, ◌⊎◌, inl, inr, ℕ, zero, suc, true, false, eqb as nat_eq}
use Rattle.std.proofs.Common.{cond, Some, None, Result, Ok, Err, List, [], ◌∷◌, ◌++◌, take, refl}
use Rattle.std.proofs.Common.{sym, ap, ◌∙◌, subst, arith, append_assoc, eq-eqb, ne_eqb}
use Rattle.std.proofs.lemmas.List.{append-nil}
use Rattle.std.proofs.lemmas.Grind.{flat_map-append}
use Rattle.std.proofs.lemmas.Bool.Decides.{eqb_tells}
use Rattle.bufr_frame.specs.declared.frames.Found.{Found}
use Rattle.bufr_frame.specs.Streams.{cut, sure}
use Rattle.bufr_frame.specs.StreamLaws.{sure-piece, cut-end}
use Rattle.bufr_entries.specs.Keeping.{Has, Within}
use Rattle.bufr_entries.specs.KeepingLaws.{Has-left, Has-right, Has-append, Within-append}
use Rattle.bufr_tables.specs.Entries.{Entries}
use Rattle.bufr_message.specs.declared.report.Report.{Report}
use Rattle.bufr_message.specs.Reports.{reports_in}
use Rattle.bufr_gather.specs.ReportTexts.{told}
use Rattle.bufr_gather.specs.StreamsTold.{reports_among, all_told}
use Rattle.bufr_archive.specs.Slots.{Slot, slot_at, changed_at, gains}
use Rattle.bufr_archive.specs.Slots.{gains_all, new_slot, new_slots}
use Rattle.bufr_archive.specs.Runs.{frames_of_piece, frames_of_end, is_too_long, new_reports, slot_of}
use Rattle.bufr_archive.specs.Runs.{joined_with, joined, done, after, fed_answer, feed_answer}
use Rattle.bufr_archive.specs.Runs.{end_answer, answer_of, IsAnswer, Run, after_all}
use Rattle.bufr_archive.specs.Headline.{IsOutOfMemory, ComesNext, AreRepeated, IsClosed, JoinsClosed}
use Rattle.bufr_archive.specs.Headline.{AllJoinClosed}
use Rattle.bufr_archive.specs.declared.steps.Step.{Step}
use Rattle.bufr_archive.specs.declared.steps.Step.TheVariants.{Feed, End, Merge, Transfer, Copy}
use Rattle.bufr_archive.specs.declared.steps.Answer.{Answer}
use Rattle.bufr_archive.specs.declared.steps.StepFault.{StepFault}
use Rattle.bufr_archive.specs.declared.steps.StepFault.TheVariants.{NoSlot, StreamTooLong}
use Rattle.bufr_archive.specs.declared.steps.StepFault.TheVariants.{OutOfMemory}

-- a list of reports
abbrev pub Reports : Type 0
Reports = List Report

-- the reports of a slot's streams
abbrev pub told_so_far : Entries → Slot → Reports
told_so_far tables s = all_told tables s.ended ++ reports_among tables (sure s.open_stream)

-- the reports that the next step brings to a slot
abbrev pub coming : Entries → List Step → ℕ → Slot → Reports
coming tables [] i s = []
coming tables (step ∷ steps) i s = cond (nat_eq (slot_of step) i) (new_reports tables step s) []

-- the slot has exactly the reports of its streams, apart from those that the next step brings
pub record Holds (tables : Entries) (steps : List Step) (i : ℕ) (s : Slot) : Type 0 where
  pub low : Within (told_so_far tables s) s.reports
  pub high : Within s.reports (told_so_far tables s ++ coming tables steps i s)

-- so does each slot
abbrev pub AllHold : Entries → List Step → List Slot → Type 0
AllHold tables steps slots = (i : ℕ) (s : Slot) → slot_at slots i ≡ Some s → Holds tables steps i s

-- slot j after a change of slot i
pub record IsChanged (slots : List Slot) (i : ℕ) (f : Slot → Slot) (j : ℕ) (s : Slot) : Type 0 where
  pub before : Slot
  pub stood : slot_at slots j ≡ Some before
  pub now : ((i ≡ j) × (s ≡ f before)) ⊎ ((i ≢ j) × (s ≡ before))

at_changed : (slots : List Slot) (i : ℕ) (f : Slot → Slot) (j : ℕ) (s : Slot)
    → slot_at (changed_at slots i f) j ≡ Some s → IsChanged slots i f j s
at_changed [] i f j s h = cc
at_changed (a ∷ slots) zero f zero s h =
    let e : f a ≡ s = cc in record { before = a; stood = refl; now = inl (refl, sym e) }
at_changed (a ∷ slots) zero f (suc j) s h =
    record { before = s; stood = h; now = inr (λ e. omega (arith, e), refl) }
at_changed (a ∷ slots) (suc i) f zero s h =
    record { before = s; stood = h; now = inr (λ e. omega (arith, e), refl) }
at_changed (a ∷ slots) (suc i) f (suc j) s h =
    let r = at_changed slots i f j s h in
    record {
      before = r.before;
      stood = r.stood;
      now = elim r.now [
        | inl p ↦ inl (ap suc p.0, p.1)
        | inr p ↦
            inr (λ e. let apart = p.0 in omega (arith, e), p.1)
      ];
    }

pub nothing_more : (xs ys : Reports) → Within xs (ys ++ []) → Within xs ys
nothing_more xs ys w = rw (append-nil ys) at w

stays : (tables : Entries) (step : Step) (steps : List Step) (j : ℕ) (s : Slot) → slot_of step ≢ j
    → Holds tables (step ∷ steps) j s → Holds tables steps j s
stays tables step steps j s apart h =
    let none : coming tables (step ∷ steps) j s ≡ [] = rw (ne_eqb (slot_of step) j apart) refl in
    let exact : Within s.reports (told_so_far tables s) =
    nothing_more s.reports (told_so_far tables s)
    (subst (λ c. Within s.reports (told_so_far tables s ++ c)) none h.high) in
    record {
      low = h.low;
      high = λ x m. Has-left (told_so_far tables s) (coming tables steps j s) x
          (exact x m);
    }

new_reports-gains : (tables : Entries) (step : Step) (rs : Reports) (s : Slot)
    → new_reports tables step (gains rs s) ≡ new_reports tables step s
new_reports-gains tables (Feed i piece) rs s = refl
new_reports-gains tables (End i) rs s = refl
new_reports-gains tables (Merge i j) rs s = refl
new_reports-gains tables (Transfer i j) rs s = refl
new_reports-gains tables (Copy i j) rs s = refl

pub taken_within : {A : Type 0} (n : ℕ) (xs : List A) → Within (take n xs) xs
taken_within zero xs x h = absurd h
taken_within (suc n) [] x h = absurd h
taken_within (suc n) (y ∷ xs) x (inl e) = inl e
taken_within (suc n) (y ∷ xs) x (inr h) = inr (taken_within n xs x h)

pub among-append : (tables : Entries) (fs gs : List Found)
    → reports_among tables (fs ++ gs) ≡ reports_among tables fs ++ reports_among tables gs
among-append tables fs gs = flat_map-append (λ f. reports_in tables f.bytes) fs gs

told-append : (tables : Entries) (xs ys : List (List ℕ))
    → all_told tables (xs ++ ys) ≡ all_told tables xs ++ all_told tables ys
told-append tables xs ys = flat_map-append (told tables) xs ys

told-one : (tables : Entries) (s : List ℕ) → all_told tables (s ∷ []) ≡ reports_among tables (cut s)
told-one tables s = append-nil (reports_among tables (cut s))

again : (tables : Entries) (step : Step) (steps : List Step) (k j : ℕ) (s : Slot)
    → ComesNext step steps → slot_of step ≡ j → Holds tables (step ∷ steps) j s
    → Holds tables steps j (gains (take k (new_reports tables step s)) s)
again tables step [] k j s next here h = absurd next
again tables step (more ∷ steps) k j s next here h =
    let new = new_reports tables step s in
    let same : nat_eq (slot_of step) j ≡ true = eq-eqb (slot_of step) j here in
    let comes : coming tables (step ∷ steps) j s ≡ new = rw same refl in
    let comes_again : coming tables (more ∷ steps) j (gains (take k new) s) ≡ new =
    rw (next, same) (new_reports-gains tables step (take k new) s) in
    record {
      low = λ x m. Has-left s.reports (take k new) x (h.low x m);
      high =
          λ x m. rw comes_again
          (elim (Has-append s.reports (take k new) x m) [
            | inl a ↦ rw comes at (h.high x a)
            | inr b ↦
                Has-right (told_so_far tables s) new x (taken_within k new x b)
          ]);
    }

grown : (tables : Entries) (step : Step) (steps : List Step) (j : ℕ) (s t : Slot) → slot_of step ≡ j
    → told_so_far tables t ≡ told_so_far tables s ++ new_reports tables step s
    → t.reports ≡ s.reports ++ new_reports tables step s → Holds tables (step ∷ steps) j s
    → Holds tables steps j t
grown tables step steps j s t here streams reports h =
    let new = new_reports tables step s in
    let same : nat_eq (slot_of step) j ≡ true = eq-eqb (slot_of step) j here in
    let comes : coming tables (step ∷ steps) j s ≡ new = rw same refl in
    let high : Within s.reports (told_so_far tables s ++ new) =
    subst (λ c. Within s.reports (told_so_far tables s ++ c)) comes h.high in
    record {
      low =
          λ x m. subst (λ rs. Has rs x) (sym reports)
          (Within-append (told_so_far tables s) new (s.reports ++ new)
          (λ y k. Has-left s.reports new y (h.low y k)) (Has-right s.reports new) x
          (subst (λ rs. Has rs x) streams m));
      high =
          λ x m. Has-left (told_so_far tables t) (coming tables steps j t) x
          (subst (λ rs. Has rs x) (sym streams)
          (Within-append s.reports new (told_so_far tables s ++ new) high
          (Has-right (told_so_far tables s) new) x (subst (λ rs. Has rs x) reports m)));
    }

feed_told : (tables : Entries) (i : ℕ) (piece : List ℕ) (s t : Slot)
    → is_too_long s.open_stream piece ≡ false → t.ended ≡ s.ended
    → t.open_stream ≡ s.open_stream ++ piece
    → told_so_far tables t ≡ told_so_far tables s ++ new_reports tables (Feed i piece) s
feed_told tables i piece s t fits ended longer =
    let came : new_reports tables (Feed i piece) s
    ≡ reports_among tables (frames_of_piece s.open_stream piece) = rw fits refl in
    ap (λ w. all_told tables w ++ reports_among tables (sure t.open_stream)) ended
    ∙ ap (λ o. all_told tables s.ended ++ reports_among tables (sure o)) longer
    ∙ ap (λ fs. all_told tables s.ended ++ reports_among tables fs) (sure-piece s.open_stream piece)
    ∙ ap (λ rs. all_told tables s.ended ++ rs)
    (among-append tables (sure s.open_stream) (frames_of_piece s.open_stream piece))
    ∙ sym (append_assoc (all_told tables s.ended) (reports_among tables (sure s.open_stream))
    (reports_among tables (frames_of_piece s.open_stream piece)))
    ∙ ap (λ rs. told_so_far tables s ++ rs) (sym came)

end_told : (tables : Entries) (i : ℕ) (s t : Slot) → t.ended ≡ s.ended ++ s.open_stream ∷ []
    → t.open_stream ≡ []
    → told_so_far tables t ≡ told_so_far tables s ++ new_reports tables (End i) s
end_told tables i s t ended closed =
    let came = reports_among tables (frames_of_end s.open_stream) in
    ap (λ w. all_told tables w ++ reports_among tables (sure t.open_stream)) ended
    ∙ ap (λ o. all_told tables (s.ended ++ s.open_stream ∷ [])
    ++ reports_among tables (sure o)) closed
    ∙ append-nil (all_told tables (s.ended ++ s.open_stream ∷ []))
    ∙ told-append tables s.ended (s.open_stream ∷ [])
    ∙ ap (λ rs. all_told tables s.ended ++ rs)
    (told-one tables s.open_stream ∙ ap (λ fs. reports_among tables fs) (cut-end s.open_stream)
    ∙ among-append tables (sure s.open_stream) (frames_of_end s.open_stream))
    ∙ sym (append_assoc (all_told tables s.ended) (reports_among tables (sure s.open_stream)) came)

fault_brings_nothing : (tables : Entries) (step : Step) (slots : List Slot) (s : Slot)
    (fault : StepFault) → slot_at slots (slot_of step) ≡ Some s
    → answer_of tables step slots ≡ Err fault → new_reports tables step s ≡ []
fault_brings_nothing tables (Feed i piece) slots s fault here a =
    let b : feed_answer tables i piece (Some s) ≡ Err fault =
    sym (ap (feed_answer tables i piece) here) ∙ a in
    elim (is_too_long s.open_stream piece) as
    (λ t. is_too_long s.open_stream piece ≡ t
    → cond t (Err StreamTooLong)
    (Ok (fed_answer tables (frames_of_piece s.open_stream piece) s)) ≡ Err fault
    → new_reports tables (Feed i piece) s ≡ []) [
      | true ↦ λ long _. rw long refl
      | false ↦ λ _ e. cc
    ] refl b
fault_brings_nothing tables (End i) slots s fault here a =
    let b : end_answer tables i (Some s) ≡ Err fault = sym (ap (end_answer tables i) here) ∙ a in cc
fault_brings_nothing tables (Merge i j) slots s fault here a = refl
fault_brings_nothing tables (Transfer i j) slots s fault here a = refl
fault_brings_nothing tables (Copy i j) slots s fault here a = refl

idle : (tables : Entries) (step : Step) (steps more : List Step) (j : ℕ) (s : Slot)
    → new_reports tables step s ≡ [] → Holds tables (step ∷ steps) j s → Holds tables more j s
idle tables step steps more j s none h =
    let nothing : coming tables (step ∷ steps) j s ≡ [] =
    elim (nat_eq (slot_of step) j) as (λ b. cond b (new_reports tables step s) [] ≡ [])
    [ true ↦ none | false ↦ refl ] in
    let exact : Within s.reports (told_so_far tables s) =
    nothing_more s.reports (told_so_far tables s)
    (subst (λ c. Within s.reports (told_so_far tables s ++ c)) nothing h.high) in
    record {
      low = h.low;
      high = λ x m. Has-left (told_so_far tables s) (coming tables more j s) x
          (exact x m);
    }

faulted : (tables : Entries) (step : Step) (steps : List Step) (slots : List Slot)
    (fault : StepFault) → answer_of tables step slots ≡ Err fault
    → AllHold tables (step ∷ steps) slots → AllHold tables steps slots
faulted tables step steps slots fault a all j s stood =
    elim (eqb_tells (slot_of step) j) [
      | inl p ↦
          idle tables step steps steps j s
          (fault_brings_nothing tables step slots s fault
          (subst (λ k. slot_at slots k ≡ Some s) (sym p.1) stood) a) (all j s stood)
      | inr p ↦ stays tables step steps j s p.1 (all j s stood)
    ]

ran_out : (tables : Entries) (step : Step) (steps : List Step) (slots : List Slot) (k : ℕ)
    → ComesNext step steps → AllHold tables (step ∷ steps) slots
    → AllHold tables steps (after tables step (Err (OutOfMemory k)) slots)
ran_out tables step steps slots k next all j t stood =
    let c =
    at_changed slots (slot_of step)
    (λ s. gains (take k (new_reports tables step s)) s) j t stood in
    elim c.now [
      | inl p ↦
          subst (Holds tables steps j) (sym p.1)
          (again tables step steps k j c.before next p.0 (all j c.before c.stood))
      | inr p ↦
          subst (Holds tables steps j) (sym p.1)
          (stays tables step steps j c.before p.0 (all j c.before c.stood))
    ]

fits_from : (tables : Entries) (i : ℕ) (piece : List ℕ) (slots : List Slot) (s : Slot)
    (answer : Answer) → slot_at slots i ≡ Some s → answer_of tables (Feed i piece) slots ≡ Ok answer
    → is_too_long s.open_stream piece ≡ false
fits_from tables i piece slots s answer here a =
    let b : feed_answer tables i piece (Some s) ≡ Ok answer =
    sym (ap (feed_answer tables i piece) here) ∙ a in
    elim (is_too_long s.open_stream piece) as
    (λ t. cond t (Err StreamTooLong)
    (Ok (fed_answer tables (frames_of_piece s.open_stream piece) s)) ≡ Ok answer → t ≡ false)
    [ true ↦ λ e. cc | false ↦ λ _. refl ] b

pub closed_told : (tables : Entries) (s : Slot) → s.open_stream ≡ []
    → told_so_far tables s ≡ all_told tables s.ended
closed_told tables s closed =
    ap (λ o. all_told tables s.ended ++ reports_among tables (sure o)) closed
    ∙ append-nil (all_told tables s.ended)

joined_hold : (tables : Entries) (step : Step) (steps : List Step) (from into : ℕ)
    (slots : List Slot) → ((s : Slot) → new_reports tables step s ≡ []) → IsClosed slots from
    → AllHold tables (step ∷ steps) slots → AllHold tables steps (joined from into slots)
joined_hold tables step steps from into slots none closed all j t stood =
    elim (slot_at slots from) as
    (λ o. slot_at slots from ≡ o → slot_at (joined_with o into slots) j ≡ Some t
    → Holds tables steps j t) [
      | None ↦ λ _ st. idle tables step steps steps j t (none t) (all j t st)
      | Some source ↦ λ there st.
          let c = at_changed slots into (gains_all source) j t st in
          let b = c.before in
          let hb : Holds tables [] j b = idle tables step steps [] j b (none b) (all j b c.stood) in
          let hs : Holds tables [] from source =
          idle tables step steps [] from source (none source) (all from source there) in
          elim c.now [
            | inr p ↦
                subst (Holds tables steps j) (sym p.1)
                (idle tables step steps steps j b (none b) (all j b c.stood))
            | inl p ↦
                let of_source : told_so_far tables source ≡ all_told tables source.ended =
                closed_told tables source (closed source there) in
                let sure_b = reports_among tables (sure b.open_stream) in
                let here = gains_all source b in
                let here_told : told_so_far tables here
                ≡ (all_told tables b.ended ++ all_told tables source.ended) ++ sure_b =
                ap (λ rs. rs ++ sure_b) (told-append tables b.ended source.ended) in
                let low : Within (told_so_far tables here) (b.reports ++ source.reports) = λ x m.
                let n : Has
                ((all_told tables b.ended ++ all_told tables source.ended) ++ sure_b) x = subst
                (λ rs. Has rs x) here_told m in
                elim
                (Has-append
                (all_told tables b.ended ++ all_told tables source.ended) sure_b x n) [
                  | inl q ↦
                      elim
                      (Has-append (all_told tables b.ended) (all_told tables source.ended) x q) [
                        | inl r ↦
                            Has-left b.reports source.reports x
                            (hb.low x (Has-left (all_told tables b.ended) sure_b x r))
                        | inr r ↦
                            Has-right b.reports source.reports x
                            (hs.low x (subst (λ rs. Has rs x) (sym of_source) r))
                      ]
                  | inr q ↦
                      Has-left b.reports source.reports x
                      (hb.low x (Has-right (all_told tables b.ended) sure_b x q))
                ] in
                let high : Within (b.reports ++ source.reports) (told_so_far tables here) = λ x m.
                subst (λ rs. Has rs x) (sym here_told)
                (elim (Has-append b.reports source.reports x m) [
                  | inl q ↦
                      elim
                      (Has-append (all_told tables b.ended) sure_b x
                      (nothing_more b.reports (told_so_far tables b) hb.high x q)) [
                        | inl r ↦
                            Has-left
                            (all_told tables b.ended ++ all_told tables source.ended) sure_b x
                            (Has-left (all_told tables b.ended) (all_told tables source.ended) x r)
                        | inr r ↦
                            Has-right
                            (all_told tables b.ended ++ all_told tables source.ended) sure_b x r
                      ]
                  | inr q ↦
                      Has-left (all_told tables b.ended ++ all_told tables source.ended) sure_b x
                      (Has-right (all_told tables b.ended) (all_told tables source.ended) x
                      (subst (λ rs. Has rs x) of_source
                      (nothing_more source.reports (told_so_far tables source) hs.high x q)))
                ]) in
                subst (Holds tables steps j) (sym p.1)
                (record {
                  low = low;
                  high = λ x m. Has-left (told_so_far tables here)
                      (coming tables steps j here) x (high x m);
                })
          ]
    ] refl stood

answered : (tables : Entries) (step : Step) (steps : List Step) (slots : List Slot)
    (answer : Answer) → answer_of tables step slots ≡ Ok answer → JoinsClosed step slots
    → AllHold tables (step ∷ steps) slots → AllHold tables steps (done tables step slots)
answered tables (Feed i piece) steps slots answer a closed all j t stood =
    let c =
    at_changed slots i
    (λ s. record
    (gains (new_reports tables (Feed i piece) s) s) {
      open_stream = s.open_stream
          ++ piece;
    }) j t stood in
    elim c.now [
      | inl p ↦
          let fits =
          fits_from tables i piece slots c.before answer
          (subst (λ k. slot_at slots k ≡ Some c.before) (sym p.0) c.stood) a in
          grown tables (Feed i piece) steps j c.before t p.0
          (feed_told tables i piece c.before t fits (ap (λ (s : Slot). s.ended) p.1)
          (ap (λ (s : Slot). s.open_stream) p.1)) (ap (λ (s : Slot). s.reports) p.1)
          (all j c.before c.stood)
      | inr p ↦
          subst (Holds tables steps j) (sym p.1)
          (stays tables (Feed i piece) steps j c.before p.0 (all j c.before c.stood))
    ]
answered tables (End i) steps slots answer a closed all j t stood =
    let c =
    at_changed slots i
    (λ s. record
    (gains (new_reports tables (End i) s) s) {
      ended = s.ended ++ s.open_stream
          ∷ [];
      open_stream = [];
    }) j t stood in
    elim c.now [
      | inl p ↦
          grown tables (End i) steps j c.before t p.0
          (end_told tables i c.before t (ap (λ (s : Slot). s.ended) p.1)
          (ap (λ (s : Slot). s.open_stream) p.1)) (ap (λ (s : Slot). s.reports) p.1)
          (all j c.before c.stood)
      | inr p ↦
          subst (Holds tables steps j) (sym p.1)
          (stays tables (End i) steps j c.before p.0 (all j c.before c.stood))
    ]
answered tables (Merge from into) steps slots answer a closed all j t stood =
    joined_hold tables (Merge from into) steps from into slots (λ s. refl) closed all j t stood
answered tables (Transfer from into) steps slots answer a closed all j t stood =
    joined_hold tables (Transfer from into) steps from into slots (λ s. refl) closed all j t stood
answered tables (Copy from into) steps slots answer a closed all j t stood =
    joined_hold tables (Copy from into) steps from into slots (λ s. refl) closed all j t stood

step_holds : (tables : Entries) (step : Step) (steps : List Step) (slots : List Slot)
    (answer : Result Answer StepFault) → IsAnswer tables step slots answer
    → (IsOutOfMemory answer → ComesNext step steps) → JoinsClosed step slots
    → AllHold tables (step ∷ steps) slots → AllHold tables steps (after tables step answer slots)
step_holds tables step steps slots (Ok answer) a next closed all =
    answered tables step steps slots answer a closed all
step_holds tables step steps slots (Err (OutOfMemory k)) a next closed all =
    ran_out tables step steps slots k (next tt) all
step_holds tables step steps slots (Err (NoSlot i)) a next closed all =
    faulted tables step steps slots (NoSlot i) a all
step_holds tables step steps slots (Err StreamTooLong) a next closed all =
    faulted tables step steps slots StreamTooLong a all

pub run_holds : (tables : Entries) (steps : List Step) (answers : List (Result Answer StepFault))
    (slots : List Slot) → Run tables steps answers slots → AreRepeated steps answers
    → AllJoinClosed tables steps answers slots → AllHold tables steps slots
    → AllHold tables [] (after_all tables steps answers slots)
run_holds tables [] [] slots r p q all = all
run_holds tables [] (answer ∷ answers) slots r p q all = absurd r
run_holds tables (step ∷ steps) [] slots r p q all = absurd r
run_holds tables (step ∷ steps) (answer ∷ answers) slots r p q all =
    run_holds tables steps answers (after tables step answer slots) r.1 p.1 q.1
    (step_holds tables step steps slots answer r.0 p.0 q.0 all)

new_at : (n i : ℕ) (s : Slot) → slot_at (new_slots n) i ≡ Some s → new_slot ≡ s
new_at zero i s h = cc
new_at (suc n) zero s h = cc
new_at (suc n) (suc i) s h = new_at n i s h

pub new_holds : (tables : Entries) (steps : List Step) (n : ℕ) → AllHold tables steps (new_slots n)
new_holds tables steps n i s h =
    subst (Holds tables steps i) (new_at n i s h)
    (record { low = λ x m. absurd m; high = λ x m. absurd m })

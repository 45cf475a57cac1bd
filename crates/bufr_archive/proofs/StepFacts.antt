-- Repeated steps, and runs one after another: for `laws::repeated_steps_complete` and
-- `laws::runs_join`.
use Rattle.std.proofs.Common.{◌≡◌, ℕ, zero, suc, List, [], ◌∷◌, ◌++◌, take, refl, sym, ap, ◌∙◌}
use Rattle.std.proofs.Common.{subst, arith}
use Rattle.std.specs.List.{AllZip}
use Rattle.std.proofs.lemmas.List.{append-nil, take_all}
use Rattle.bufr_entries.specs.Keeping.{SameMembers}
use Rattle.bufr_tables.specs.Entries.{Entries}
use Rattle.bufr_entries.specs.KeepingLaws.{Has-left, Has-right, Within-append}
use Rattle.bufr_archive.specs.Slots.{Slot, changed_at, gains}
use Rattle.bufr_archive.specs.Runs.{new_reports, joined, after}
use Rattle.bufr_archive.specs.Agreements.{SameSlot, RepeatCompletes, RunsJoin}
use Rattle.bufr_archive.specs.declared.steps.Step.TheVariants.{Feed, End, Merge, Transfer, Copy}
use Rattle.bufr_archive.proofs.RunFacts.{Reports, taken_within}

same_slot : (s : Slot) → SameSlot s s
same_slot s = record { reports = (λ x h. h, λ x h. h); ended = refl; open_stream = refl }

same_slots : (slots : List Slot) → AllZip SameSlot slots slots
same_slots [] = tt
same_slots (s ∷ slots) = (same_slot s, same_slots slots)

twice_changed : (slots : List Slot) (i : ℕ) (f g : Slot → Slot)
    → ((s : Slot) → SameSlot (g (f s)) (g s))
    → AllZip SameSlot (changed_at (changed_at slots i f) i g) (changed_at slots i g)
twice_changed [] i f g e = tt
twice_changed (s ∷ slots) zero f g e = (e s, same_slots slots)
twice_changed (s ∷ slots) (suc i) f g e = (same_slot s, twice_changed slots i f g e)

again_within : (k : ℕ) (xs new : Reports) → SameMembers ((xs ++ take k new) ++ new) (xs ++ new)
again_within k xs new = (
  Within-append (xs ++ take k new) new (xs ++ new)
      (Within-append xs (take k new) (xs ++ new) (Has-left xs new)
      (λ x m. Has-right xs new x (taken_within k new x m))) (Has-right xs new),
  Within-append xs new ((xs ++ take k new) ++ new)
      (λ x m. Has-left (xs ++ take k new) new x (Has-left xs (take k new) x m))
      (Has-right (xs ++ take k new) new),
)

pub nothing_gained : (slots : List Slot) (i : ℕ) (none : Slot → Reports)
    → ((s : Slot) → none s ≡ []) → changed_at slots i (λ s. gains (none s) s) ≡ slots
nothing_gained [] i none e = refl
nothing_gained (s ∷ slots) zero none e =
    ap (λ t. t ∷ slots)
    (ap (λ rs. gains rs s) (e s) ∙ ap (λ rs. record s { reports = rs }) (append-nil s.reports))
nothing_gained (s ∷ slots) (suc i) none e = ap (λ ts. s ∷ ts) (nothing_gained slots i none e)

join_again : (from into k : ℕ) (slots : List Slot)
    → AllZip SameSlot
    (joined from into
    (changed_at slots into (λ s. gains (take k (let none : Reports = [] in none)) s)))
    (joined from into slots)
join_again from into k slots =
    let gained = nothing_gained slots into (λ s. take k []) (λ s. take_all k [] (omega arith)) in
    subst (λ s. AllZip SameSlot (joined from into s) (joined from into slots)) (sym gained)
    (same_slots (joined from into slots))

pub repeat_completes : (tables : Entries) → RepeatCompletes tables
repeat_completes tables (Feed i piece) slots k a b =
    twice_changed slots i _ _
    (λ s.
    record {
      reports = again_within k s.reports
          (new_reports tables (Feed i piece) s);
      ended = refl;
      open_stream = refl;
    })
repeat_completes tables (End i) slots k a b =
    twice_changed slots i _ _
    (λ s.
    record {
      reports = again_within k s.reports
          (new_reports tables (End i) s);
      ended = refl;
      open_stream = refl;
    })
repeat_completes tables (Merge from into) slots k a b = join_again from into k slots
repeat_completes tables (Transfer from into) slots k a b = join_again from into k slots
repeat_completes tables (Copy from into) slots k a b = join_again from into k slots

pub runs_join : (tables : Entries) → RunsJoin tables
runs_join tables [] more [] others slots l =
    record { first = λ r. tt; second = λ r. r; both = λ p q. q; left = refl }
runs_join tables [] more (answer ∷ answers) others slots l = cc
runs_join tables (step ∷ steps) more [] others slots l = cc
runs_join tables (step ∷ steps) more (answer ∷ answers) others slots l =
    let r =
    runs_join tables steps more answers others (after tables step answer slots)
    (omega (arith, l)) in
    record {
      first = λ h. (h.0, r.first h.1);
      second = λ h. r.second h.1;
      both = λ p q.
          (p.0, r.both p.1 q);
      left = r.left;
    }

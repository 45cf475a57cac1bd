-- Each round moves the least slot, or drops an entry that is not kept.
use Rattle.std.proofs.Common.{◌≡◌, ◌∙◌, ◌++◌, ◌+◌, ◌≤◌, true, false, length, reverse, sym, ap, subst, arith, rules, length-drop}
use Rattle.std.proofs.lemmas.List.{length-reverse}
use Rattle.std.specs.Option.{option_to_list}
use Rattle.std.specs.List.Sorted.{IsStrictlySortedBy}
use Rattle.bufr_entries.specs.Entries.{slot_cmp, kept}
use Rattle.bufr_entries.specs.Keeping.{first_of}
use Rattle.bufr_entries.specs.Merging.{heads_order}
use Rattle.bufr_entries.proofs.PageLemmas.{step-left, step-last, sorted-rest, kept-beside}
use Rattle.bufr_entries.proofs.settling.fill.Goals as goal
use Rattle.bufr_entries.proofs.settling.fill.Goals.{After-is_full, in-Less+in_ok-push_left-in-Less, in-Equal, in-Greater+then-not-drop_tied+in_ok-push_last-in-Greater, in-Greater+else-not-drop_tied}

sorted : (c : After-is_full) → IsStrictlySortedBy slot_cmp c.match-order.left
sorted c =
    let was = c.loop-order.invariant.sorted in
    elim c.match-order.branch [
      | in-Less+in_ok-push_left-in-Less w ↦ rw w.left-is
          (subst (IsStrictlySortedBy slot_cmp) (sym w.in_ok-push_left-in-Less.ensures.rest)
          (sorted-rest c.loop-order.left was))
      | in-Equal w ↦ rw w.left-is w.drop_lesser.ensures.sorted
      | in-Greater+then-not-drop_tied+in_ok-push_last-in-Greater w ↦ rw w.left-is was
      | in-Greater+else-not-drop_tied w ↦ rw w.left-is was
    ]

all : (c : After-is_full)
    → c.match-order.room ++ kept (c.match-order.left ++ reverse c.match-order.waiting)
    ≡ c.args.room.now ++ kept (c.args.left.now ++ reverse c.args.waiting.now)
all c =
    let room = c.loop-order.room in let left = c.loop-order.left in
    let rs = reverse c.loop-order.waiting in let was = c.loop-order.invariant in
    elim c.match-order.branch [
      | in-Less+in_ok-push_left-in-Less w ↦ rw (w.room-is, w.left-is, w.waiting-is)
          (let e = w.in_ok-push_left-in-Less.ensures in
          ap (λ es. es ++ kept (w.push_left.new.left ++ rs)) e.ok
          ∙ ap (λ es. (room ++ option_to_list (first_of left)) ++ kept (es ++ rs)) e.rest
          ∙ step-left room left rs was.sorted was.rising (sym c.in-Some.ensures.order ∙ w.in-Less.is)
          ∙ was.all)
      | in-Equal w ↦ rw (w.room-is, w.left-is, w.waiting-is)
          (ap (λ es. room ++ es) w.drop_lesser.ensures.kept ∙ was.all)
      | in-Greater+then-not-drop_tied+in_ok-push_last-in-Greater w ↦
          rw (w.room-is, w.left-is, w.waiting-is)
          (let e = w.in_ok-push_last-in-Greater.ensures in
          let ws = w.drop_tied.new.waiting in
          let none : w.drop_tied.result ≡ false = search rules in
          let apart = w.drop_tied.ensures.apart none in
          ap (λ es. es ++ kept (left ++ reverse w.push_last.new.waiting)) e.ok
          ∙ ap (λ es. (room ++ option_to_list (first_of (reverse ws))) ++ kept (left ++ es)) e.rest
          ∙ step-last room left (reverse ws) was.sorted apart.1
          (ap (λ es. heads_order slot_cmp left (reverse es)) apart.0
          ∙ sym c.in-Some.ensures.order ∙ w.in-Greater.is)
          ∙ ap (λ es. room ++ kept (left ++ reverse es)) apart.0 ∙ was.all)
      | in-Greater+else-not-drop_tied w ↦ rw (w.room-is, w.left-is, w.waiting-is)
          (ap (λ es. room ++ es) (kept-beside left _ _ w.drop_tied.ensures.kept) ∙ was.all)
    ]

fewer : (c : After-is_full) → (length c.match-order.waiting ≤ length c.loop-order.waiting)
    × (length c.match-order.left + length c.match-order.waiting
    ≤ length c.loop-order.left + length c.loop-order.waiting)
fewer c =
    elim c.match-order.branch [
      | in-Less+in_ok-push_left-in-Less w ↦ rw (w.left-is, w.waiting-is)
          (let rest = ap length w.in_ok-push_left-in-Less.ensures.rest in
          (omega arith, omega (arith, rest, length-drop 1 c.loop-order.left)))
      | in-Equal w ↦ rw (w.left-is, w.waiting-is)
          (w.drop_lesser.ensures.fewer, omega (arith, w.drop_lesser.ensures.less))
      | in-Greater+then-not-drop_tied+in_ok-push_last-in-Greater w ↦ rw (w.left-is, w.waiting-is)
          (let ws = w.drop_tied.new.waiting in
          let none : w.drop_tied.result ≡ false = search rules in
          let same = ap length (w.drop_tied.ensures.apart none).0 in
          let rest = ap length w.in_ok-push_last-in-Greater.ensures.rest in
          let fewer : length w.push_last.new.waiting ≤ length c.loop-order.waiting =
          omega (
            arith,
            same,
            rest,
            length-drop 1 (reverse ws),
            length-reverse ws,
            length-reverse w.push_last.new.waiting,
          ) in
          (fewer, omega (arith, fewer)))
      | in-Greater+else-not-drop_tied w ↦ rw (w.left-is, w.waiting-is)
          (let some : w.drop_tied.result ≡ true = search rules in
          let fewer = w.drop_tied.ensures.tied some in
          (omega (arith, fewer), omega (arith, fewer)))
    ]

pub returns-then-is_full-clause-sorted : goal.returns-then-is_full-clause-sorted
returns-then-is_full-clause-sorted c =
    sorted ((goal.at.returns-then-is_full-clause-sorted c).After-is_full)

pub returns-then-is_full-clause-all : goal.returns-then-is_full-clause-all
returns-then-is_full-clause-all c =
    all ((goal.at.returns-then-is_full-clause-all c).After-is_full)

pub loop-order-preserved : goal.loop-order-preserved
loop-order-preserved c =
    let w = (goal.at.loop-order-preserved c).After-is_full in
    record {
      sorted = sorted w;
      rising = search rules;
      all = all w;
      fewer = omega (arith, (fewer w).0, c.loop-order.invariant.fewer);
      less = omega (arith, (fewer w).1, c.loop-order.invariant.less);
    }

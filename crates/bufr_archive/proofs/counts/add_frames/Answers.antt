-- Frame by frame; the number of frames bounds the counts.
use Rattle.std.proofs.Common.{◌∙◌, ◌+◌, ap, subst, arith, Ok, Err, List, ℕ}
use Rattle.std.proofs.lemmas.List.{take_all}
use Rattle.bufr_gather.specs.Archives.{ArchiveView}
use Rattle.bufr_archive.specs.Adding.{AddsMessage}
use Rattle.bufr_archive.proofs.CountFacts.{none_yet, one_added, one_refused, ran_out, all_added}
use Rattle.bufr_archive.proofs.CountFacts.{moved, octets_at, not_memory}
use Rattle.bufr_archive.proofs.counts.add_frames.Goals.{in-Ok, in-Err-Refused}
use Rattle.bufr_archive.proofs.counts.add_frames.Goals as goal

pub loop-frame-init : goal.loop-frame-init
loop-frame-init g c = none_yet c.args.archive.now c.args.frames.now c.archive_is_kept.ensures

pub overflow_add-counts : goal.overflow_add-counts
overflow_add-counts g c =
    let a =
    c.loop-frame.invariant.messages_few in let b = c.loop-frame-test.true in omega (arith, a, b)

pub overflow_add-counts-in-Ok : goal.overflow_add-counts-in-Ok
overflow_add-counts-in-Ok g c =
    let s =
    c.loop-frame.invariant in let a =
    s.changed_few in let b = s.few in let d = c.in-Ok.ensures.reports in
    let e =
    c.in-Ok.ensures.changed in let f = c.loop-frame-test.true in omega (arith, a, b, d, e, f)

pub overflow_add-joined : goal.overflow_add-joined
overflow_add-joined g c =
    let b = c.loop-frame.invariant.few in let d = c.in-Ok.ensures.reports in
    let f = c.loop-frame-test.true in omega (arith, b, d, f)

pub overflow_add-counts-in-Err-Refused : goal.overflow_add-counts-in-Err-Refused
overflow_add-counts-in-Err-Refused g c =
    let a =
    c.loop-frame.invariant.refused_few in let b = c.loop-frame-test.true in omega (arith, a, b)

pub overflow_add-result : goal.overflow_add-result
overflow_add-result g c =
    let b = c.loop-frame.invariant.few in
    let d =
    c.add_octets.ensures.done c.in-Err-OutOfMemory.done
    (c.in-Err-OutOfMemory.is ∙ ap Err c.in-Err-OutOfMemory.field-0-is) in
    let f = c.loop-frame-test.true in omega (arith, b, d, f)

pub returns-in-Err-OutOfMemory-clause-adds : goal.returns-in-Err-OutOfMemory-clause-adds
returns-in-Err-OutOfMemory-clause-adds g c =
    let fs = c.args.frames.now in let i = c.loop-frame.frame-index in let f = c.frame-item.result in
    let at = octets_at fs i f c.as_slice.result.now c.frame-item.is c.as_slice.ensures in
    ran_out c.args.archive.now c.loop-frame.archive c.add_octets.new.archive fs i f
    c.loop-frame.counts c.loop-frame.joined c.in-Err-OutOfMemory.field-0
    c.in-Err-OutOfMemory.done
    c.loop-frame-test.true c.loop-frame.invariant
    (subst (λ (o : List ℕ). AddsMessage c.loop-frame.archive c.add_octets.new.archive o
    (Err c.in-Err-OutOfMemory.field-0)) at c.in-Err-OutOfMemory.ensures.adds)
    c.in-Err-OutOfMemory.field-0-is

pub returns-in-Err-OutOfMemory-clause-tables : goal.returns-in-Err-OutOfMemory-clause-tables
returns-in-Err-OutOfMemory-clause-tables g c =
    ap (λ (a : ArchiveView). a.tables) (returns-in-Err-OutOfMemory-clause-adds g c).archive

pub loop-frame-preserved : goal.loop-frame-preserved
loop-frame-preserved g c =
    let fs = c.args.frames.now in let i = c.loop-frame.frame-index in let f = c.frame-item.result in
    let at = octets_at fs i f c.as_slice.result.now c.frame-item.is c.as_slice.ensures in
    let old =
    c.args.archive.now in let new =
    c.loop-frame.archive in let next = c.add_octets.new.archive in
    elim c.match-add_octets.branch [
      | in-Ok w ↦
          moved old next fs (i + 1) _ c.match-add_octets.counts _ c.match-add_octets.joined
          (one_added old new next fs i f c.loop-frame.counts c.loop-frame.joined w.in-Ok.added
          c.loop-frame-test.true c.loop-frame.invariant
          (subst (λ (o : List ℕ). AddsMessage new next o
          (Ok w.in-Ok.added)) at w.in-Ok.ensures.adds) w.in-Ok.ensures.reports
          w.in-Ok.ensures.changed)
          w.counts-is w.joined-is
      | in-Err-Refused w ↦
          moved old next fs (i + 1) _ c.match-add_octets.counts _ c.match-add_octets.joined
          (one_refused old new next fs i f c.loop-frame.counts c.loop-frame.joined
          w.in-Err-Refused.field-0 c.loop-frame-test.true c.loop-frame.invariant
          (subst (λ (o : List ℕ). AddsMessage new next o
          (Err w.in-Err-Refused.field-0)) at w.in-Err-Refused.ensures.adds)
          (not_memory w.in-Err-Refused.field-0 w.in-Err-Refused.field-0-0
          w.in-Err-Refused.field-0-is))
          w.counts-is w.joined-is
    ]

pub returns-clause-adds : goal.returns-clause-adds
returns-clause-adds g c =
    all_added c.args.archive.now c.loop-frame.archive c.args.frames.now c.loop-frame.frame-index
    c.loop-frame.counts c.loop-frame.joined
    (take_all c.loop-frame.frame-index c.args.frames.now c.loop-frame-test.false)
    c.loop-frame.invariant

pub returns-clause-tables : goal.returns-clause-tables
returns-clause-tables g c = ap (λ (a : ArchiveView). a.tables) c.loop-frame.invariant.archive

-- The archive adds the frames that are sure now.
use Rattle.std.proofs.Common.{◌∙◌, ◌+◌, ◌++◌, drop, length, refl, ap, sym, subst, arith}
use Rattle.bufr_frame.specs.Streams.{sure, Stands}
use Rattle.bufr_gather.specs.Archives.{IsKept}
use Rattle.bufr_archive.specs.Holdings.{Holding}
use Rattle.bufr_archive.specs.HeldSteps.{AddsFrames, AddsSome}
use Rattle.bufr_archive.proofs.CountFacts.{octets_are, added_none, of_held}
use Rattle.bufr_archive.proofs.intakes.Intake.feed.Goals as goal

pub returns-in_default-clause-feeds : goal.returns-in_default-clause-feeds
returns-in_default-clause-feeds g c =
    let v = c.self.view_is in
    let a =
    c.if-piece-fed.false in let b = c.fed.ensures ∙ ap (λ (h : Holding). h.framer.fed) v in (
      omega (arith, a, b),
      octets_are c.args.piece.now c.type_inv.piece,
      refl,
      λ stream out st. added_none c.args.self.now.archive
          (drop out (sure (stream ++ c.args.piece.now)))
          (subst (λ (h : Holding). IsKept h.archive) v c.archive_is_kept.ensures),
    )

pub returns-in-Ok-add_frames-clause-feeds : goal.returns-in-Ok-add_frames-clause-feeds
returns-in-Ok-add_frames-clause-feeds g c =
    let v = c.self.view_is in
    let a = c.if-piece-fed.false in let b = c.fed.ensures ∙ ap (λ (h : Holding). h.framer.fed) v in
    let piece = c.args.piece.now in (
      omega (arith, a, b),
      octets_are c.args.piece.now c.type_inv.piece,
      λ stream out st. subst (λ n. Stands n (stream ++ piece) (length (sure (stream ++ piece))))
          (sym c.settle.ensures.next)
          (c.in-Ok.ensures.next stream out
          (subst (λ (h : Holding). Stands h.framer stream out) (sym v) st)),
      λ stream out st. (
        c.in-Ok-add_frames.counts,
        c.fed-in-Ok-add_frames.ensures,
        of_held (λ a fs. AddsFrames a c.add_frames.new.archive fs c.in-Ok-add_frames.counts)
            _ _ c.found.result.now (drop out (sure (stream ++ piece))) v
            (c.found.ensures ∙ c.in-Ok.ensures.found stream out
            (subst (λ (h : Holding). Stands h.framer stream out) (sym v) st))
            c.in-Ok-add_frames.ensures.adds,
      ),
    )

pub returns-in-Err-clause-feeds : goal.returns-in-Err-clause-feeds
returns-in-Err-clause-feeds g c =
    let v = c.self.view_is in
    let a = c.if-piece-fed.false in let b = c.fed.ensures ∙ ap (λ (h : Holding). h.framer.fed) v in
    let piece = c.args.piece.now in (
      omega (arith, a, b),
      octets_are c.args.piece.now c.type_inv.piece,
      ap (λ (h : Holding). h.framer) v,
      λ stream out st.
          of_held (λ a fs. AddsSome a c.add_frames.new.archive fs c.in-Err.field-0.done)
          _ _ c.found.result.now (drop out (sure (stream ++ piece))) v
          (c.found.ensures ∙ c.in-Ok.ensures.found stream out
          (subst (λ (h : Holding). Stands h.framer stream out) (sym v) st))
          c.in-Err.ensures.adds,
    )

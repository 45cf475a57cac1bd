-- The archive adds the last frames of the stream.
use Rattle.std.proofs.Common.{◌∙◌, drop, sym, subst}
use Rattle.bufr_frame.specs.Streams.{cut, Stands}
use Rattle.bufr_archive.specs.Holdings.{Holding}
use Rattle.bufr_archive.specs.HeldSteps.{AddsFrames}
use Rattle.bufr_archive.proofs.CountFacts.{of_held}
use Rattle.bufr_archive.proofs.intakes.Intake.end.Goals as goal

pub returns-in-Ok-add_frames-clause-ends : goal.returns-in-Ok-add_frames-clause-ends
returns-in-Ok-add_frames-clause-ends g c =
    let v = c.self.view_is in (
      c.settle.ensures.next ∙ c.in-Ok.ensures.next,
      λ stream out st. (
        c.in-Ok-add_frames.counts,
        c.ended.ensures,
        of_held (λ a fs. AddsFrames a c.add_frames.new.archive fs c.in-Ok-add_frames.counts)
            _ _ c.found.result.now (drop out (cut stream)) v
            (c.found.ensures ∙ c.in-Ok.ensures.found stream out
            (subst (λ (h : Holding). Stands h.framer stream out) (sym v) st))
            c.in-Ok-add_frames.ensures.adds,
      ),
    )

-- The clause `tells` of `refuse`: the text of the line.
use Rattle.std.proofs.Common.{◌∙◌, List, ℕ, subst}
use Rattle.bufr_select_engine.specs.Tells.{Tells}
use Rattle.bufr_select_engine.proofs.frame_selector.FrameSelector.refuse.Goals as goal

-- the line that was told is that of the frame
pub returns-clause-tells : goal.returns-clause-tells
returns-clause-tells g c =
    subst
    (λ (t : List ℕ). Tells t c.args.self.now.unheard (g.E.Sink.writing c.args.writer.now)
    c.tell-self.result (g.E.Sink.writing c.tell-self.new.writer))
    (c.as_bytes.ensures.value ∙ c.in_ok-line.ensures) c.tell-self.ensures.tells

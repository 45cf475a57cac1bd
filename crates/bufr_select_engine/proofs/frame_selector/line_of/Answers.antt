-- The clause of `line_of`: the pieces of the line.
use Rattle.std.proofs.Common.{◌∙◌, ◌∷◌, [], codes, decimal}
use Rattle.bufr_select_rows.specs.Pairs.{unread_reason}
use Rattle.bufr_select_engine.proofs.ToldFacts.{pieces_joined}
use Rattle.bufr_select_engine.proofs.frame_selector.line_of.Goals as goal

pub returns : goal.returns
returns c =
    c.in_ok-format.ensures.ok
    ∙ pieces_joined (codes "bufr-select: input ") (decimal c.args.input) (codes " at ")
    (decimal c.args.place) (codes ": ") (unread_reason c.args.why.now) (10 ∷ [])

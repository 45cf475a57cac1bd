-- A command under tables, and its input.
use Rattle.std.proofs.Common.{ap, ap₂, ◌∙◌}
use Rattle.std.proofs.lemmas.Result.{IfOk-weaker}
use Rattle.clap.specs.Words.{App, with_rule}
use Rattle.bufr_tool.proofs.command_line.reading.Goals as goal

pub returns : goal.returns
returns c =
    IfOk-weaker c.arg.result _ _
    (λ r a. ap (λ (x : App). x.top)
    (a.shape c.input.ensures.local
    ∙ ap₂ with_rule c.in_ok-under_tables.ensures c.input.ensures.rule)) c.arg.ensures

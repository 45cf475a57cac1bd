-- Argument by argument: the tables, the flag, the input.
use Rattle.std.proofs.Common.{ap, ap₂, ◌∙◌}
use Rattle.std.proofs.lemmas.Result.{IfOk-weaker}
use Rattle.clap.specs.Words.{App, with_rule}
use Rattle.bufr_tool.proofs.command_line.encoding.Goals as goal

pub returns : goal.returns
returns c =
    let one = c.in_ok-arg.ensures.shape c.switch.ensures.local
    ∙ ap₂ with_rule c.in_ok-under_tables.ensures c.switch.ensures.rule in
    IfOk-weaker c.arg-2.result _ _
    (λ r a. ap (λ (x : App). x.top)
    (a.shape c.input.ensures.local ∙ ap₂ with_rule one c.input.ensures.rule)) c.arg-2.ensures

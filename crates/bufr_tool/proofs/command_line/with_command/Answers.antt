-- The command comes after those of the program, if memory suffices for both.
use Rattle.std.proofs.Common.{◌≡◌, IfOk, ap, ap₂, subst, ◌∙◌}
use Rattle.std.proofs.lemmas.Result.{IfOk-weaker}
use Rattle.clap.specs.Words.{Shape, app_of, shape_of, with_subcommand}
use Rattle.bufr_tool.proofs.CommandFacts.{third_denied}
use Rattle.bufr_tool.proofs.command_line.with_command.Goals as goal

pub returns : goal.returns
returns c app shape before command plain =
    let one = subst (λ r. IfOk r (λ p. app_of p ≡ app)) c.in_ok-before.was before in
    let more = subst (λ r. IfOk r (λ p. shape_of p ≡ shape)) c.in_ok-command.was command in
    IfOk-weaker c.subcommand.result _ _
    (λ r a. a.shape (third_denied _ _ _ _ (ap (λ (s : Shape). s.is_plain) more ∙ plain))
    ∙ ap₂ with_subcommand one more)
    c.subcommand.ensures

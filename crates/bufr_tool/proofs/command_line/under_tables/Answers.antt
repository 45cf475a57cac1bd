-- The options of both tables.
use Rattle.std.proofs.Common.{rules, ◌≡◌, ap₂, ◌∙◌, codes}
use Rattle.std.proofs.lemmas.Result.{IfOk-weaker}
use Rattle.clap.specs.Words.{app_of, new_app, rule_of, with_rule}
use Rattle.bufr_tool.specs.CommandLines.{path_option}
use Rattle.bufr_tool.proofs.command_line.under_tables.Goals as goal

pub returns : goal.returns
returns c =
    let b_is : rule_of c.path.result ≡ path_option (codes "b") 98 = search rules in
    let d_is : rule_of c.path-2.result ≡ path_option (codes "d") 100 = search rules in
    let none : app_of c.after_help.result ≡ new_app c.args.name.now = search rules in
    let one = c.in_ok-arg.ensures.shape (search rules) ∙ ap₂ with_rule none b_is in
    IfOk-weaker c.arg-2.result _ _
    (λ r a. a.shape (search rules) ∙ ap₂ with_rule one d_is) c.arg-2.ensures

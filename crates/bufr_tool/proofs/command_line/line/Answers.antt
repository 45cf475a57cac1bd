-- Each part of the line is what `clap` returns for the words under the program's commands.
use Rattle.std.proofs.Common.{◌≡◌, ◌∙◌, true, codes, ap, refl, subst, List, map}
use Rattle.clap.specs.Words.{App, HasMatchesOf, Text, is_simple, takes, kind_of, subcommand_of}
use Rattle.clap.specs.Words.{subcommand_rows_of}
use Rattle.clap.specs.declared.parser.matches.ArgMatches.{ArgMatches}
use Rattle.clap.specs.declared.error.ErrorKind.TheVariants.{OutOfMemory}
use Rattle.clap.specs.declared.error.Error.{Error}
use Rattle.clap.proofs.OnLiterals.{clap_on_literals}
use Rattle.clap.proofs.TakesLemmas.{passed_up}
use Rattle.bufr_tool.specs.CommandLines.{Named, commands, command_in, value_in, values_in, flag_in}
use Rattle.bufr_tool.proofs.command_line.line.Goals as goal

simple : is_simple commands ≡ true
unfolding clap_on_literals
simple = refl

said : {A : Type 0} (made : Named → A) (answer : A) (a : App) (words : List Text)
    (matches : ArgMatches) → answer ≡ made (subcommand_rows_of matches) → a ≡ commands
    → HasMatchesOf a words matches → answer ≡ made (subcommand_of commands words)
said made answer a words matches is named has =
    is ∙ ap made (subst (λ (a : App). HasMatchesOf a words matches) named has simple).1

pub returns-clause-command : goal.returns-clause-command
returns-clause-command g c =
    said command_in _ _ (map g.S.AsStr.text c.args.words.now) c.in_ok-matches.matches
    c.in_ok-line_of.ensures.command c.in_ok-bufr.ensures c.in_ok-matches.ensures.matches

pub returns-clause-b : goal.returns-clause-b
returns-clause-b g c =
    said (value_in (codes "b")) _ _ (map g.S.AsStr.text c.args.words.now) c.in_ok-matches.matches
    c.in_ok-line_of.ensures.b c.in_ok-bufr.ensures c.in_ok-matches.ensures.matches

pub returns-clause-d : goal.returns-clause-d
returns-clause-d g c =
    said (value_in (codes "d")) _ _ (map g.S.AsStr.text c.args.words.now) c.in_ok-matches.matches
    c.in_ok-line_of.ensures.d c.in_ok-bufr.ensures c.in_ok-matches.ensures.matches

pub returns-clause-compressed : goal.returns-clause-compressed
returns-clause-compressed g c =
    said (flag_in (codes "compressed")) _ _ (map g.S.AsStr.text c.args.words.now)
    c.in_ok-matches.matches c.in_ok-line_of.ensures.compressed c.in_ok-bufr.ensures
    c.in_ok-matches.ensures.matches

pub returns-clause-out : goal.returns-clause-out
returns-clause-out g c =
    said (value_in (codes "out")) _ _ (map g.S.AsStr.text c.args.words.now) c.in_ok-matches.matches
    c.in_ok-line_of.ensures.out c.in_ok-bufr.ensures c.in_ok-matches.ensures.matches

pub returns-clause-inputs : goal.returns-clause-inputs
returns-clause-inputs g c =
    said (values_in (codes "input")) _ _ (map g.S.AsStr.text c.args.words.now)
    c.in_ok-matches.matches c.in_ok-line_of.ensures.inputs c.in_ok-bufr.ensures
    c.in_ok-matches.ensures.matches

pub returns-in_err-matches-clause-taken : goal.returns-in_err-matches-clause-taken
returns-in_err-matches-clause-taken g c =
    passed_up c.from_residual-in_err-matches.result c.in_err-matches.field-0.0
    (λ (e : Error). takes commands (map g.S.AsStr.text c.args.words.now) ≡ true → kind_of e
    ≡ OutOfMemory)
    c.from_residual-in_err-matches.ensures.1
    (subst (λ (a : App). takes a (map g.S.AsStr.text c.args.words.now) ≡ true
    → kind_of c.in_err-matches.field-0.0
    ≡ OutOfMemory) c.in_ok-bufr.ensures c.in_err-matches.ensures.passes)

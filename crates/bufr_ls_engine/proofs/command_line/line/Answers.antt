-- The clauses of `line`: what `clap` answers to the words.
use Rattle.std.proofs.Common.{◌≡◌, ◌∙◌, true, codes, ap, refl, subst, List, map}
use Rattle.clap.specs.Words.{App, HasMatchesOf, Row, Text, first_of, found_of, is_simple, kind_of}
use Rattle.clap.specs.Words.{matches_of, rows_of, takes}
use Rattle.clap.specs.declared.parser.matches.ArgMatches.{ArgMatches}
use Rattle.clap.specs.declared.error.ErrorKind.TheVariants.{OutOfMemory}
use Rattle.clap.specs.declared.error.Error.{Error}
use Rattle.clap.proofs.OnLiterals.{clap_on_literals}
use Rattle.clap.proofs.TakesLemmas.{passed_up}
use Rattle.clap.proofs.WalkLemmas.{first_value-rows}
use Rattle.bufr_program.specs.Arguments.{values_in}
use Rattle.bufr_ls_engine.specs.CommandLines.{program}
use Rattle.bufr_ls_engine.proofs.command_line.line.Goals as goal

-- the program's words are read in the simple way
simple : is_simple program ≡ true
unfolding clap_on_literals
simple = refl

-- what is made of the rows of the matches is made of those that the words have
said : {A : Type 0} (made : List Row → A) (answer : A) (a : App) (words : List Text)
    (matches : ArgMatches) → answer ≡ made (rows_of (found_of matches)) → a ≡ program
    → HasMatchesOf a words matches → answer ≡ made (matches_of program words)
said made answer a words matches is named has =
    is ∙ ap made (subst (λ (a : App). HasMatchesOf a words matches) named has simple).0

-- the columns are the value of their option
pub returns-clause-columns : goal.returns-clause-columns
returns-clause-columns g c =
    said (first_of (codes "columns")) _ _ (map g.S.AsStr.text c.args.words.now)
    c.in_ok-matches.matches
    (c.get_str-columns.ensures
    ∙ first_value-rows (found_of c.in_ok-matches.matches) (codes "columns"))
    c.in_ok-program.ensures c.in_ok-matches.ensures.matches

-- the files are the values of their argument, in order
pub returns-clause-files : goal.returns-clause-files
returns-clause-files g c =
    said (values_in (codes "file")) _ _ (map g.S.AsStr.text c.args.words.now)
    c.in_ok-matches.matches c.in_ok-files.ensures c.in_ok-program.ensures
    c.in_ok-matches.ensures.matches

-- words that are taken are refused for want of memory alone
pub returns-in_err-matches-clause-taken : goal.returns-in_err-matches-clause-taken
returns-in_err-matches-clause-taken g c =
    passed_up c.from_residual-in_err-matches.result c.in_err-matches.field-0.0
    (λ (e : Error). takes program (map g.S.AsStr.text c.args.words.now) ≡ true → kind_of e
    ≡ OutOfMemory)
    c.from_residual-in_err-matches.ensures.1
    (subst (λ (a : App). takes a (map g.S.AsStr.text c.args.words.now) ≡ true
    → kind_of c.in_err-matches.field-0.0
    ≡ OutOfMemory) c.in_ok-program.ensures c.in_err-matches.ensures.passes)

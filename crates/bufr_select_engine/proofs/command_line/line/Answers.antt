-- The clauses of `line`: what `clap` answers to the words.
use Rattle.std.proofs.Common.{◌≡◌, ◌∙◌, true, codes, ap, refl, subst, List, map, [], unwrap_or}
use Rattle.clap.specs.Words.{App, HasKind, HasMatchesOf, Row, Text, fault_of, found_of, is_simple, is_simple_and_free, kind_of}
use Rattle.clap.specs.Words.{matches_of, rows_of, takes}
use Rattle.clap.specs.declared.parser.matches.ArgMatches.{ArgMatches}
use Rattle.clap.specs.declared.error.ErrorKind.TheVariants.{OutOfMemory}
use Rattle.clap.specs.declared.error.Error.{Error}
use Rattle.clap.proofs.OnLiterals.{clap_on_literals}
use Rattle.clap.proofs.KindLemmas.{fails_by_from}
use Rattle.clap.proofs.TakesLemmas.{passed_up}
use Rattle.bufr_program.specs.Arguments.{values_in}
use Rattle.bufr_select_engine.specs.CommandLines.{program, value_in}
use Rattle.bufr_select_engine.proofs.command_line.line.Goals as goal

-- the program's words are read in the simple way
simple : is_simple program ≡ true
unfolding clap_on_literals
simple = refl

-- what is made of the rows of the matches is made of those that the words have
said : {A : Type 0} (made : List Row → A) (answer : A) (a : App) (words : List Text)
    (matches : ArgMatches) → answer ≡ made (rows_of (found_of matches)) → a ≡ program
    → HasMatchesOf a words matches → answer ≡ made (matches_of program words)
said made answer a words matches is named has =
    is ∙ ap made (subst (λ (a : App). HasMatchesOf a words matches) named has simple).0

pub returns-clause-b : goal.returns-clause-b
returns-clause-b g c =
    said (values_in (codes "b")) _ _ (map g.S.AsStr.text c.args.words.now) c.in_ok-matches.matches
    c.in_ok-line_of.ensures.b c.in_ok-program.ensures c.in_ok-matches.ensures.matches

pub returns-clause-d : goal.returns-clause-d
returns-clause-d g c =
    said (values_in (codes "d")) _ _ (map g.S.AsStr.text c.args.words.now) c.in_ok-matches.matches
    c.in_ok-line_of.ensures.d c.in_ok-program.ensures c.in_ok-matches.ensures.matches

pub returns-clause-versions : goal.returns-clause-versions
returns-clause-versions g c =
    said (values_in (codes "version-limit")) _ _ (map g.S.AsStr.text c.args.words.now)
    c.in_ok-matches.matches c.in_ok-line_of.ensures.versions c.in_ok-program.ensures
    c.in_ok-matches.ensures.matches

pub returns-clause-columns : goal.returns-clause-columns
returns-clause-columns g c =
    said (λ rows. unwrap_or (value_in (codes "columns") rows) []) _ _
    (map g.S.AsStr.text c.args.words.now) c.in_ok-matches.matches c.in_ok-line_of.ensures.columns
    c.in_ok-program.ensures c.in_ok-matches.ensures.matches

pub returns-clause-each : goal.returns-clause-each
returns-clause-each g c =
    said (value_in (codes "each")) _ _ (map g.S.AsStr.text c.args.words.now)
    c.in_ok-matches.matches c.in_ok-line_of.ensures.each c.in_ok-program.ensures
    c.in_ok-matches.ensures.matches

pub returns-clause-files : goal.returns-clause-files
returns-clause-files g c =
    said (values_in (codes "file")) _ _ (map g.S.AsStr.text c.args.words.now)
    c.in_ok-matches.matches c.in_ok-line_of.ensures.files c.in_ok-program.ensures
    c.in_ok-matches.ensures.matches

-- words that are taken are refused for want of memory alone
pub returns-in_err-matches-clause-taken : goal.returns-in_err-matches-clause-taken
returns-in_err-matches-clause-taken g c =
    passed_up c.from_residual-in_err-matches.result c.in_err-matches.field-0.0
    (λ (e : Error). takes program (map g.S.AsStr.text c.args.words.now) ≡ true → kind_of e
    ≡ OutOfMemory)
    c.from_residual-in_err-matches.ensures.1
    (subst (λ (a : App). takes a (map g.S.AsStr.text c.args.words.now) ≡ true
    → kind_of c.in_err-matches.field-0.0
    ≡ OutOfMemory) c.in_ok-program.ensures c.in_err-matches.ensures.passes)

-- no argument of the program has a rule on another
free : is_simple_and_free program ≡ true
unfolding clap_on_literals
free = refl

-- words that were read have no fault
none_at : (a : App) (words : List Text) → a ≡ program
    → (is_simple_and_free a ≡ true → fault_of a words ≡ []) → fault_of program words ≡ []
none_at a words is none =
    subst (λ (x : App). is_simple_and_free x ≡ true → fault_of x words ≡ []) is none free

-- others have one of the kinds that are theirs
one_at : (a : App) (words : List Text) (e : Error) → a ≡ program
    → (is_simple_and_free a ≡ true → HasKind (fault_of a words) e)
    → HasKind (fault_of program words) e
one_at a words e is one =
    subst (λ (x : App). is_simple_and_free x ≡ true → HasKind (fault_of x words) e) is one free

pub returns-clause-faults : goal.returns-clause-faults
returns-clause-faults g c =
    none_at _ (map g.S.AsStr.text c.args.words.now) c.in_ok-program.ensures
    c.in_ok-matches.ensures.kinds

pub returns-in_err-matches-clause-faults : goal.returns-in_err-matches-clause-faults
returns-in_err-matches-clause-faults g c =
    let words = map g.S.AsStr.text c.args.words.now in
    fails_by_from (fault_of program words) c.from_residual-in_err-matches.result
    c.in_err-matches.field-0.0
    (one_at _ words c.in_err-matches.field-0.0 c.in_ok-program.ensures
    c.in_err-matches.ensures.kinds)
    c.from_residual-in_err-matches.ensures.0 c.from_residual-in_err-matches.ensures.1

-- The command line of the program, by the words of `clap`.
use Rattle.std.specs.Prelude.{ℕ, true, List, [], ◌∷◌, codes, Option, Some}
use Rattle.clap.specs.Words.{App, Rule, first_of, matches_of, new_app, new_rule, with_rule}
use Rattle.clap.specs.Simple.{on_top}
use Rattle.clap.specs.declared.builder.action.ArgAction.TheVariants.{Set}
use Rattle.bufr_program.specs.Arguments.{files_argument, values_in}

-- the option of the columns: `-c COLUMNS`
abbrev pub columns_option : Rule
columns_option = record
    (new_rule (codes "columns")) { short = Some 99; action = Some Set; value_names = 1 }

-- the program without arguments, which has a version, and gets words without its name
abbrev pub bare_program : App
bare_program = on_top (λ s. record s { has_version = true; no_binary_name = true })
    (new_app (codes "bufr-ls"))

-- the program
abbrev pub program : App
program = with_rule (with_rule bare_program columns_option) files_argument

-- the value of an argument, by the parse that `clap` defines for words
abbrev pub value_of : List ℕ → List (List ℕ) → Option (List ℕ)
value_of id words = first_of id (matches_of program words)

-- all values of an argument
abbrev pub values_of : List ℕ → List (List ℕ) → List (List ℕ)
values_of id words = values_in id (matches_of program words)

-- a line with columns, whose option may be anywhere
abbrev pub words_with_columns : List (List ℕ)
words_with_columns = codes "06.bufr" ∷ codes "-c" ∷ codes "centre,category" ∷ codes "12.bufr" ∷ []

-- a line without
abbrev pub words_alone : List (List ℕ)
words_alone = codes "06.bufr" ∷ codes "12.bufr" ∷ codes "18.bufr" ∷ []

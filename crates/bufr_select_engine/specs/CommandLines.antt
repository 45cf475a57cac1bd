-- The command line of the program, by the words of `clap`.
use Rattle.std.specs.Prelude.{ℕ, ◌<◌, Bool, true, false, List, [], ◌∷◌, codes, Option, Some}
use Rattle.clap.specs.Words.{App, Row, Rule, first_of, matches_of, new_app, new_rule, with_rule}
use Rattle.clap.specs.Simple.{on_top}
use Rattle.clap.specs.declared.builder.action.ArgAction.{ArgAction}
use Rattle.clap.specs.declared.builder.action.ArgAction.TheVariants.{Set, Append}
use Rattle.bufr_program.specs.Arguments.{files_argument, values_in}

-- ---- the arguments

-- an option of one value or of several, by its letter; the line must have it if it is required
abbrev pub option_of : List ℕ → ℕ → ArgAction → Bool → Rule
option_of id letter action required = record
    (new_rule id) {
      short = Some letter;
      action = Some action;
      value_names = 1;
      required = required;
    }

-- the program, which has a version, and gets words without its name
abbrev pub bare_program : App
bare_program = on_top (λ s. record s { has_version = true; no_binary_name = true })
    (new_app (codes "bufr-select"))

-- with the options of pairs of tables, each perhaps several times: `-v N`, `-b TABLE_B` and
-- `-d TABLE_D`
abbrev pub under_tables : App
under_tables = with_rule
    (with_rule
    (with_rule bare_program (option_of (codes "version-limit") 118 Append false))
    (option_of (codes "b") 98 Append true))
    (option_of (codes "d") 100 Append true)

-- with `-c COLUMNS`, perhaps `-e FXY`, and the files
abbrev pub program : App
program = with_rule
    (with_rule (with_rule under_tables (option_of (codes "columns") 99 Set true))
    (option_of (codes "each") 101 Set false))
    files_argument

-- ---- the values

-- the value of an argument in rows
abbrev pub value_in : List ℕ → List Row → Option (List ℕ)
value_in id rows = first_of id rows

-- the value of an argument in words, by the parse that `clap` defines for them
abbrev pub value_of : List ℕ → List (List ℕ) → Option (List ℕ)
value_of id words = value_in id (matches_of program words)

-- all values of an argument in words
abbrev pub values_of : List ℕ → List (List ℕ) → List (List ℕ)
values_of id words = values_in id (matches_of program words)

-- a version of tables has 8 bits
abbrev pub IsVersion : ℕ → Type 0
IsVersion version = version < 256

-- ---- lines

-- a line of one pair of tables, whose options may be anywhere
abbrev pub words_of_one_pair : List (List ℕ)
words_of_one_pair =
    codes "06.bufr" ∷ codes "-d" ∷ codes "sequences.csv" ∷ codes "-c" ∷ codes "001001,012101"
    ∷ codes "-b" ∷ codes "elements.csv" ∷ codes "12.bufr" ∷ []

-- a line of two pairs with spans
abbrev pub words_of_two_pairs : List (List ℕ)
words_of_two_pairs =
    codes "-v" ∷ codes "13" ∷ codes "-b" ∷ codes "b13.csv" ∷ codes "-d" ∷ codes "d13.csv"
    ∷ codes "-v" ∷ codes "46" ∷ codes "-b" ∷ codes "b46.csv" ∷ codes "-d" ∷ codes "d46.csv"
    ∷ codes "-e" ∷ codes "007004" ∷ codes "-c" ∷ codes "input" ∷ codes "temp.bufr" ∷ []

-- a line without columns
abbrev pub words_without_columns : List (List ℕ)
words_without_columns =
    codes "-b" ∷ codes "elements.csv" ∷ codes "-d" ∷ codes "sequences.csv" ∷ codes "06.bufr" ∷ []

-- a line without a table of elements
abbrev pub words_without_elements : List (List ℕ)
words_without_elements =
    codes "-d" ∷ codes "sequences.csv" ∷ codes "-c" ∷ codes "input" ∷ codes "06.bufr" ∷ []

-- a line without a table of sequences
abbrev pub words_without_sequences : List (List ℕ)
words_without_sequences =
    codes "-b" ∷ codes "elements.csv" ∷ codes "-c" ∷ codes "input" ∷ codes "06.bufr" ∷ []

-- a line without files
abbrev pub words_without_files : List (List ℕ)
words_without_files =
    codes "-b" ∷ codes "elements.csv" ∷ codes "-d" ∷ codes "sequences.csv" ∷ codes "-c"
    ∷ codes "input" ∷ []

-- a line with an option that is not there
abbrev pub words_with_another_option : List (List ℕ)
words_with_another_option = codes "-x" ∷ words_of_one_pair

-- a line with columns twice
abbrev pub words_with_columns_twice : List (List ℕ)
words_with_columns_twice = codes "-c" ∷ codes "message" ∷ words_of_one_pair

-- a line with the descriptor of spans twice
abbrev pub words_with_each_twice : List (List ℕ)
words_with_each_twice = codes "-e" ∷ codes "012101" ∷ words_of_two_pairs

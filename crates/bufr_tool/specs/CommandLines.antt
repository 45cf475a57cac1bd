-- The command line of the program, in the words of `clap` (this project's own).
use Rattle.std.specs.Prelude.{ℕ, Bool, true, List, [], ◌∷◌, codes, Option, Some, unwrap_or}
use Rattle.std.specs.Prelude.{if◌then◌else◌}
use Rattle.std.specs.Option.{option_map_or}
use Rattle.std.specs.Str.{bytes_eq}
use Rattle.clap.specs.Words.{App, Row, Rule, Shape, all_of, first_of, new_app, new_rule}
use Rattle.clap.specs.Words.{subcommand_of, with_rule, with_subcommand}
use Rattle.clap.specs.Simple.{new_shape, on_top}
use Rattle.clap.specs.declared.builder.action.ArgAction.{ArgAction}
use Rattle.clap.specs.declared.builder.action.ArgAction.TheVariants.{Set, SetTrue, Append}
use Rattle.bufr_tool.specs.declared.lines.Command.{Command}
use Rattle.bufr_tool.specs.declared.lines.Command.TheVariants.{Show, Check, Encode, Add, Merge}

-- ---- the commands

-- the option of a file: a letter and the file's path, which the line must have
abbrev pub path_option : List ℕ → ℕ → Rule
path_option id letter = record
    (new_rule id) { short = Some letter; action = Some Set; value_names = 1; required = true }

-- the path of the input, or the paths of several; the line must have one
abbrev pub input_argument : ArgAction → Rule
input_argument action = record
    (new_rule (codes "input")) { action = Some action; value_names = 1; required = true }

-- `NAME -b TABLE_B -d TABLE_D`, before it has an input
abbrev pub under_tables : List ℕ → App
under_tables name = with_rule (with_rule (new_app name) (path_option (codes "b") 98))
    (path_option (codes "d") 100)

-- `NAME -b TABLE_B -d TABLE_D INPUT`
abbrev pub reading_command : List ℕ → Shape
reading_command name = record (new_shape name) {
  rules = path_option (codes "b") 98 ∷ path_option (codes "d") 100 ∷ input_argument Set ∷ [];
}

-- `NAME -b TABLE_B -d TABLE_D -o OUT INPUT...`
abbrev pub collecting_command : List ℕ → Shape
collecting_command name = record (new_shape name) {
  rules = path_option (codes "b") 98 ∷ path_option (codes "d") 100 ∷ path_option (codes "out") 111
      ∷ input_argument Append ∷ [];
}

-- a flag, by its word
abbrev pub flag : List ℕ → Rule
flag id = record (new_rule id) { long = Some id; action = Some SetTrue }

-- `encode -b TABLE_B -d TABLE_D [--compressed] INPUT`
abbrev pub encoding_command : Shape
encoding_command = record (new_shape (codes "encode")) {
  rules = path_option (codes "b") 98 ∷ path_option (codes "d") 100 ∷ flag (codes "compressed")
      ∷ input_argument Set ∷ [];
}

-- the program's name and settings: the words come without the name, `--version` prints a version,
-- and the line must have a command
abbrev pub program : App
program = on_top (λ s. record s
    { has_version = true; no_binary_name = true; subcommand_required = true })
    (new_app (codes "bufr"))

-- the program's commands that write no archive
abbrev pub commands_without_archive : App
commands_without_archive = with_subcommand
    (with_subcommand (with_subcommand program (reading_command (codes "show")))
    (reading_command (codes "check")))
    encoding_command

-- all commands of the program
abbrev pub commands : App
commands = with_subcommand (with_subcommand commands_without_archive (collecting_command (codes "add")))
    (collecting_command (codes "merge"))

-- ---- what a line asks for

-- the command that words name, if any, with the values of its arguments
abbrev pub Named : Type 0
Named = Option (List ℕ × List Row)

-- the value of an argument; the empty text if it has none
abbrev pub value_in : List ℕ → Named → List ℕ
value_in id named = option_map_or (λ found. unwrap_or (first_of id found.1) []) named []

-- all values of an argument, in order
abbrev pub values_in : List ℕ → Named → List (List ℕ)
values_in id named = option_map_or (λ found. unwrap_or (all_of id found.1) []) named []

-- whether a flag is up
abbrev pub flag_in : List ℕ → Named → Bool
flag_in id named = bytes_eq (value_in id named) (codes "true")

-- the command of a name; `clap` takes no name but these four and `show`
abbrev pub command_named : List ℕ → Command
command_named name = if bytes_eq name (codes "check") then Check
    else if bytes_eq name (codes "encode") then Encode
    else if bytes_eq name (codes "add") then Add
    else if bytes_eq name (codes "merge") then Merge else Show

-- the command that the words name
abbrev pub command_in : Named → Command
command_in named = command_named (option_map_or (λ found. found.0) named [])

-- the value of an argument in words, by the parse that `clap` defines for them
abbrev pub value_of : List ℕ → List (List ℕ) → List ℕ
value_of id words = value_in id (subcommand_of commands words)

-- all values of an argument in words
abbrev pub values_of : List ℕ → List (List ℕ) → List (List ℕ)
values_of id words = values_in id (subcommand_of commands words)

-- whether a flag is up in words
abbrev pub flag_of : List ℕ → List (List ℕ) → Bool
flag_of id words = flag_in id (subcommand_of commands words)

-- the command that the words ask for
abbrev pub command_of : List (List ℕ) → Command
command_of words = command_in (subcommand_of commands words)

-- the words of a line of a command; its options come in any order
abbrev pub line_words : List ℕ → List (List ℕ)
line_words name = name ∷ codes "-d" ∷ codes "sequences.csv" ∷ codes "bulletin" ∷ codes "-b" ∷ codes
    "elements.csv" ∷ []

-- the words of a line of `encode` with the flag
abbrev pub compressed_words : List (List ℕ)
compressed_words = codes "encode" ∷ codes "-b" ∷ codes "elements.csv" ∷ codes "--compressed" ∷ codes
    "-d" ∷ codes "sequences.csv" ∷ codes "bulletin" ∷ []

-- the words of a line of a command that writes an archive
abbrev pub collecting_words : List ℕ → List (List ℕ)
collecting_words name = name ∷ codes "-b" ∷ codes "elements.csv" ∷ codes "first" ∷ codes "-d"
    ∷ codes "sequences.csv" ∷ codes "-o" ∷ codes "archive" ∷ codes "second" ∷ []

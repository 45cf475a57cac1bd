-- The argument of files, and the values of arguments, in the words of `clap` (this project's own).
use Rattle.std.specs.Prelude.{ℕ, true, List, [], codes, Some, unwrap_or}
use Rattle.clap.specs.Words.{Row, Rule, all_of, new_rule}
use Rattle.clap.specs.declared.builder.action.ArgAction.TheVariants.{Append}

-- the files, one at least
abbrev pub files_argument : Rule
files_argument = record
    (new_rule (codes "file")) { action = Some Append; value_names = 1; required = true }

-- all values that an argument has in rows, in order
abbrev pub values_in : List ℕ → List Row → List (List ℕ)
values_in id rows = unwrap_or (all_of id rows) []

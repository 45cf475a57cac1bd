-- The words of a command.
use Rattle.std.specs.Prelude.{ℕ, List, [], ◌∷◌, codes}

-- the words of a command, or `--help` if there are none
abbrev pub or_help : List (List ℕ) → List (List ℕ)
or_help [] = codes "--help" ∷ []
or_help (word ∷ words) = word ∷ words

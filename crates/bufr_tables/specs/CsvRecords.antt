-- The records that a `csv` reader over a slice has left.
use Rattle.std.specs.Prelude.{ℕ, ◌+◌, ◌≡◌, true, false, List, [], Option, Some, None, length}
use Rattle.std.specs.Borrow.{Bor}
use Rattle.csv.specs.Reading.{records_from, default_config, source_of, has_failed, reader_state}
use Rattle.csv.specs.Reading.{reader_trim, reader_config, is_flexible, Ready}
use Rattle.csv.specs.declared.parser.State.{State}
use Rattle.csv.specs.declared.reader.Reader.{Reader}
use Rattle.csv.specs.declared.reader.Trim.TheVariants as trim

-- the octets that a reader of a slice has left
abbrev pub source : Reader (Bor (List ℕ)) → Option (List ℕ)
source r = source_of (λ s. Some s.now) r

-- the records left to a reader in a given state
abbrev pub left_from : State → Option (List ℕ) → List (List (List ℕ))
left_from s None = []
left_from s (Some bytes) = records_from default_config (length bytes + 2) s bytes

-- the records that a reader has left; after a failure there are none
abbrev pub left_of : Reader (Bor (List ℕ)) → List (List (List ℕ))
left_of r = left_from (reader_state r) (source r)

-- a reader with the settings for table files, between two records
pub record Between (r : Reader (Bor (List ℕ))) : Type 0 where
  pub plain : reader_trim r ≡ trim.None
  pub config : reader_config r ≡ default_config
  pub ready : Ready r
  pub flexible : is_flexible r ≡ true
  pub known : (bytes : List ℕ) × (source r ≡ Some bytes)

-- a reader that is between two records unless it has failed
abbrev pub IsPlain : Reader (Bor (List ℕ)) → Type 0
IsPlain r = has_failed r ≡ false → Between r

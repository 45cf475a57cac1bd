-- A first pair of tables that reads all versions: the contract of `view_under`.
use Rattle.std.proofs.Common.{◌≡◌, ℕ, ◌==◌, false, true, List, [], ◌∷◌, length, get_or, Option, Some}
use Rattle.std.proofs.Common.{None, Result, Ok, Err, cond, refl, sym, ap}
use Rattle.std.specs.Prelude.{nat_le}
use Rattle.std.specs.Option.{is_some, option_map_or}
use Rattle.bufr_base.specs.Answers.{◌>>=◌}
use Rattle.bufr_message.specs.Messages.{message_in, message_of}
use Rattle.bufr_message.specs.declared.Refused.{Refused}
use Rattle.bufr_sections.specs.Sections.{Envelope, envelope_of}
use Rattle.bufr_select_rows.specs.Pairs.{first_reading, message_by, message_said, message_under}
use Rattle.bufr_select_rows.specs.Pairs.{or_refused, version_said}
use Rattle.bufr_select_rows.specs.declared.pairs.VersionTables.{VersionTables}

-- without a greatest version
reads_all : (version : ℕ) (greatest : Option ℕ) → is_some greatest ≡ false
    → option_map_or (λ g. nat_le version g) greatest true ≡ true
reads_all version None none = refl
reads_all version (Some g) none = absurd cc

-- it is the first that reads a version
first_of : (version : ℕ) (pair : VersionTables) (pairs : List VersionTables) → is_some pair.greatest ≡ false
    → first_reading version (pair ∷ pairs) ≡ Some pair
first_of version pair pairs none =
    ap (λ b. cond b (Some pair) (first_reading version pairs))
    (reads_all version pair.greatest none)

-- the message is that of its reader
said_by : (pair : VersionTables) (pairs : List VersionTables) (octets : List ℕ) (r : Result Envelope Refused)
    → is_some pair.greatest ≡ false → envelope_of octets ≡ r
    → message_said (pair ∷ pairs) octets (version_said r) ≡ or_refused (message_of pair.reader octets)
unfolding message_of
said_by pair pairs octets (Ok e) none is =
    ap (λ found. message_by found e.head.master_version octets)
    (first_of e.head.master_version pair pairs none)
said_by pair pairs octets (Err why) none is =
    ap (λ r. or_refused (r >>= message_in pair.reader)) (sym is)

-- so it is under pairs that begin with it
pub under_first : (pairs : List VersionTables) (c d : VersionTables) (octets : List ℕ)
    → (length pairs == 0) ≡ false → is_some (get_or pairs 0 c).greatest ≡ false
    → message_under pairs octets ≡ or_refused (message_of (get_or pairs 0 d).reader octets)
unfolding message_under
under_first [] c d octets some none = absurd cc
under_first (first ∷ pairs) c d octets some none =
    said_by first pairs octets (envelope_of octets) none refl

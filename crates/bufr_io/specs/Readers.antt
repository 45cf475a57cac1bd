-- What an engine does to readers that it reads one after another (this project's own).
use Rattle.std.specs.Prelude.{◌≡◌, ℕ, ◌+◌, ◌≤◌, Some, List, [], ◌∷◌, ◌++◌, length}
use Rattle.std.specs.List.{AllByRecursion}
use Rattle.bufr_bits.specs.Devices.{Reading}
use Rattle.bufr_io.specs.Engines.{IsFresh, WasReadOut, AreAllOf}

-- all readers work, and nobody has read them
abbrev pub AreFresh : List Reading → Type 0
AreFresh readers = AllByRecursion IsFresh readers

-- each reader has at most this number of reads
abbrev pub AreReadAtMost : ℕ → List Reading → Type 0
AreReadAtMost reads readers = AllByRecursion (λ r. r.reads ≤ reads) readers

-- each reader was read to its end, and had these octets if it tells its octets
abbrev pub WereReadOut : List Reading → List Reading → List (List ℕ) → Type 0
WereReadOut [] [] [] = Unit {0}
WereReadOut (old ∷ olds) (new ∷ news) (octets ∷ more) =
    WasReadOut new × AreAllOf old octets × WereReadOut olds news more
WereReadOut olds news octets = ⊥

-- Ends at the reader of this number, from 1: `Before` holds of those before it, `Ends` of it, and
-- the later ones are unread.
pub record EndsAt (Before : List Reading → List Reading → Type 0)
    (Ends : Reading → Reading → Type 0) (number : ℕ) (old new : List Reading) : Type 0 where
  pub before_old : List Reading
  pub before_new : List Reading
  pub at_old : Reading
  pub at_new : Reading
  pub behind : List Reading
  pub old_are : old ≡ before_old ++ at_old ∷ behind
  pub new_are : new ≡ before_new ++ at_new ∷ behind
  pub number_is : number ≡ length before_old + 1
  pub before : Before before_old before_new
  pub ends : Ends at_old at_new

-- each of the readers tells its octets, and these are left
abbrev pub AreTold : List Reading → List (List ℕ) → Type 0
AreTold [] [] = Unit {0}
AreTold (reader ∷ readers) (octets ∷ more) = (reader.left ≡ Some octets) × AreTold readers more
AreTold readers octets = ⊥

-- the first readers were read out and had these streams, and the others were not read
pub record AreReadBefore (old new : List Reading) (streams : List (List ℕ)) : Type 0 where
  pub before_old : List Reading
  pub before_new : List Reading
  pub after : List Reading
  pub old_are : old ≡ before_old ++ after
  pub new_are : new ≡ before_new ++ after
  pub before : WereReadOut before_old before_new streams

-- the first readers were read out and had these streams; of the next this holds; and the others were
-- not read
pub record AreReadTo (old new : List Reading) (streams : List (List ℕ))
    (Ends : Reading → Reading → Type 0) : Type 0 where
  pub before_old : List Reading
  pub before_new : List Reading
  pub at_old : Reading
  pub at_new : Reading
  pub after : List Reading
  pub old_are : old ≡ before_old ++ at_old ∷ after
  pub new_are : new ≡ before_new ++ at_new ∷ after
  pub before : WereReadOut before_old before_new streams
  pub ends : Ends at_old at_new

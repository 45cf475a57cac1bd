-- What engines do to their readers and their writer.
use Rattle.std.specs.Prelude.{◌≡◌, ℕ, ◌+◌, ◌≤◌, true, false, Some, List, ◌++◌, length, take, IfSome}
use Rattle.std.specs.Prelude.{Result, Ok, Err}
use Rattle.bufr_bits.specs.Devices.{Reading, Writing, Writes}
use Rattle.bufr_io.specs.declared.fault.ToolFault.{ToolFault}
use Rattle.bufr_io.specs.declared.fault.ToolFault.TheVariants as faults

-- ---- readers

-- the reader works, and nobody has read it
pub record IsFresh (r : Reading) : Type 0 where
  pub reads : r.reads ≡ 0
  pub failed : r.failed ≡ false
  pub met_end : r.met_end ≡ false

-- the reader works, and a read met its end
pub record WasReadOut (r : Reading) : Type 0 where
  pub works : r.failed ≡ false
  pub met_end : r.met_end ≡ true

-- a read failed
abbrev pub HasFailed : Reading → Type 0
HasFailed r = r.failed ≡ true

-- `most` reads returned octets
pub record IsEndless (most : ℕ) (r : Reading) : Type 0 where
  pub reads : r.reads ≡ most
  pub works : r.failed ≡ false
  pub met_end : r.met_end ≡ false

-- a reader that tells its octets gave these first ones, and has the others left
abbrev pub HasGiven : Reading → Reading → List ℕ → Type 0
HasGiven old new octets =
    IfSome old.left (λ all. (rest : List ℕ) × (all ≡ octets ++ rest) × (new.left ≡ Some rest))

-- all octets of a reader that tells them
abbrev pub AreAllOf : Reading → List ℕ → Type 0
AreAllOf old octets = IfSome old.left (λ all. all ≡ octets)

-- ---- writers

-- writes all of these octets, and the writer works
pub record WritesAll (old new : Writing) (octets : List ℕ) : Type 0 where
  pub taken : Writes old new octets
  pub works : new.failed ≡ false

-- the writer fails after the first `written` of these octets
pub record FailsAfter (written : ℕ) (old new : Writing) (octets : List ℕ) : Type 0 where
  pub within : written ≤ length octets
  pub taken : Writes old new (take written octets)
  pub failed : new.failed ≡ true

-- writes a whole text after `before` octets, or the writer fails after its first octets
abbrev pub WritesAfter : ℕ → List ℕ → Writing → Writing → Result (Unit {0}) ToolFault → Type 0
WritesAfter before text writer writer' (Ok done) = WritesAll writer writer' text
WritesAfter before text writer writer' (Err (faults.WriteFailed written)) =
    (more : ℕ) × (written ≡ before + more) × FailsAfter more writer writer' text
WritesAfter before text writer writer' (Err fault) = ⊥

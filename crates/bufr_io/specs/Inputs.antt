-- What the reads of an input return.
use Rattle.std.specs.Prelude.{◌≡◌, ℕ, ◌*◌, ◌≤◌, ◌<◌, false, Option, Some, None, List, ◌++◌, length}
use Rattle.std.specs.Prelude.{Result, Ok, Err}
use Rattle.bufr_bits.specs.Devices.{Reading}
use Rattle.bufr_io.specs.declared.fault.Input.{Input}
use Rattle.bufr_io.specs.declared.fault.ToolFault.{ToolFault}
use Rattle.bufr_io.specs.declared.fault.ToolFault.TheVariants as faults
use Rattle.bufr_io.specs.declared.input.Pieces.{Pieces}
use Rattle.bufr_io.specs.Engines.{WasReadOut, HasFailed, IsEndless, HasGiven, AreAllOf}
use Rattle.bufr_io.specs.Limits.{longest_piece}

-- the reader works, has not met its end, and gave these octets in `count` reads
pub record GoesOn (old new : Reading) (octets : List ℕ) (count : ℕ) : Type 0 where
  pub so_far : HasGiven old new octets
  pub works : new.failed ≡ false
  pub reads : new.reads ≡ count
  pub met_end : new.met_end ≡ false

-- has read pieces of an input in some of `most` reads: the reader goes on, and gave these octets,
-- at most `longest_piece` a read
pub record HasRead (name : Input) (most : ℕ) (old now : Reading) (pieces : Pieces)
    (octets : List ℕ) : Type 0 where
  pub goes_on : GoesOn old now octets pieces.made
  pub short : length octets ≤ longest_piece * pieces.made
  pub allowed : pieces.made ≤ most
  pub most_is : pieces.most ≡ most
  pub name_is : pieces.name ≡ name

-- reads one piece more after these octets; or a read meets the end, and they are all; or a read
-- fails, or all allowed reads returned octets
abbrev pub ReadsOn : Input → ℕ → Reading → Reading → Pieces → List ℕ
    → Result (Option (List ℕ)) ToolFault → Type 0
ReadsOn name most old new pieces octets (Ok (Some piece)) =
    HasRead name most old new pieces (octets ++ piece) × (0 < length piece)
ReadsOn name most old new pieces octets (Ok None) =
    WasReadOut new × AreAllOf old octets × HasGiven old new octets × (new.reads ≤ most)
    × (pieces.made ≤ most)
ReadsOn name most old new pieces octets (Err (faults.ReadFailed which)) =
    (which ≡ name) × HasFailed new × HasGiven old new octets × (new.reads ≤ most)
ReadsOn name most old new pieces octets (Err (faults.EndlessInput which)) =
    (which ≡ name) × IsEndless most new × HasGiven old new octets
ReadsOn name most old new pieces octets (Err fault) = ⊥

-- all octets of the reader, if it tells them, or the fault
abbrev pub ReadsAll : Input → ℕ → Reading → Reading → Result (List ℕ) ToolFault → Type 0
ReadsAll name reads old new (Ok octets) = WasReadOut new × AreAllOf old octets
ReadsAll name reads old new (Err (faults.ReadFailed which)) = (which ≡ name) × HasFailed new
ReadsAll name reads old new (Err (faults.EndlessInput which)) = (which ≡ name)
    × IsEndless reads new
ReadsAll name reads old new (Err faults.OutOfMemory) = Unit {0}
ReadsAll name reads old new (Err fault) = ⊥

-- Laws of a reader before its first read.
use Rattle.std.proofs.Common.{◌≡◌, ℕ, Option, Some, None, List, [], ◌++◌, refl, arith, IfSome}
use Rattle.bufr_bits.specs.Devices.{Reading}
use Rattle.bufr_io.specs.declared.fault.Input.{Input}
use Rattle.bufr_io.specs.Engines.{IsFresh, HasGiven}
use Rattle.bufr_io.specs.Inputs.{HasRead}

-- a fresh reader gave nothing
given_none : (left : Option (List ℕ))
    → IfSome left (λ all. (rest : List ℕ) × (all ≡ [] ++ rest) × (left ≡ Some rest))
given_none None = tt
given_none (Some all) = (all, refl, refl)

-- a reader has given nothing before the first read
pub HasGiven_none : (r : Reading) → HasGiven r r []
HasGiven_none r = given_none r.left

-- an engine has read no piece before the first read
pub HasRead_none : (name : Input) (most : ℕ) (reader : Reading) → IsFresh reader
    → HasRead name most reader reader (record { made = 0; most = most; name = name }) []
HasRead_none name most reader fresh = record {
  goes_on =
      record {
        so_far = HasGiven_none reader;
        works = fresh.failed;
        reads = fresh.reads;
        met_end =
            fresh.met_end;
      };
  short = omega arith;
  allowed = omega arith;
  most_is = refl;
  name_is = refl;
}

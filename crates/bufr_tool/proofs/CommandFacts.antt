-- The commands of the program, and the rows of the command that a line names: for `bufr`,
-- `without_archive`, `value`, `values` and `line`.
use Rattle.std.proofs.Common.{◌≡◌, Bool, true, false, not, ◌&&◌, List, [], Option, Some, None, ap}
use Rattle.std.proofs.Common.{refl}
use Rattle.std.proofs.Common.{option_map, unwrap_or}
use Rattle.std.specs.Option.{option_map_or}
use Rattle.clap.specs.Words.{Row}
use Rattle.bufr_tool.specs.CommandLines.{Named}

pub third_denied : (a b g rest : Bool) → (a && (not b && (not g && rest))) ≡ true → g ≡ false
third_denied a b false rest h = refl
third_denied false b true rest h = cc
third_denied true false true rest h = cc
third_denied true true true rest h = cc

pub in_rows : {A : Type 0} (made : List Row → List A) (named : Named) (rows : List Row)
    → Some rows ≡ option_map (λ p. p.1) named
    → made rows ≡ option_map_or (λ found. made found.1) named []
in_rows made None rows h = cc
in_rows made (Some p) rows h = ap (λ (o : Option (List Row)). made (unwrap_or o [])) h

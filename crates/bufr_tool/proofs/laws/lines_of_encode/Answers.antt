-- By computing what `clap` makes of the line.
use Rattle.std.proofs.Common.{refl}
use Rattle.clap.proofs.OnLiterals.{clap_on_literals}
use Rattle.bufr_tool.proofs.laws.lines_of_encode.Goals as goal

pub returns : goal.returns
unfolding clap_on_literals
returns c =
    record { taken = refl; command = refl; b = refl; d = refl; compressed = refl; inputs = refl }

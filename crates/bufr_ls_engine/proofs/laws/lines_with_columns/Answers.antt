-- The clauses of `lines_with_columns`: what `clap` makes of a line with columns.
use Rattle.std.proofs.Common.{refl}
use Rattle.clap.proofs.OnLiterals.{clap_on_literals}
use Rattle.bufr_ls_engine.proofs.laws.lines_with_columns.Goals as goal

-- the line is taken, and these are its columns and its files
pub returns : goal.returns
unfolding clap_on_literals
returns c = record { taken = refl; columns = refl; files = refl }

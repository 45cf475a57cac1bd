-- The clauses of `lines_without_columns`: what `clap` makes of a line without columns, and of none.
use Rattle.std.proofs.Common.{refl}
use Rattle.clap.proofs.OnLiterals.{clap_on_literals}
use Rattle.bufr_ls_engine.proofs.laws.lines_without_columns.Goals as goal

-- `clap` takes the line with its files, and does not take no words
pub returns : goal.returns
unfolding clap_on_literals
returns c = record { taken = refl; columns = refl; files = refl; no_file = refl }

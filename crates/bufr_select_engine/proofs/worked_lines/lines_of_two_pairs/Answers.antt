-- The clauses of `lines_of_two_pairs`: what `clap` makes of the words.
use Rattle.std.proofs.Common.{refl}
use Rattle.clap.proofs.OnLiterals.{clap_on_literals}
use Rattle.bufr_select_engine.proofs.worked_lines.lines_of_two_pairs.Goals as goal

pub returns : goal.returns
unfolding clap_on_literals
returns c = record {
  taken = refl;
  b = refl;
  d = refl;
  versions = refl;
  columns = refl;
  each = refl;
  files = refl;
}

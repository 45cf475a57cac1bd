-- The clauses of `words_that_are_no_line`: the faults that `clap` defines for the words.
use Rattle.std.proofs.Common.{refl}
use Rattle.clap.proofs.OnLiterals.{clap_on_literals}
use Rattle.bufr_select_engine.proofs.worked_lines.words_that_are_no_line.Goals as goal

pub returns : goal.returns
unfolding clap_on_literals
returns c = record {
  none = refl;
  no_columns = refl;
  no_elements = refl;
  no_sequences = refl;
  no_file = refl;
  columns_twice = refl;
  each_twice = refl;
  another_option = refl;
  help = refl;
  version = refl;
}

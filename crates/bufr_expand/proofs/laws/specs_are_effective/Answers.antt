use Rattle.bufr_expand.proofs.SpecFacts.{effective_found, effective_only, effective_one, in_table}
use Rattle.bufr_expand.proofs.SpecFacts.{in_table_only}
use Rattle.bufr_expand.proofs.laws.specs_are_effective.Goals as goal

pub returns : goal.returns
returns c = record {
  found = effective_found;
  only = effective_only;
  one =
      effective_one;
  table_found = in_table;
  table_only = in_table_only;
}

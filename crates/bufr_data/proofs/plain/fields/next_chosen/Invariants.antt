use Rattle.std.proofs.Common.{length}
use Rattle.bufr_data.specs.Handed.{PassesUnasked, StandAhead, fields_ahead}
use Rattle.bufr_data.specs.declared.plain.fields.Due.TheVariants.{Step}
use Rattle.bufr_data.proofs.plain.fields.next_chosen.Given as goal

-- no skipped field is chosen
abbrev pub invariant-elements : goal.invariant-elements
invariant-elements g l = record {
  ahead : StandAhead Step l.walk l.reader;
  passed : PassesUnasked (g.A.Asks.is_asked l.asked) (fields_ahead Step l.fn.walk l.fn.reader)
      (fields_ahead Step l.walk l.reader);
}

-- each turn leaves one field fewer
abbrev pub decreases-elements : goal.decreases-elements
decreases-elements g l = length (fields_ahead Step l.walk l.reader)

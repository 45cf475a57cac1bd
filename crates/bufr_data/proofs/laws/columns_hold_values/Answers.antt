use Rattle.bufr_data.proofs.CompressedFacts.{column_found, column_again}
use Rattle.bufr_data.proofs.CompressedFacts.Best.{best_column, best_fewest}
use Rattle.bufr_data.proofs.laws.columns_hold_values.Goals as goal

pub returns : goal.returns
returns c = record {
  stand = λ n i spec front values rest e. column_found n i spec front (values, rest) e;
  is_read = column_again;
  best = best_column;
  shortest = best_fewest;
}

-- It holds of any course.
use Rattle.bufr_data.proofs.PlainFacts.{subsets_at-found, subsets_at-plain}
use Rattle.bufr_data.proofs.laws.plain_data_spell_subsets.Goals as goal

pub returns-clause-read_stand : goal.returns-clause-read_stand
returns-clause-read_stand c =
    λ course j n used front f e. subsets_at-found course j n used front f e

pub returns-clause-standing_are_read : goal.returns-clause-standing_are_read
returns-clause-standing_are_read c =
    λ course j n used front f h. subsets_at-plain course j n used front f h.0 h.1 h.2

-- By `moment_is_said` and `said_is_moment`.
use Rattle.bufr_report_keys.proofs.MomentFacts.{moment_is_said, said_is_moment}
use Rattle.bufr_report_keys.proofs.laws.moments_are_dates.Goals as goal

pub returns : goal.returns
returns c = record { are = moment_is_said; only = said_is_moment }

-- Two runs leave archives that agree.
use Rattle.bufr_archive.proofs.HeadlineFacts.{headline}
use Rattle.bufr_archive.proofs.laws.headline.Goals as goal

pub returns-clause-converges : goal.returns-clause-converges
returns-clause-converges c = headline

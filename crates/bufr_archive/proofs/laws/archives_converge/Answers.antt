-- Each slot has exactly the reports of its streams.
use Rattle.bufr_archive.proofs.AgreementFacts.{converges, keeps_what_was_told, took_exactly}
use Rattle.bufr_archive.proofs.laws.archives_converge.Goals as goal

pub returns-clause-converges : goal.returns-clause-converges
returns-clause-converges c = converges

pub returns-clause-keeps : goal.returns-clause-keeps
returns-clause-keeps c = keeps_what_was_told

pub returns-clause-exactly : goal.returns-clause-exactly
returns-clause-exactly c = took_exactly

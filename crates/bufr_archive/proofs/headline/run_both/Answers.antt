-- The headline of the two runs.
use Rattle.bufr_archive.specs.Headline.{run_of}
use Rattle.bufr_archive.proofs.headline.run_both.Goals as goal

pub returns-clause-converge : goal.returns-clause-converge
returns-clause-converge g c =
    c.headline.ensures.converges
    (run_of c.args.one.now.tables.now c.args.one.now.slots c.args.one.now.steps.now
    c.in_ok-first.first.answers.items c.in_ok-first.first.depot)
    (run_of c.args.other.now.tables.now c.args.other.now.slots c.args.other.now.steps.now
    c.in_ok-second.second.answers.items c.in_ok-second.second.depot)
    c.in_ok-first.ensures c.in_ok-second.ensures

-- Each month has 28 days.
use Rattle.std.proofs.Common.{pos, sym}
use Rattle.std.proofs.lemmas.Int.{to_z-of_z}
use Rattle.bufr_report_keys.proofs.MomentFacts.{early_day}
use Rattle.bufr_report_keys.proofs.moments.day_of.Goals as goal

pub returns-in-Some : goal.returns-in-Some
returns-in-Some c =
    let fits = c.ranges.number in
    let said = simp (to_z-of_z, fits) at c.in-Some.ensures in
    early_day (pos c.args.year) c.args.month c.args.number c.in-Some.day (sym said)

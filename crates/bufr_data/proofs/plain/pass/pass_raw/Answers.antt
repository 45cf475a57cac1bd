use Rattle.std.proofs.Common.{sym, subst}
use Rattle.bufr_bits.specs.Ends.{left}
use Rattle.bufr_data.specs.Plain.Starts.{PassesRaw}
use Rattle.bufr_data.proofs.plain.pass.pass_raw.Goals as goal

pub returns-in-Some-clause-ok : goal.returns-in-Some-clause-ok
returns-in-Some-clause-ok c =
    subst (PassesRaw c.args.i c.args.spec (left c.args.reader.now)) (sym c.if-pass.ensures.rest)
    (c.in-Some.ensures.takes.there c.args.i (left c.args.reader.now) c.if-pass.ensures.enough)

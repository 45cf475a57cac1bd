use Rattle.std.proofs.Common.{sym, ap}
use Rattle.bufr_data.specs.Compressed.Best.{is_empty}
use Rattle.bufr_data.proofs.CompressedFacts.Rows.{next_is, none_next}
use Rattle.bufr_data.proofs.compressed.places.has_ended.Goals as goal

pub returns-in-None : goal.returns-in-None
returns-in-None c =
    sym (ap is_empty (none_next c.args.other.now.fields c.args.place (sym c.in-None.ensures)))

pub returns-in-Some : goal.returns-in-Some
returns-in-Some c =
    sym (ap is_empty (next_is c.args.other.now.fields c.args.place _ (sym c.in-Some.ensures)))

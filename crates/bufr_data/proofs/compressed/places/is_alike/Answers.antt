use Rattle.std.proofs.Common.{◌∙◌, sym, ap}
use Rattle.bufr_data.specs.Compressed.Best.{begins_like}
use Rattle.bufr_data.proofs.CompressedFacts.Rows.{next_is, none_next}
use Rattle.bufr_data.proofs.compressed.places.is_alike.Goals as goal

pub returns-in-None : goal.returns-in-None
returns-in-None c =
    sym (ap (begins_like c.args.field.now)
    (none_next c.args.other.now.fields c.args.place (sym c.in-None.ensures)))

pub returns-in-Some : goal.returns-in-Some
returns-in-Some c =
    c.is_like.ensures
    ∙ sym (ap (begins_like c.args.field.now)
    (next_is c.args.other.now.fields c.args.place _ (sym c.in-Some.ensures)))

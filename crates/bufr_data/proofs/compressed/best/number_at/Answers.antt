use Rattle.std.proofs.Common.{◌∙◌, sym, ap}
use Rattle.bufr_data.specs.Compressed.Best.{first_raw}
use Rattle.bufr_fields.specs.Forms.{number_of}
use Rattle.bufr_data.proofs.CompressedFacts.Rows.{next_is, none_next}
use Rattle.bufr_data.proofs.compressed.best.number_at.Goals as goal

pub returns-in-None : goal.returns-in-None
returns-in-None c =
    sym (ap (λ row. number_of (first_raw row))
    (none_next c.args.subset.now.fields c.args.place (sym c.in-None.ensures)))

pub returns-in-Some : goal.returns-in-Some
returns-in-Some c =
    c.number.ensures
    ∙ sym (ap (λ row. number_of (first_raw row))
    (next_is c.args.subset.now.fields c.args.place _ (sym c.in-Some.ensures)))

use Rattle.std.proofs.Common.{◌∙◌, sym, ap}
use Rattle.bufr_data.specs.Compressed.Best.{first_raw}
use Rattle.bufr_data.specs.Compressed.Reading.{same_raw}
use Rattle.bufr_data.proofs.CompressedFacts.Rows.{next_is, none_next}
use Rattle.bufr_data.proofs.compressed.places.has_raw.Goals as goal

pub returns-in-None : goal.returns-in-None
returns-in-None c =
    c.same_raw.ensures
    ∙ sym (ap (λ row. same_raw (first_raw row) c.args.raw.now)
    (none_next c.args.other.now.fields c.args.place (sym c.in-None.ensures)))

pub returns-in-Some : goal.returns-in-Some
returns-in-Some c =
    c.same_raw-in-Some.ensures
    ∙ sym (ap (λ row. same_raw (first_raw row) c.args.raw.now)
    (next_is c.args.other.now.fields c.args.place _ (sym c.in-Some.ensures)))

use Rattle.std.proofs.Common.{◌∷◌, List, sym, ap, ◌∙◌}
use Rattle.bufr_fields.specs.declared.field.Field.{Field}
use Rattle.bufr_fields.specs.declared.field.NumberField.{NumberField}
use Rattle.bufr_fields.specs.declared.field.Raw.{Raw}
use Rattle.bufr_fields.specs.declared.field.Raw.TheVariants.{Number}
use Rattle.bufr_data.specs.Handed.{fields_there}
use Rattle.bufr_data.proofs.ShortFacts.{has_short}
use Rattle.bufr_data.proofs.compressed.fields.ColumnFields.next_short.Goals as goal

pub returns-clause-found : goal.returns-clause-found
returns-clause-found c =
    let place = c.in-Some.place.now in
    let field : NumberField = record {
      fxy = place.fxy;
      spec = place.spec;
      number = c.in-Ok.number;
    } in
    let s = c.self.inside in
    let others = fields_there s.octets.now s.subsets s.index c.in-Some.others.now in
    let with_raw : Raw → List Field =
    λ raw. record { fxy = place.fxy; spec = place.spec; raw = raw } ∷ others in (
      field,
      rw c.of_raw.ensures (has_short field c.in_ok-greatest.greatest
          (sym c.greatest_short.ensures ∙ c.in_ok-greatest.was)),
      sym c.self.view_is
          ∙ ap (fields_there s.octets.now s.subsets s.index) c.in-Some.ensures.cases.0
          ∙ ap with_raw (sym c.in_ok-number.ensures ∙ ap Number (sym c.in-Ok.ensures.1)),
    )

use Rattle.std.proofs.Common.{◌∷◌, refl, sym, ap, ◌∙◌}
use Rattle.bufr_fields.specs.declared.field.Field.{Field}
use Rattle.bufr_fields.specs.declared.field.Raw.{Raw}
use Rattle.bufr_fields.specs.declared.field.Raw.TheVariants.{Text}
use Rattle.bufr_data.specs.Handed.{fields_there}
use Rattle.bufr_data.proofs.compressed.fields.ColumnFields.next_text.Goals as goal

pub returns-clause-found : goal.returns-clause-found
returns-clause-found c =
    let place = c.in-Some.place.now in
    let s = c.self.inside in
    let others = fields_there s.octets.now s.subsets s.index c.in-Some.others.now in
    let with_raw : Raw → Field =
    λ raw. record { fxy = place.fxy; spec = place.spec; raw = raw } in (
      with_raw (Text c.in_ok-octets.octets.now),
      (refl, refl, c.in_ok-octets.ensures.formed),
      sym c.self.view_is
          ∙ ap (fields_there s.octets.now s.subsets s.index) c.in-Some.ensures.cases.0
          ∙ ap (λ raw. with_raw raw ∷ others) (sym c.in_ok-octets.ensures.is),
    )

use Rattle.std.proofs.Common.{Some, slice_get, refl, sym, ap, ◌∙◌}
use Rattle.std.proofs.lemmas.Option.{slice_get-get_or}
use Rattle.bufr_fields.specs.declared.field.Field.{Field}
use Rattle.bufr_fields.specs.declared.field.Raw.{Raw}
use Rattle.bufr_fields.specs.declared.field.Raw.TheVariants.{Text}
use Rattle.bufr_data.specs.Compressed.{subset_of}
use Rattle.bufr_data.specs.Compressed.Indexed.{Indexed}
use Rattle.bufr_data.proofs.CompressedFacts.Chosen.{field_there}
use Rattle.bufr_data.proofs.compressed.chosen_columns.ChosenColumns.text_at.Goals as goal

pub returns : goal.returns
returns c =
    let s = c.self.inside in
    let place = c.in-Some.place.now in
    let i = c.args.subset in
    let l = c.in-Some.ensures.lookup in
    let there = slice_get-get_or s.places.now c.args.column place l.3.0 ∙ ap (λ p. Some p) (sym l.1) in
    let with_raw : Raw → Field = λ raw. record { fxy = place.fxy; spec = place.spec; raw = raw } in (
      with_raw (Text c.in_ok-octets.octets.now),
      (refl, refl, c.in_ok-octets.ensures.formed),
      ap (λ (x : Indexed). slice_get (subset_of x.columns i).fields c.args.column) (sym c.self.view_is)
          ∙ field_there s.octets.now s.subsets i s.places.now c.args.column place there
          ∙ ap (λ raw. Some (with_raw raw)) (sym c.in_ok-octets.ensures.is),
    )

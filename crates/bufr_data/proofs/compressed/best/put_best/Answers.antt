-- Numbers that differ and can be one column fit their width.
use Rattle.std.proofs.Common.{◌∙◌, sym, ap}
use Rattle.std.specs.Prelude.{◌^◌, nat_lt}
use Rattle.std.specs.List.{list_all}
use Rattle.bufr_data.specs.Compressed.Places.{rows_from, values_from}
use Rattle.bufr_data.proofs.CompressedFacts.Puts.{short_numbers, numbers_below}
use Rattle.bufr_data.proofs.compressed.best.put_best.Goals as goal

pub put_numbers-requires : goal.put_numbers-requires
put_numbers-requires c =
    let values = values_from c.args.field.now (rows_from c.args.place c.args.others.now) in
    let spec = c.args.field.now.spec in
    record {
      narrow =
          short_numbers spec values c.requires.can
          (sym c.if-are_equal.ensures) c.in_default.not-Text;
      forms =
          ap (list_all (λ n. nat_lt n (2 ^ spec.width)))
          (c.as_slice.ensures.value ∙ c.in_ok-numbers-in_default.ensures)
          ∙ numbers_below spec values c.in_default.not-Text c.requires.forms;
    }

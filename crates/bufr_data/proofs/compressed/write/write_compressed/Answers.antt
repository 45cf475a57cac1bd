-- The subsets fit, and each field can be one column.
use Rattle.std.proofs.Common.{◌*◌, ◌<◌, ◌≤◌, length, refl, sym}
use Rattle.bufr_data.specs.Compressed.Best.{best_bits}
use Rattle.bufr_data.proofs.CompressedFacts.Puts.{first_in, columns_in, written_past, written_whole}
use Rattle.bufr_data.proofs.CompressedFacts.Puts.{first_forms}
use Rattle.bufr_data.proofs.compressed.write.write_compressed.Goals as goal
use Rattle.bufr_fields.specs.Limits.{most_values}

pub returns-then-fields-subsets : goal.returns-then-fields-subsets
returns-then-fields-subsets c =
    let can = rw c.as_slice-fields.ensures at c.in_default.ensures.ok in
    let past : most_values < length (first_in c.args.subsets.now c.index-subsets-0.result).fields
    * length c.args.subsets.now =
    rw c.as_slice-fields.ensures at (rw c.from.ensures at c.if-fields-subsets.true) in (
      written_past c.args.template.now c.args.subsets.now c.index-subsets-0.result _
          (sym c.if-is_empty.ensures) c.in_ok-fit_each.ensures can past,
      refl,
    )

pub put_columns-requires-clause-forms : goal.put_columns-requires-clause-forms
put_columns-requires-clause-forms c =
    rw c.as_slice-fields.ensures
    (first_forms c.args.template.now c.args.subsets.now c.index-subsets-0.result _
    (sym c.if-is_empty.ensures) c.in_ok-fit_each.ensures).0

pub put_columns-requires-clause-other_forms : goal.put_columns-requires-clause-other_forms
put_columns-requires-clause-other_forms c =
    (first_forms c.args.template.now c.args.subsets.now c.index-subsets-0.result _
    (sym c.if-is_empty.ensures) c.in_ok-fit_each.ensures).1

pub returns-in-Ok : goal.returns-in-Ok
returns-in-Ok c =
    let can = rw c.as_slice-fields.ensures at c.in_default.ensures.ok in
    let room : length (first_in c.args.subsets.now c.index-subsets-0.result).fields
    * length c.args.subsets.now ≤ most_values =
    rw c.as_slice-fields.ensures at (rw c.from.ensures at c.if-fields-subsets.false) in
    let put = rw c.as_slice-fields.ensures at c.in-Ok.ensures.put in (
      best_bits (columns_in c.args.subsets.now c.index-subsets-0.result),
      written_whole c.args.template.now c.args.subsets.now c.index-subsets-0.result _
          (sym c.if-is_empty.ensures) c.in_ok-fit_each.ensures can room,
      put,
    )

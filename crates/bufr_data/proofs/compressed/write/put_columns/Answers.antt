use Rattle.std.proofs.Common.{◌∙◌, ◌+◌, ◌++◌, ◌<◌, length, drop, append-nil, append_assoc, sym, ap}
use Rattle.std.proofs.Common.{arith}
use Rattle.std.proofs.lemmas.List.{drop_all}
use Rattle.bufr_data.specs.Compressed.Best.{best, best_bits}
use Rattle.bufr_data.specs.Compressed.Places.{rows_from, values_from, columns_here}
use Rattle.bufr_data.proofs.ListFacts.{left_is}
use Rattle.bufr_data.proofs.CompressedFacts.Puts.{place_forms, row_forms, own_at, best_next, best_none}
use Rattle.bufr_data.proofs.CompressedFacts.Puts.{kept_more, columns_step}
use Rattle.bufr_data.proofs.compressed.write.put_columns.Goals as goal

pub put_best-requires-clause-can : goal.put_best-requires-clause-can
put_best-requires-clause-can c =
    let less : c.loop-place.place < length c.args.fields.now =
    omega (arith, c.loop-place-test.true) in
    (columns_step c.args.fields.now c.args.others.now c.loop-place.place c.index-fields-place.result
    less c.index-fields-place.is c.loop-place.invariant.can).can

pub put_best-requires-clause-forms : goal.put_best-requires-clause-forms
put_best-requires-clause-forms c =
    let less : c.loop-place.place < length c.args.fields.now =
    omega (arith, c.loop-place-test.true) in
    let here =
    columns_step c.args.fields.now c.args.others.now c.loop-place.place
    c.index-fields-place.result less c.index-fields-place.is c.loop-place.invariant.can in
    place_forms c.index-fields-place.result (rows_from c.loop-place.place c.args.others.now)
    (own_at c.args.fields.now c.loop-place.place c.index-fields-place.result less
    c.index-fields-place.is c.requires.forms) here.like
    (row_forms c.loop-place.place c.args.others.now c.requires.other_forms)

pub loop-place-preserved : goal.loop-place-preserved
loop-place-preserved c =
    let less : c.loop-place.place < length c.args.fields.now =
    omega (arith, c.loop-place-test.true) in
    let f = c.index-fields-place.result in
    let place = c.loop-place.place in
    let here =
    columns_step c.args.fields.now c.args.others.now place f less c.index-fields-place.is
    c.loop-place.invariant.can in
    record {
      can = here.next;
      put =
          c.loop-place.invariant.put
          ∙ ap (λ fs. c.loop-place.sink ++ best_bits (columns_here fs
          (rows_from place c.args.others.now)))
          (left_is c.args.fields.now place f less c.index-fields-place.is)
          ∙ ap (λ bs. c.loop-place.sink ++ bs)
          (best_next f (drop (place + 1) c.args.fields.now) c.args.others.now place)
          ∙ sym (append_assoc c.loop-place.sink
          (best f.spec (values_from f (rows_from place c.args.others.now)))
          (best_bits
          (columns_here (drop (place + 1) c.args.fields.now)
          (rows_from (place + 1) c.args.others.now))))
          ∙ ap (λ bs. bs
          ++ best_bits
          (columns_here (drop (place + 1) c.args.fields.now)
          (rows_from (place + 1) c.args.others.now))) (sym c.in_ok-put_best.ensures.put);
      kept = kept_more _ _ _ c.loop-place.invariant.kept c.in_ok-put_best.ensures.kept;
    }

pub returns-clause-put : goal.returns-clause-put
returns-clause-put c =
    sym (c.loop-place.invariant.put
    ∙ ap (λ fs. c.loop-place.sink
    ++ best_bits (columns_here fs (rows_from c.loop-place.place c.args.others.now)))
    (drop_all c.loop-place.place c.args.fields.now c.loop-place-test.false)
    ∙ ap (λ bs. c.loop-place.sink ++ bs)
    (best_none (rows_from c.loop-place.place c.args.others.now)) ∙ append-nil c.loop-place.sink)

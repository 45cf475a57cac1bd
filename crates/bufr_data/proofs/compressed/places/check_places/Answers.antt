-- Place by place, until one can't be one column or none is left.
use Rattle.std.proofs.Common.{◌∙◌, ◌<◌, length, refl, sym, arith}
use Rattle.bufr_data.proofs.CompressedFacts.Rows.{no_place_yet, place_more, place_refused, places_pass}
use Rattle.bufr_data.proofs.CompressedFacts.Rows.{places_end_apart}
use Rattle.bufr_data.proofs.compressed.places.check_places.Goals as goal

pub loop-place-init : goal.loop-place-init
loop-place-init c = no_place_yet _ _

pub returns-then-not-is_one_place-clause-err : goal.returns-then-not-is_one_place-clause-err
returns-then-not-is_one_place-clause-err c =
    let less : c.loop-place.place < length c.args.fields.now =
    omega (arith, c.loop-place-test.true) in
    place_refused c.args.fields.now c.args.others.now c.loop-place.place c.index-fields-place.result
    c.loop-place.invariant less c.index-fields-place.is
    (sym c.is_one_place.ensures ∙ c.if-not-is_one_place.true)

pub loop-place-preserved : goal.loop-place-preserved
loop-place-preserved c =
    let less : c.loop-place.place < length c.args.fields.now =
    omega (arith, c.loop-place-test.true) in
    place_more c.args.fields.now c.args.others.now c.loop-place.place c.index-fields-place.result
    c.loop-place.invariant less c.index-fields-place.is
    (sym c.is_one_place.ensures ∙ c.if-not-is_one_place.false)

pub returns-then-have_ended-clause-ok : goal.returns-then-have_ended-clause-ok
returns-then-have_ended-clause-ok c =
    places_pass c.args.fields.now c.args.others.now c.loop-place.place
    (length c.args.fields.now) c.loop-place.invariant c.loop-place-test.false
    c.loop-place.auto.place-end refl (sym c.if-have_ended.ensures)

pub returns-else-have_ended-clause-err : goal.returns-else-have_ended-clause-err
returns-else-have_ended-clause-err c =
    places_end_apart c.args.fields.now c.args.others.now c.loop-place.place
    (length c.args.fields.now) c.loop-place.invariant c.loop-place-test.false
    c.loop-place.auto.place-end refl (sym c.if-have_ended.ensures)

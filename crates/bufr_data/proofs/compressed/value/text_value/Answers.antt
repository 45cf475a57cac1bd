-- The octets that were found, filled.
use Rattle.std.proofs.Common.{◌/◌, ◌∙◌, Some, ap, sym, arith}
use Rattle.std.specs.Prelude.{option_map}
use Rattle.bufr_data.specs.Compressed.Reading.{filled}
use Rattle.bufr_data.proofs.CompressedFacts.Values.{own_octets}
use Rattle.bufr_data.proofs.compressed.value.text_value.Goals as goal

pub filled-requires : goal.filled-requires
filled-requires c =
    let found = rw c.in-Some-2.is at c.in_ok-take_bytes.ensures.found in
    let size = own_octets c.in-Some.count _ _ _ found in
    omega (arith, size, c.from-octets.ensures, c.in-Some.ensures.shorter)

pub returns-in-None : goal.returns-in-None
returns-in-None c =
    let none = rw c.in-None.is at c.in_ok-take_bytes.ensures.short in
    sym (c.in-Some.ensures.found
    ∙ ap (option_map (λ x. filled (c.args.spec.width / 8) x.0)) none.0)

pub returns-in_ok-filled-in-Some-2 : goal.returns-in_ok-filled-in-Some-2
returns-in_ok-filled-in-Some-2 c =
    let found = rw c.in-Some-2.is at c.in_ok-take_bytes.ensures.found in
    let text = rw c.from-octets.ensures at c.in_ok-filled-in-Some-2.ensures in
    ap (λ t. Some t) text
    ∙ sym (c.in-Some.ensures.found
    ∙ ap (option_map (λ x. filled (c.args.spec.width / 8) x.0)) found)

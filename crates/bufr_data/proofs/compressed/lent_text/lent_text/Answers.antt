-- The octets found, copied and filled, are the text.
use Rattle.std.proofs.Common.{◌/◌, ◌∙◌, Some, ap, sym}
use Rattle.std.specs.Prelude.{option_map}
use Rattle.bufr_fields.specs.declared.field.Raw.{Raw}
use Rattle.bufr_data.specs.Compressed.Reading.{filled}
use Rattle.bufr_data.proofs.compressed.lent_text.lent_text.Goals as goal

pub returns : goal.returns
returns c =
    let octets = c.args.spec.width / 8 in
    c.in_ok-count.ensures.found
    ∙ ap (option_map (λ x. filled octets x.0)) c.in_ok-own.ensures.copied
    ∙ ap (λ (v : Raw). Some v) (sym c.fill_text.ensures)

-- The clause of `push_octet`: an octet that is not shown as itself.
use Rattle.std.proofs.Common.{◌≡◌, ◌∙◌, sym, refl}
use Rattle.std.specs.Prelude.{false}
use Rattle.hex.specs.Hex.{encode_with}
use Rattle.bufr_select_rows.specs.Values.{is_shown_as_itself}
use Rattle.bufr_select_rows.proofs.TextFacts.{on_ok_same}
use Rattle.bufr_select_rows.proofs.text.push_octet.Goals as goal

pub returns : goal.returns
unfolding encode_with
returns c =
    let other : is_shown_as_itself c.args.octet ≡ false =
    sym c.is_shown_as_itself.ensures ∙ c.if-is_shown_as_itself.false in
    on_ok_same c.extend_from_slice.result _ _ _ _ c.extend_from_slice.ensures.items
    (rw (other, c.from.ensures, c.from-2.ensures) refl)

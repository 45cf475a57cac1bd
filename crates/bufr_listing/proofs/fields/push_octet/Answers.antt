use Rattle.std.proofs.Common.{◌≡◌, ◌∙◌, sym, refl}
use Rattle.std.specs.Prelude.{false}
use Rattle.hex.specs.Hex.{encode_with}
use Rattle.bufr_listing.specs.Listings.{is_literal}
use Rattle.bufr_listing.proofs.QuoteFacts.{on_ok_same}
use Rattle.bufr_listing.proofs.fields.push_octet.Goals as goal

pub returns-clause-ok : goal.returns-clause-ok
unfolding encode_with
returns-clause-ok c =
    let other : is_literal c.args.octet ≡ false =
    sym c.is_literal.ensures ∙ c.if-is_literal.false in
    on_ok_same c.extend_from_slice.result _ _ _ _ c.extend_from_slice.ensures.items
    (rw (other, c.from.ensures, c.from-2.ensures) refl)

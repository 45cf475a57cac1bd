-- The sign and the parts of the digits join to the decimal's text.
use Rattle.std.proofs.Common.{FitsSigned, ap, append_assoc, replicate, ◌≡◌, ◌++◌, ◌∙◌, rules}
use Rattle.std.specs.Int.{w32, w128}
use Rattle.std.proofs.lemmas.Int.{to_z-of_z}
use Rattle.bufr_fields.specs.DigitFacts.{text_behind}
use Rattle.bufr_fields.proofs.text.push_decimal.Goals as goal

pub returns-clause-ok : goal.returns-clause-ok
returns-clause-ok c =
    let units : FitsSigned w128 c.args.decimal.units = search rules in
    let scale : FitsSigned w32 c.args.decimal.scale = search rules in
    let sign = simp to_z-of_z at c.sign.ensures in
    let number = simp to_z-of_z at c.unsigned_abs.ensures.value in
    let digits = simp to_z-of_z at c.parts_of-parts.ensures in
    let mid = c.push_octets.new.text.items in
    let front = c.parts_of-parts.result.front.now in
    let point = c.parts_of-parts.result.point.now in
    let zeros = replicate c.parts_of-parts.result.zeros 48 in
    let back = c.parts_of-parts.result.back.now in
    let signed = c.in_ok-push_octets.ensures.ok
    ∙ ap (λ s. c.args.text.now.items ++ s) c.as_bytes.ensures.value in
    let fronted : c.push_octets-2.new.text.items ≡ mid ++ front =
    c.in_ok-push_octets-2.ensures.ok ∙ ap (λ s. mid ++ s) c.as_bytes-2.ensures.value in
    let pointed : c.push_octets-3.new.text.items ≡ (mid ++ front) ++ point =
    c.in_ok-push_octets-3.ensures.ok
    ∙ ap (λ s. c.push_octets-2.new.text.items ++ s) c.as_bytes-3.ensures.value
    ∙ ap (λ t. t ++ point) fronted in
    let filled : c.push_zeros.new.text.items ≡ ((mid ++ front) ++ point) ++ zeros =
    c.in_ok-push_zeros.ensures.ok ∙ ap (λ t. t ++ zeros) pointed in
    let whole : c.push_octets-4.new.text.items ≡ mid ++ (((front ++ point) ++ zeros) ++ back) =
    c.in_ok-push_octets-4.ensures.ok
    ∙ ap (λ s. c.push_zeros.new.text.items ++ s) c.as_bytes-4.ensures.value
    ∙ ap (λ t. t ++ back) filled
    ∙ ap (λ t. (t ++ zeros) ++ back) (append_assoc mid front point)
    ∙ ap (λ t. t ++ back) (append_assoc mid (front ++ point) zeros)
    ∙ append_assoc mid ((front ++ point) ++ zeros) back in
    text_behind _ _ _ _ _ _ _ _ signed sign number digits whole

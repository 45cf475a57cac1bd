-- Eight octets are those of their number.
use Rattle.std.proofs.Common.{◌≡◌, ◌∙◌, ◌+◌, ◌-◌, ℕ, List, ap, arith, drop, length, subst, sym, T, take, w64}
use Rattle.std.specs.Int.{from_le_bytes}
use Rattle.std.proofs.Math.Facts.{eqb_yes}
use Rattle.std.proofs.lemmas.List.{length-drop, length-take-le, take_all}
use Rattle.std.proofs.lemmas.List.Elements.{All-drop, All-from_get_or, All-take}
use Rattle.bufr_sections.specs.Sections.{IsOctet}
use Rattle.bufr_ls_engine.proofs.SameHeads.{by_number}
use Rattle.bufr_ls_engine.proofs.last_head.have_same_word.Goals as goal

pub returns : goal.returns
returns c same =
    let at = c.args.at in
    let xs = c.args.octets.now in
    let ys = c.args.others.now in
    let first = c.in-Some.ensures.cases in
    let other = c.in-Some-first_chunk.ensures.cases in
    let first_all : take (length xs - at) (drop at xs) ≡ drop at xs =
    take_all (length xs - at) (drop at xs) (omega (arith, length-drop at xs)) in
    let other_all : take (length ys - at) (drop at ys) ≡ drop at ys =
    take_all (length ys - at) (drop at ys) (omega (arith, length-drop at ys)) in
    by_number (take 8 (drop at xs)) (take 8 (drop at ys)) c.from_le_bytes.result
    c.from_le_bytes-2.result
    (length-take-le 8 (drop at xs) (omega (arith, first.enough, ap length first_all)))
    (length-take-le 8 (drop at ys) (omega (arith, other.enough, ap length other_all)))
    (All-take IsOctet 8 (drop at xs) (All-drop IsOctet at xs
    (All-from_get_or IsOctet xs 0 (λ i here. omega (arith, c.type_inv.octets i)))))
    (All-take IsOctet 8 (drop at ys) (All-drop IsOctet at ys
    (All-from_get_or IsOctet ys 0 (λ i here. omega (arith, c.type_inv.others i)))))
    (c.from_le_bytes.ensures
    ∙ ap (from_le_bytes w64) (first.same ∙ ap (λ t. take 8 t) first_all))
    (c.from_le_bytes-2.ensures
    ∙ ap (from_le_bytes w64) (other.same ∙ ap (λ t. take 8 t) other_all))
    (eqb_yes {a = c.from_le_bytes.result} {b = c.from_le_bytes-2.result} (subst T (sym same) tt))

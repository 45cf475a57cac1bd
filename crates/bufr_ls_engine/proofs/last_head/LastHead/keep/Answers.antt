-- Messages with the same head have sections, which say the same.
use Rattle.std.proofs.Common.{◌≡◌, ◌∙◌, ◌-◌, ◌+◌, ◌≤◌, ap, arith, drop, length, take}
use Rattle.std.proofs.lemmas.List.{drop-take, length-take-le, take-take}
use Rattle.std.proofs.lemmas.List.Elements.{All-from_get_or}
use Rattle.bufr_sections.specs.Sections.{AreOctets, Envelope, IsOctet}
use Rattle.bufr_ls_engine.proofs.SameHeads.{ends_before, front_by_parts, read_again}
use Rattle.bufr_ls_engine.proofs.last_head.LastHead.keep.Goals as goal

pub overflow_sub-end : goal.overflow_sub-end
overflow_sub-end c =
    let octets = c.args.octets.now in
    let are : AreOctets octets = All-from_get_or IsOctet octets 0
    (λ i here. omega (arith, c.type_inv.octets i)) in
    let parts = ends_before c.sections_are_spelt.ensures.read octets c.args.said.now are c.requires in
    omega (arith, parts.1)

pub overflow_sub-end-2 : goal.overflow_sub-end-2
overflow_sub-end-2 c =
    let octets = c.args.octets.now in
    let are : AreOctets octets = All-from_get_or IsOctet octets 0
    (λ i here. omega (arith, c.type_inv.octets i)) in
    let parts = ends_before c.sections_are_spelt.ensures.read octets c.args.said.now are c.requires in
    omega (arith, parts.1, ap (λ (e : Envelope). length e.contents) c.said.view_is)

pub returns-in-Some-Some : goal.returns-in-Some-Some
returns-in-Some-Some c other others has =
    let octets = c.args.octets.now in
    let e = c.args.said.now in
    let are : AreOctets octets = All-from_get_or IsOctet octets 0
    (λ i here. omega (arith, c.type_inv.octets i)) in
    let parts = ends_before c.sections_are_spelt.ensures.read octets e are c.requires in
    let m = ap (λ (e : Envelope). length e.contents) c.said.view_is in
    let k = length octets - 4 - length c.said.inside.contents.now in
    let whole : length octets ≡ k + (length e.contents + 4) = omega (arith, parts.1, m) in
    let long : length (take k octets) ≡ k = length-take-le k octets (omega (arith, whole)) in
    let first = c.in-Some-Some.ensures.cases in
    let last = c.in-Some-Some.ensures'.cases in
    let enough : 32 ≤ k = omega (arith, first.enough, long) in
    let at = k - 32 in
    let k_is : k ≡ at + 32 = omega (arith, enough) in
    let front =
    front_by_parts k at other octets (omega (arith, c.if-end-gt64.false)) k_is
    (has.1 ∙ first.same ∙ take-take 32 k octets enough)
    (has.2 ∙ last.1.same ∙ ap (λ n. drop (n - 32) (take k octets)) long
    ∙ ap (λ n. drop at (take n octets)) k_is ∙ drop-take at 32 octets) in
    read_again c.sections_are_spelt.ensures.read c.sections_are_spelt.ensures.spelt octets other e
    are others c.requires has.0 k whole front has.3

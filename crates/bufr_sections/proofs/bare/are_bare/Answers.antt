-- The length and the octets at three places decide.
use Rattle.std.proofs.Common.{◌≡◌, ◌+◌, ◌*◌, ◌∙◌, ℕ, Option, Some, None, List, [], length, refl, sym, arith}
use Rattle.std.proofs.Common.{false, get_or, Ok}
use Rattle.std.specs.Prelude.{◌==◌, ◌≢◌, is_some}
use Rattle.std.proofs.lemmas.Bool.{OnTrue_from, OnFalse_from, eqb-true, eqb-false}
use Rattle.std.proofs.lemmas.List.{nil_from_length}
use Rattle.std.proofs.lemmas.List.Elements.{All-from_get_or}
use Rattle.bufr_sections.specs.Sections.{Envelope, IsOctet}
use Rattle.bufr_sections.specs.Spelt.{spelt_or}
use Rattle.bufr_sections.specs.SectionsRead.{envelope_lent}
use Rattle.bufr_sections.proofs.BareFacts.{read_bare, bare_is_zero}
use Rattle.bufr_sections.proofs.bare.are_bare.Goals.{then-octets-place4-via-then-octets-place4, then-octets-place4-via-else-octets-place4+then-octets-place4-2}
use Rattle.bufr_sections.proofs.bare.are_bare.Goals.{then-octets-ne0-via-then-octets-ne0, then-octets-ne0-via-else-octets-ne0+then-octets-ne0-2, then-octets-ne0-via-else-octets-ne0+else-octets-ne0-2+then-octets-ne0-3}
use Rattle.bufr_sections.proofs.bare.are_bare.Goals as goal

none_of : (local : Option (List ℕ)) → is_some local ≡ false → local ≡ None
none_of None none = refl
none_of (Some local) none = absurd cc

pub returns-clause-spelt : goal.returns-clause-spelt
returns-clause-spelt c = λ count read.
    let s = c.args.sections.now in
    let octets = c.args.octets.now in
    let long : length octets ≡ 45 + 2 * length s.descriptors.now + length c.args.contents.now =
    omega (arith, c.if-octets-place4.false, c.if-octets-place4-2.false) in
    OnTrue_from _ _ (λ four. read_bare octets (envelope_lent s count c.args.contents.now)
    (All-from_get_or IsOctet octets 0 (λ i here. omega (arith, c.type_inv.octets i))) read
    (nil_from_length s.head.now.local
    (eqb-true _ _ (sym c.is_empty.ensures ∙ c.if-not-is_empty.false)))
    (none_of s.section2.now (sym c.is_some.ensures ∙ c.if-is_some.false)) long
    c.if-octets-ne0.false c.if-octets-ne0-2.false c.if-octets-ne0-3.false (eqb-true _ _ four))

pub returns-then-octets-place4-clause-others : goal.returns-then-octets-place4-clause-others
returns-then-octets-place4-clause-others c = λ count two local spelt.
    let e = envelope_lent c.args.sections.now count c.args.contents.now in
    let zero = bare_is_zero c.args.octets.now e two local spelt in
    elim c.then-octets-place4.branch [
      | then-octets-place4-via-then-octets-place4 w ↦ omega arith
      | then-octets-place4-via-else-octets-place4+then-octets-place4-2 w ↦ omega arith
    ]

pub returns-then-octets-ne0-clause-others : goal.returns-then-octets-ne0-clause-others
returns-then-octets-ne0-clause-others c = λ count two local spelt.
    let e = envelope_lent c.args.sections.now count c.args.contents.now in
    let zero = bare_is_zero c.args.octets.now e two local spelt in
    elim c.then-octets-ne0.branch [
      | then-octets-ne0-via-then-octets-ne0 w ↦ omega arith
      | then-octets-ne0-via-else-octets-ne0+then-octets-ne0-2 w ↦ omega arith
      | then-octets-ne0-via-else-octets-ne0+else-octets-ne0-2+then-octets-ne0-3 w ↦ omega arith
    ]

fourth_refused : (octets : List ℕ) (e : Envelope)
    → (get_or octets (37 + 2 * length e.descriptors + 3) 0 == 0) ≡ false → e.section2 ≡ None
    → e.head.local ≡ [] → spelt_or e ≢ Ok octets
fourth_refused octets e other two local spelt =
    eqb-false _ _ other (bare_is_zero octets e two local spelt).four

pub returns-clause-others : goal.returns-clause-others
returns-clause-others c = λ count.
    OnFalse_from _ _
    (fourth_refused c.args.octets.now
    (envelope_lent c.args.sections.now count c.args.contents.now))

-- Each octet is at its place in sections 0, 1 and 3.
use Rattle.std.proofs.Common.{◌≡◌, ℕ, ◌+◌, ◌*◌, Bool, Option, Some, None, List, ◌∷◌, length, arith, refl}
use Rattle.std.specs.Prelude.{is_some}
use Rattle.std.specs.List.{flat_map}
use Rattle.std.specs.Int.{bytes_high_first}
use Rattle.bufr_sections.specs.declared.layout.Layout.TheVariants.{Edition4}
use Rattle.bufr_sections.specs.Sections.{flag, is_present, head_octets, nothing_ignored}
use Rattle.bufr_sections.proofs.LengthFacts.{length_of_descriptors}
use Rattle.bufr_sections.proofs.section_octets.fixed_octets.Goals as goal

announces : (local : Option (List ℕ)) (there : Bool) (octet : ℕ) → there ≡ is_some local
    → octet ≡ flag there 128 → octet ≡ flag (is_present local) 128 + 0
announces None there octet is here = rw is at here
announces (Some local) there octet is here = rw is at here

pub returns-clause-start : goal.returns-clause-start
returns-clause-start c =
    let s = c.args.sections.now in
    let announced = announces s.section2.now _ _ c.is_some.ensures c.flag.ensures in
    let long : 22 + length c.as_slice.result.now
    ≡ 3 + length (head_octets Edition4 s.head.now (is_present s.section2.now) nothing_ignored) =
    rw c.as_slice.ensures (omega arith) in
    rw (
      c.high_of_three.ensures,
      c.middle_of_three.ensures,
      c.low_of_three.ensures,
      c.high_of_three-2.ensures,
      c.middle_of_three-2.ensures,
      c.low_of_three-2.ensures,
      long,
      c.high.ensures,
      c.low.ensures,
      c.high-2.ensures,
      c.low-2.ensures,
      announced,
      c.high-3.ensures,
      c.low-3.ensures,
    ) refl

pub returns-clause-end : goal.returns-clause-end
returns-clause-end c =
    let s = c.args.sections.now in
    let pairs = length_of_descriptors s.descriptors.now in
    let long : 7 + 2 * length s.descriptors.now
    ≡ 3 + length (0 ∷ 0 ∷ 0 ∷ 0 ∷ flat_map (bytes_high_first 2) s.descriptors.now) = omega arith in
    let flags : c.flag-2.result + c.flag-3.result
    ≡ flag s.observed 128 + flag s.compressed 64 + 0 = omega arith in
    rw (
      c.high_of_three-3.ensures,
      c.middle_of_three-3.ensures,
      c.low_of_three-3.ensures,
      long,
      c.high-4.ensures,
      c.low-4.ensures,
      flags,
    ) refl

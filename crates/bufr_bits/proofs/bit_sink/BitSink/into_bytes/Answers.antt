-- Full octets have the bits of the view and no others.
use Rattle.std.proofs.Common.{◌≡◌, ◌%◌, length, take, sym, ap, ◌∙◌, arith}
use Rattle.std.proofs.lemmas.List.{length-take-le, take_all}
use Rattle.bufr_bits.specs.Bits.{bits}
use Rattle.bufr_bits.specs.OctetLaws.{length-bits}
use Rattle.bufr_bits.proofs.bit_sink.BitSink.into_bytes.Goals as goal

pub returns : goal.returns
returns c =
    let s = c.self.inside in
    let whole = rw (← c.self.view_is) at c.requires in
    let long : length (take s.len (bits s.octets.items)) ≡ s.len =
    length-take-le s.len (bits s.octets.items)
    (omega (arith, length-bits s.octets.items, c.self.invariant.0)) in
    let even : s.len % 8 ≡ 0 = ap (λ k. k % 8) (sym long) ∙ whole in
    rw (← c.self.view_is)
    (sym (take_all s.len (bits s.octets.items)
    (omega (arith, length-bits s.octets.items, c.self.invariant.0, c.self.invariant.1))))

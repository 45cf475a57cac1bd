-- The last octet has zero bits up to its end already.
use Rattle.std.proofs.Common.{◌≡◌, ◌*◌, length, take, ap, ◌∙◌, arith}
use Rattle.std.proofs.lemmas.List.{length-take-le}
use Rattle.bufr_bits.specs.Bits.{bits}
use Rattle.bufr_bits.specs.OctetLaws.{length-bits}
use Rattle.bufr_bits.proofs.Puts.{filled_whole, fill_is}
use Rattle.bufr_bits.proofs.bit_sink.BitSink.fill_octet.Goals as goal

pub invariant_of-self : goal.invariant_of-self
invariant_of-self c =
    let s = c.self.inside in
    filled_whole s.octets.items (8 * c.len.result) (ap (λ k. 8 * k) (c.len.ensures ∙ s.octets.ok.0))

pub returns-clause-filled : goal.returns-clause-filled
returns-clause-filled c =
    let s = c.self.inside in
    rw (← c.self.view_is)
    (fill_is s.octets.items s.len (8 * c.len.result) c.self.invariant
    (ap (λ k. 8 * k) (c.len.ensures ∙ s.octets.ok.0)))

pub returns-clause-whole : goal.returns-clause-whole
returns-clause-whole c =
    let items = c.self.inside.octets.items in
    let all : 8 * c.len.result ≡ 8 * length items =
    ap (λ k. 8 * k) (c.len.ensures ∙ c.self.inside.octets.ok.0) in
    let long : length (take (8 * c.len.result) (bits items)) ≡ 8 * c.len.result =
    length-take-le (8 * c.len.result) (bits items) (omega (arith, length-bits items, all)) in
    omega (arith, long)

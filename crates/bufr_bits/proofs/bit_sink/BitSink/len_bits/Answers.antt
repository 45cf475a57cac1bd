use Rattle.std.proofs.Common.{sym, arith}
use Rattle.std.proofs.lemmas.List.{length-take-le}
use Rattle.bufr_bits.specs.Bits.{bits}
use Rattle.bufr_bits.specs.OctetLaws.{length-bits}
use Rattle.bufr_bits.proofs.bit_sink.BitSink.len_bits.Goals as goal

pub returns : goal.returns
returns c =
    let s = c.self.inside in
    rw (← c.self.view_is)
    (sym (length-take-le s.len (bits s.octets.items)
    (omega (arith, length-bits s.octets.items, c.self.invariant.0))))

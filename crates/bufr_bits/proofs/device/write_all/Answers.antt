-- The octets written and those that the sink takes next are a longer start of the text.
use Rattle.std.proofs.Common.{◌≡◌, ℕ, ◌+◌, ◌-◌, ◌≤◌, List, ◌++◌, length, take, drop, sym, ap, subst}
use Rattle.std.proofs.Common.{◌∙◌, arith}
use Rattle.std.proofs.lemmas.List.{take_rest, length-take}
use Rattle.bufr_bits.specs.Devices.{Writes}
use Rattle.bufr_bits.proofs.BitLists.{take-more}
use Rattle.bufr_bits.specs.DeviceLaws.{Writes-more}
use Rattle.bufr_bits.proofs.device.write_all.Goals as goal

pub loop-written-preserved : goal.loop-written-preserved
loop-written-preserved g c =
    let text = c.args.text.now in
    let written = c.loop-written.written in
    let n = c.in-Ok.n in
    let old = g.W.Sink.writing c.args.sink.now in
    let new = g.W.Sink.writing c.write.new.self in
    let piece : take written text ++ take n (take (length text - written) (drop written text))
    ≡ take (written + n) text =
    ap (λ xs. take written text ++ take n xs) (take_rest text written)
    ∙ sym (take-more written n text) in
    let within : n ≤ length (take (length text - written) (drop written text)) =
    c.in-Ok.ensures.within in
    record {
      inside =
          omega (
            arith,
            within,
            length-take (length text - written) (drop written text),
            c.loop-written.invariant.inside,
          );
      front = subst (λ (xs : List ℕ). Writes old new xs) piece
          (Writes-more old (g.W.Sink.writing c.loop-written.sink) new (take written text)
          (take n
          (take (length text - written)
          (drop written text))) c.loop-written.invariant.front c.in-Ok.ensures.took);
      works = c.in-Ok.ensures.works;
    }

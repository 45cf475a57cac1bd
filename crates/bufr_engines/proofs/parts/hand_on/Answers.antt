-- The octets go to the writer after those gathered, or the part gathers them.
use Rattle.std.proofs.Common.{◌≡◌, ℕ, ◌+◌, List, [], ◌++◌, length, sym, subst, arith}
use Rattle.std.proofs.lemmas.List.{append-nil}
use Rattle.bufr_bits.specs.Devices.{Writing}
use Rattle.bufr_io.specs.Engines.{WritesAll}
use Rattle.bufr_engines.specs.declared.parts.PendingOctets.{PendingOctets}
use Rattle.bufr_engines.specs.Parts.{HandsOn}
use Rattle.bufr_io.specs.PassingLaws.{passed}
use Rattle.bufr_engines.proofs.HandOnFacts.{after_out, gathers_none}
use Rattle.bufr_engines.proofs.parts.hand_on.Goals as goal

pub returns-in_err-write_after-2-clause-hands : goal.returns-in_err-write_after-2-clause-hands
returns-in_err-write_after-2-clause-hands g c =
    let old : Writing = g.W.Sink.writing c.args.writer.now in
    let mid : Writing = g.W.Sink.writing c.write_after.new.writer in
    let now : Writing = g.W.Sink.writing c.write_after-2.new.writer in
    let before : ℕ = c.args.pending.now.written in
    let held : List ℕ = c.args.pending.now.octets.items in
    let octets : List ℕ = c.args.octets.now in
    let part : PendingOctets = record { octets = c.clear.new.self; written = before + c.len-2.result } in
    let counted : before + c.len-2.result ≡ before + length held =
    omega (arith, c.len-2.ensures, c.args.pending.now.octets.ok.0) in
    passed (HandsOn old now before held part octets)
    c.from_residual-in_err-write_after-2.result c.in_err-write_after-2.field-0.0
    c.from_residual-in_err-write_after-2.ensures.1
    (after_out old mid now before (before + c.len-2.result) held octets [] (held ++ octets)
    c.in_err-write_after-2.field-0.0
    (subst (λ (xs : List ℕ). WritesAll old mid xs) c.deref.ensures.value c.in_ok-write_after.ensures)
    counted (sym (append-nil (held ++ octets))) c.in_err-write_after-2.ensures)

pub returns-clause-hands : goal.returns-clause-hands
returns-clause-hands g c =
    let old : Writing = g.W.Sink.writing c.args.writer.now in
    let mid : Writing = g.W.Sink.writing c.write_after.new.writer in
    let now : Writing = g.W.Sink.writing c.write_after-2.new.writer in
    let before : ℕ = c.args.pending.now.written in
    let held : List ℕ = c.args.pending.now.octets.items in
    let octets : List ℕ = c.args.octets.now in
    let part : PendingOctets =
    record { octets = c.clear.new.self; written = before + c.len-2.result + length octets } in
    let counted : before + c.len-2.result + length octets ≡ before + length held + length octets =
    omega (arith, c.len-2.ensures, c.args.pending.now.octets.ok.0) in
    gathers_none old mid now before held octets part
    (subst (λ (xs : List ℕ). WritesAll old mid xs) c.deref.ensures.value c.in_ok-write_after.ensures)
    c.in_ok-write_after-2.ensures counted c.clear.ensures.items

-- Entry by entry, and then the last part.
use Rattle.std.proofs.Common.{ℕ, List, subst}
use Rattle.bufr_bits.specs.Devices.{Writing}
use Rattle.bufr_io.specs.Engines.{WritesAfter}
use Rattle.bufr_engines.specs.Parts.{joined}
use Rattle.bufr_io.specs.PassingLaws.{passed}
use Rattle.bufr_engines.proofs.HandOnFacts.{handed_first, handed_next, handed_fails, handed_all}
use Rattle.bufr_engines.proofs.parts.write_merged.Goals as goal

pub loop-octets-init : goal.loop-octets-init
loop-octets-init g c =
    handed_first (g.W.Sink.writing c.args.writer.now) c.args.pending.now c.args.left.now
    c.requires.works c.requires.begins c.requires.empty c.requires.few

pub loop-octets-preserved : goal.loop-octets-preserved
loop-octets-preserved g c =
    handed_next (g.W.Sink.writing c.args.writer.now) (g.W.Sink.writing c.loop-octets.writer)
    (g.W.Sink.writing c.hand_on.new.writer) c.loop-octets.pending c.hand_on.new.pending
    c.args.left.now c.loop-octets.left c.next.new.self c.in-Some.octets.now
    c.loop-octets.invariant c.in-Some.ensures.taken c.in_ok-hand_on.ensures.hands
    c.in_ok-hand_on.ensures.short

pub returns-in_err-hand_on : goal.returns-in_err-hand_on
returns-in_err-hand_on g c =
    let old : Writing = g.W.Sink.writing c.args.writer.now in
    let now : Writing = g.W.Sink.writing c.hand_on.new.writer in
    let e = c.in_err-hand_on.field-0.0 in
    passed (WritesAfter 0 (joined c.args.left.now) old now) c.from_residual.result e
    c.from_residual.ensures.1
    (handed_fails old (g.W.Sink.writing c.loop-octets.writer) now c.loop-octets.pending
    c.args.left.now c.loop-octets.left c.next.new.self c.in-Some.octets.now e
    c.loop-octets.invariant c.in-Some.ensures.taken c.in_err-hand_on.ensures.hands)

pub returns : goal.returns
returns g c =
    let mid : Writing = g.W.Sink.writing c.loop-octets.writer in
    let now : Writing = g.W.Sink.writing c.write_out.new.writer in
    let part = c.loop-octets.pending in
    handed_all (g.W.Sink.writing c.args.writer.now) mid now part c.args.left.now
    c.loop-octets.left c.write_out.result c.loop-octets.invariant c.in_default.ensures.none
    (subst (λ (xs : List ℕ). WritesAfter part.written xs mid now c.write_out.result)
    c.deref.ensures.value c.write_out.ensures)

use Rattle.std.proofs.Common.{◌≡◌, ◌-◌, ◌++◌, length, drop, ap, arith, length-append, length-drop}
use Rattle.bufr_frame.specs.StreamLaws.{rest_from-length}
use Rattle.bufr_frame.proofs.FramerLaws.{feed_found, feed_next}
use Rattle.bufr_frame.proofs.framers.Framer.feed.Goals as goal

pub invariant_of-self-2 : goal.invariant_of-self-2
invariant_of-self-2 c =
    let held = drop c.self.inside.from c.self.inside.octets.items in
    let piece = c.args.piece.now in
    let n = length c.in_ok-scan.scan.frames.items in
    let less = rest_from-length n 0 (held ++ piece) in
    let taken = c.self.invariant.taken in
    let short = c.in_ok-scan.ensures.short in
    record {
      within = c.in_ok-scan.ensures.within;
      half = c.in_ok-scan.ensures.half;
      taken = omega (arith, ap length c.in_ok-scan.ensures.rest, length-append held piece);
      short = omega arith;
    }

pub returns-clause-found : goal.returns-clause-found
returns-clause-found c =
    let inside = c.self.inside in
    let place : inside.fed - (c.len.result - inside.from)
    ≡ inside.fed - length (drop inside.from inside.octets.items) =
    omega
    (arith, c.len.ensures, inside.octets.ok.0, length-drop inside.from inside.octets.items) in
    feed_found inside.fed _
    (drop inside.from inside.octets.items) c.args.piece.now c.args.self.now
    c.in_ok-scan.scan.frames.items c.self.view_is place c.in_ok-scan.ensures.frames

pub returns-clause-next : goal.returns-clause-next
returns-clause-next c =
    let inside = c.self.inside in
    let place : inside.fed - (c.len.result - inside.from)
    ≡ inside.fed - length (drop inside.from inside.octets.items) =
    omega
    (arith, c.len.ensures, inside.octets.ok.0, length-drop inside.from inside.octets.items) in
    feed_next inside.fed _ (drop inside.from inside.octets.items) c.args.piece.now
    (drop c.in_ok-scan.scan.rest c.append_and_scan.new.octets.items) c.args.self.now
    c.in_ok-scan.scan.frames.items c.self.view_is place c.in_ok-scan.ensures.frames
    c.in_ok-scan.ensures.rest

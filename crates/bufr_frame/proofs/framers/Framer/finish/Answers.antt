use Rattle.std.proofs.Common.{◌-◌, length, drop, take, refl, ap, ◌∙◌, arith}
use Rattle.std.proofs.lemmas.List.{take_rest}
use Rattle.bufr_frame.proofs.FramerLaws.{end_found, same_held}
use Rattle.bufr_frame.proofs.framers.Framer.finish.Goals as goal

pub frames_in-requires : goal.frames_in-requires
frames_in-requires c =
    let inside = c.self.inside in
    let same =
    take_rest c.deref.result.now inside.from ∙ ap (drop inside.from) c.deref.ensures.value in
    let taken = c.self.invariant.taken in
    omega (arith, ap length same)

pub returns-clause-found : goal.returns-clause-found
returns-clause-found c =
    let inside = c.self.inside in
    let same =
    take_rest c.deref.result.now inside.from ∙ ap (drop inside.from) c.deref.ensures.value in
    end_found inside.fed _
    (take (length c.deref.result.now - inside.from)
    (drop inside.from c.deref.result.now)) c.args.self.now c.in_ok-frames.field-0.frames.items
    (same_held inside.fed _
    (drop inside.from inside.octets.items) c.args.self.now same c.self.view_is) refl
    c.in_ok-frames.ensures.frames

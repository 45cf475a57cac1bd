-- Neither the nodes ahead nor those of open replications are chosen fields.
use Rattle.std.proofs.Common.{◌≡◌, ◌≤◌, ap, sym, ◌∙◌, length, arith}
use Rattle.std.proofs.lemmas.List.{take_all}
use Rattle.bufr_expand.specs.declared.walk_state.State.TheVariants as states
use Rattle.bufr_expand.proofs.AskedFacts.{are_clear, none_left}
use Rattle.bufr_expand.proofs.walk.Walk.has_no_more_inside.Goals.{in-Going, in_default}
use Rattle.bufr_expand.proofs.walk.Walk.has_no_more_inside.Goals as goal

pub returns : goal.returns
returns g c =
    let w = c.args.self.now in
    let P = g.A.Asks.is_asked c.args.asked.now in
    let goes : w.state ≡ states.Going =
    elim c.match-matches.branch [ in-Going m ↦ m.in-Going.is | in_default m ↦ absurd cc ] in
    let done : length w.loops.items ≤ c.loop-open.open-index =
    omega (arith, c.loop-open-test.false) in
    none_left P w goes c.if-not-has_none.ensures
    (ap (are_clear P w.nodes.now) (sym (take_all c.loop-open.open-index w.loops.items done))
    ∙ c.loop-open.invariant)

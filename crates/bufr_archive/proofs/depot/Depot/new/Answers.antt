use Rattle.std.proofs.Common.{◌≡◌, ◌∙◌, List, replicate, sym, ap, subst, arith}
use Rattle.bufr_archive.specs.Slots.{new_slots}
use Rattle.bufr_archive.specs.Holdings.{Holding, StandsFor}
use Rattle.bufr_archive.proofs.JoinFacts.{new_holding, new_stands}
use Rattle.bufr_archive.proofs.depot.Depot.new.Goals as goal

pub returns-clause-slots : goal.returns-clause-slots
returns-clause-slots g c =
    let a = c.loop.auto.counter-end in let b = c.loop-test.false in
    let count : c.loop.counter ≡ c.args.slots = omega (arith, a, b) in
    subst (λ (hs : List Holding). StandsFor (record { tables = c.args.tables.now; slots = hs })
    (new_slots c.args.slots))
    (sym (c.loop.invariant ∙ ap (λ n. replicate n (new_holding c.args.tables.now)) count))
    (new_stands c.args.tables.now c.args.slots)

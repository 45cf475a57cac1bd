-- The first field, and those after it.
use Rattle.std.proofs.Common.{sym, ap, subst, ◌∙◌}
use Rattle.bufr_expand.specs.Walks.{left}
use Rattle.bufr_data.specs.Handed.{StandThen, fields_then}
use Rattle.bufr_data.proofs.PlainFacts.LaidTurns.{field_first}
use Rattle.bufr_data.proofs.PlainFacts.Layouts.{first_then}
use Rattle.bufr_data.proofs.plain.laid_turns.LaidTurns.next.Goals as goal

pub returns-in-Ok-clause-ahead : goal.returns-in-Ok-clause-ahead
returns-in-Ok-clause-ahead c =
    let t = c.first.new.self in
    (first_then (left c.args.walk.now) _ _ c.in-Some.field c.args.reader.now c.read_raw.new.reader
    c.in-Ok.raw (field_first t.turn.items t.next t.turns c.in-Some.field c.in-Some.ensures.found)
    (subst (λ fs. StandThen (left c.args.walk.now) fs c.args.reader.now)
    (sym c.in-Some.ensures.unmoved) c.requires) c.in-Ok.ensures.exact).there

pub returns-in-Ok-clause-found : goal.returns-in-Ok-clause-found
returns-in-Ok-clause-found c =
    let t = c.first.new.self in
    ap (λ fs. fields_then (left c.args.walk.now) fs c.args.reader.now)
    (sym c.in-Some.ensures.unmoved)
    ∙ (first_then (left c.args.walk.now) _ _ c.in-Some.field c.args.reader.now
    c.read_raw.new.reader c.in-Ok.raw
    (field_first t.turn.items t.next t.turns c.in-Some.field c.in-Some.ensures.found)
    (subst (λ fs. StandThen (left c.args.walk.now) fs c.args.reader.now)
    (sym c.in-Some.ensures.unmoved) c.requires) c.in-Ok.ensures.exact).is

-- The turns are apart from the fields before the first opener, and from the last turn.
use Rattle.std.proofs.Common.{rules, ◌≡◌, ◌-◌, ◌≤◌, length, sym, ap, subst, ◌∙◌}
use Rattle.bufr_bits.specs.Ends.{BitPlace}
use Rattle.bufr_expand.specs.Walks.{left}
use Rattle.bufr_data.specs.Handed.{fields_then, moved_on}
use Rattle.bufr_data.specs.Plain.LaidTurns.{fields_left}
use Rattle.bufr_data.specs.Plain.NumberTurns.{IsOpening}
use Rattle.bufr_data.specs.Turns.{TakesTurns, TurnsLeft}
use Rattle.bufr_data.proofs.PlainFacts.LaidTurns.{rest_of}
use Rattle.bufr_data.proofs.PlainFacts.NumberTurns.{turns_taken, made_turns}
use Rattle.bufr_data.proofs.plain.laid_turns.LaidTurns.take_numbers.Goals as goal

pub pass_bits-requires : goal.pass_bits-requires
pass_bits-requires g c =
    let w = c.args.self.now in
    let P = g.A.Asks.is_asked c.args.asked.now in
    let passed : length w.turn.items ≤ w.next = search rules in
    let is = subst (λ fs. IsOpening P c.args.opener fs (w.turns - 1) c.in-Some.opening)
    c.as_slice.ensures.value c.in-Some.ensures in
    (turns_taken P c.args.opener (left c.args.walk.now) w.turn.items w.next w.turns
    c.in-Some.opening c.args.reader.now passed c.if-self-lt2.false is c.requires).gap

pub move_on-requires : goal.move_on-requires
move_on-requires g c =
    let w = c.args.self.now in
    let P = g.A.Asks.is_asked c.args.asked.now in
    let passed : length w.turn.items ≤ w.next = search rules in
    let is = subst (λ fs. IsOpening P c.args.opener fs (w.turns - 1) c.in-Some.opening)
    c.as_slice.ensures.value c.in-Some.ensures in
    rw c.in-Some-of.ensures
    (turns_taken P c.args.opener (left c.args.walk.now) w.turn.items w.next w.turns
    c.in-Some.opening c.args.reader.now passed c.if-self-lt2.false is c.requires).gap

pub pass_bits-requires-2 : goal.pass_bits-requires-2
pass_bits-requires-2 g c =
    let w = c.args.self.now in
    let P = g.A.Asks.is_asked c.args.asked.now in
    let passed : length w.turn.items ≤ w.next = search rules in
    let is = subst (λ fs. IsOpening P c.args.opener fs (w.turns - 1) c.in-Some.opening)
    c.as_slice.ensures.value c.in-Some.ensures in
    rw c.pass_bits.ensures
    (turns_taken P c.args.opener (left c.args.walk.now) w.turn.items w.next w.turns
    c.in-Some.opening c.args.reader.now passed c.if-self-lt2.false is c.requires).bits

pub at-requires-clause-enough : goal.at-requires-clause-enough
at-requires-clause-enough g c =
    let w = c.args.self.now in
    let P = g.A.Asks.is_asked c.args.asked.now in
    let passed : length w.turn.items ≤ w.next = search rules in
    let is = subst (λ fs. IsOpening P c.args.opener fs (w.turns - 1) c.in-Some.opening)
    c.as_slice.ensures.value c.in-Some.ensures in
    rw (c.move_on.ensures, c.in-Some-of.ensures, c.in_ok-fields.ensures, c.as_slice-2.ensures.value)
    (turns_taken P c.args.opener (left c.args.walk.now) w.turn.items w.next w.turns
    c.in-Some.opening c.args.reader.now passed c.if-self-lt2.false is c.requires).enough

pub returns-clause-ahead : goal.returns-clause-ahead
returns-clause-ahead g c =
    let w = c.args.self.now in
    let P = g.A.Asks.is_asked c.args.asked.now in
    let passed : length w.turn.items ≤ w.next = search rules in
    let is = subst (λ fs. IsOpening P c.args.opener fs (w.turns - 1) c.in-Some.opening)
    c.as_slice.ensures.value c.in-Some.ensures in
    rw (c.pass_bits-2.ensures, c.pass_bits.ensures)
    (turns_taken P c.args.opener (left c.args.walk.now) w.turn.items w.next w.turns
    c.in-Some.opening c.args.reader.now passed c.if-self-lt2.false is c.requires).ahead

pub returns-clause-taken : goal.returns-clause-taken
returns-clause-taken g c =
    let w = c.args.self.now in
    let o = c.in-Some.opening in
    let later = left c.args.walk.now in
    let P = g.A.Asks.is_asked c.args.asked.now in
    let passed : length w.turn.items ≤ w.next = search rules in
    let is = subst (λ fs. IsOpening P c.args.opener fs (w.turns - 1) o) c.as_slice.ensures.value
    c.in-Some.ensures in
    let t =
    turns_taken P c.args.opener later w.turn.items w.next w.turns o c.args.reader.now passed
    c.if-self-lt2.false is c.requires in
    let end : c.pass_bits-2.new.reader ≡ moved_on (moved_on c.args.reader.now o.gap) o.bits =
    c.pass_bits-2.ensures ∙ ap (λ (r : BitPlace). moved_on r o.bits) c.pass_bits.ensures in
    let made =
    made_turns (w.turns - 1) o.place o.gap c.in_ok-fields.fields.items c.as_slice-2.result.now
    w.turn.items c.move_on.new.self c.in-Some-of.first c.args.reader.now c.at.result
    c.in_ok-fields.ensures c.as_slice-2.ensures.value c.move_on.ensures c.in-Some-of.ensures
    c.at.ensures in
    subst (λ (r : BitPlace). TakesTurns P c.args.opener
    (fields_then later (fields_left w) c.args.reader.now) c.at.result
    (fields_then later (rest_of w.turn.items o.place 0) r)) (sym end)
    (subst (λ (made : TurnsLeft). TakesTurns P c.args.opener
    (fields_then later (fields_left w) c.args.reader.now) made
    (fields_then later (rest_of w.turn.items o.place 0)
    (moved_on (moved_on c.args.reader.now o.gap) o.bits))) (sym made) t.takes)

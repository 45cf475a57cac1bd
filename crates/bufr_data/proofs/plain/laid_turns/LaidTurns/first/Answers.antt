-- The next field of this turn, or the first of the next turn.
use Rattle.std.proofs.Common.{rules, ◌≡◌, ◌≤◌, ◌-◌, [], length, sym, ◌∙◌}
use Rattle.bufr_data.specs.Plain.LaidTurns.{fields_left}
use Rattle.bufr_data.proofs.PlainFacts.LaidTurns.{turn_begins, none_at_end, none_in_turns}
use Rattle.bufr_data.proofs.plain.laid_turns.LaidTurns.first.Goals as goal

pub returns-then-self-eq0-clause-none : goal.returns-then-self-eq0-clause-none
returns-then-self-eq0-clause-none c =
    let w = c.args.self.now in
    let passed : length w.turn.items ≤ w.next = search rules in
    none_at_end w.turn.items w.next w.turns passed c.if-self-eq0.true

pub returns-in_err-get-clause-none : goal.returns-in_err-get-clause-none
returns-in_err-get-clause-none c =
    let w = c.args.self.now in
    let passed : length w.turn.items ≤ w.next = search rules in
    let none_there : length w.turn.items ≤ 0 = search rules in
    let none : fields_left w ≡ [] =
    sym (turn_begins w.turn.items w.next w.turns passed c.if-self-eq0.false)
    ∙ none_in_turns w.turn.items (w.turns - 1) none_there in
    search rules

pub returns-in_err-get-clause-unmoved : goal.returns-in_err-get-clause-unmoved
returns-in_err-get-clause-unmoved c =
    let w = c.args.self.now in
    let passed : length w.turn.items ≤ w.next = search rules in
    turn_begins w.turn.items w.next w.turns passed c.if-self-eq0.false

pub returns-clause-unmoved : goal.returns-clause-unmoved
returns-clause-unmoved c =
    let w = c.args.self.now in
    let passed : length w.turn.items ≤ w.next = search rules in
    turn_begins w.turn.items w.next w.turns passed c.if-self-eq0.false

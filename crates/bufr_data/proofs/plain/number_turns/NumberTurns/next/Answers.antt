-- The first of the turns left.
use Rattle.std.proofs.Common.{◌≡◌, ◌∷◌, ◌-◌, sym, ap, ◌∙◌}
use Rattle.bufr_bits.specs.Ends.{BitPlace, left}
use Rattle.bufr_data.specs.Handed.{moved_on}
use Rattle.bufr_data.specs.Plain.NumberTurns.{numbers_in, turns_in, widths}
use Rattle.bufr_data.specs.Turns.{TurnsLeft}
use Rattle.bufr_data.proofs.PlainFacts.NumberTurns.{next_turn}
use Rattle.bufr_data.proofs.plain.number_turns.NumberTurns.next.Goals as goal

pub returns-clause-more : goal.returns-clause-more
returns-clause-more c =
    let w = c.self.inside in
    let fields = w.fields.items in
    let now = c.read_numbers.new in
    let t = next_turn w.turns fields w.reader c.if-self-eq0.false c.self.invariant.1 in
    let slice = c.as_slice.ensures.value in
    let again = c.again-reader.ensures in
    let read : now.numbers ≡ numbers_in fields (left w.reader) =
    c.read_numbers.ensures.read
    ∙ ap (λ fs. numbers_in fs (left c.again-reader.result)) slice
    ∙ ap (λ (r : BitPlace). numbers_in fields (left r)) again in
    let moved : now.reader ≡ moved_on w.reader (widths fields) =
    c.read_numbers.ensures.moved
    ∙ ap (λ fs. moved_on c.again-reader.result (widths fs)) slice
    ∙ ap (λ (r : BitPlace). moved_on r (widths fields)) again in
    sym (ap (λ (x : TurnsLeft). x.turns) c.self.view_is)
    ∙ t.are
    ∙ ap (λ ns. ns ∷ turns_in (w.turns - 1) fields (left (moved_on w.reader (widths fields))))
    (sym read)
    ∙ ap (λ (r : BitPlace). now.numbers ∷ turns_in (w.turns - 1) fields (left r)) (sym moved)

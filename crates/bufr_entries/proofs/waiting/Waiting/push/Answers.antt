-- The new part is the end of the octets, and the other parts stay.
use Rattle.std.proofs.Common.{◌≡◌, ◌-◌, ◌∙◌, ◌++◌, ◌∷◌, [], Bool, true, false, ap, length, arith, rules, sym}
use Rattle.std.proofs.lemmas.Bool.{false≢true}
use Rattle.bufr_entries.proofs.AheadLemmas.{none-last, no-fewer, parts-put, entries-put}
use Rattle.bufr_entries.specs.declared.waiting.WaitingEntry.{WaitingEntry}
use Rattle.bufr_entries.proofs.waiting.Waiting.push.Goals as goal

-- no bit is both
both : {A : Type 0} (b : Bool) → b ≡ false → b ≡ true → A
both b below above = absurd (false≢true (sym below ∙ above))

pub overflow_sub-len : goal.overflow_sub-len
overflow_sub-len g c =
    let from : c.len-from.result ≡ length c.self.inside.octets.items = search rules in
    let len : c.len.result ≡ length c.append_to.new.out.items = search rules in
    omega (arith, from, len, no-fewer _ _ _ _ c.in_ok-stands.ensures.put)

pub returns-then-not-stands-clause-ok : goal.returns-then-not-stands-clause-ok
returns-then-not-stands-clause-ok g c =
    let inside = c.self.inside in
    let e : WaitingEntry = record {
      mark = c.args.mark;
      from = c.len-from.result;
      len = c.len.result - c.len-from.result;
    } in
    let from : c.len-from.result ≡ length inside.octets.items = search rules in
    let len : c.len.result ≡ length c.append_to.new.out.items = search rules in
    let none : c.in_ok-stands.stands ≡ false = search rules in
    entries-put _ c.in_ok-stands.stands inside.octets.items c.append_to.new.out.items
    inside.entries.items c.reserve.new.self.items e c.args.self.now from
    (omega (arith, from, len, no-fewer _ _ _ _ c.in_ok-stands.ensures.put)) c.self.invariant.0
    c.in_ok-stands.ensures.put (both _ none) (λ _. c.reserve.ensures.items) c.self.view_is

pub invariant_of-self-then-not-stands : goal.invariant_of-self-then-not-stands
invariant_of-self-then-not-stands g c =
    let inside = c.self.inside in
    let e : WaitingEntry = record {
      mark = c.args.mark;
      from = c.len-from.result;
      len = c.len.result - c.len-from.result;
    } in
    let from : c.len-from.result ≡ length inside.octets.items = search rules in
    let len : c.len.result ≡ length c.append_to.new.out.items = search rules in
    let none : c.in_ok-stands.stands ≡ false = search rules in (
      parts-put _ c.in_ok-stands.stands inside.octets.items c.append_to.new.out.items
          inside.entries.items c.reserve.new.self.items e from
          (omega (arith, from, len, no-fewer _ _ _ _ c.in_ok-stands.ensures.put))
          c.self.invariant.0 c.in_ok-stands.ensures.put (both _ none)
          (λ _. c.reserve.ensures.items),
      none-last c.append_to.new.out.items c.reserve.new.self.items
          c.clear.new.self.items c.clear.ensures.items,
    )

pub returns-clause-ok : goal.returns-clause-ok
returns-clause-ok g c =
    let inside = c.self.inside in
    let e : WaitingEntry = record {
      mark = c.args.mark;
      from = c.len-from.result;
      len = c.len.result - c.len-from.result;
    } in
    let from : c.len-from.result ≡ length inside.octets.items = search rules in
    let len : c.len.result ≡ length c.append_to.new.out.items = search rules in
    let some : c.in_ok-stands.stands ≡ true = search rules in
    entries-put _ c.in_ok-stands.stands inside.octets.items c.append_to.new.out.items
    inside.entries.items c.push_reserved.new.self.items e c.args.self.now from
    (omega (arith, from, len, no-fewer _ _ _ _ c.in_ok-stands.ensures.put)) c.self.invariant.0
    c.in_ok-stands.ensures.put
    (λ _. c.push_reserved.ensures.items ∙ ap (λ es. es ++ e ∷ []) c.reserve.ensures.items)
    (λ none. both _ none some) c.self.view_is

pub invariant_of-self-2 : goal.invariant_of-self-2
invariant_of-self-2 g c =
    let inside = c.self.inside in
    let e : WaitingEntry = record {
      mark = c.args.mark;
      from = c.len-from.result;
      len = c.len.result - c.len-from.result;
    } in
    let from : c.len-from.result ≡ length inside.octets.items = search rules in
    let len : c.len.result ≡ length c.append_to.new.out.items = search rules in
    let some : c.in_ok-stands.stands ≡ true = search rules in (
      parts-put _ c.in_ok-stands.stands inside.octets.items c.append_to.new.out.items
          inside.entries.items c.push_reserved.new.self.items e from
          (omega (arith, from, len, no-fewer _ _ _ _ c.in_ok-stands.ensures.put))
          c.self.invariant.0 c.in_ok-stands.ensures.put
          (λ _. c.push_reserved.ensures.items ∙ ap (λ es. es ++ e ∷ []) c.reserve.ensures.items)
          (λ none. both _ none some),
      none-last c.append_to.new.out.items c.push_reserved.new.self.items
          c.clear.new.self.items c.clear.ensures.items,
    )

pub invariant_of-self : goal.invariant_of-self
invariant_of-self g c = (
  search rules,
  none-last c.self.inside.octets.items c.reserve.new.self.items c.clear.new.self.items
      c.clear.ensures.items,
)

pub invariant_of-self-in_err-stands : goal.invariant_of-self-in_err-stands
invariant_of-self-in_err-stands g c = (
  search rules,
  none-last c.append_to.new.out.items c.reserve.new.self.items c.clear.new.self.items
      c.clear.ensures.items,
)

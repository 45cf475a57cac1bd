-- The octets are the end of those read ahead, or the entry's own part.
use Rattle.std.proofs.Common.{◌≡◌, ◌≤◌, ◌∙◌, ◌-◌, ap, arith, drop, length, length-drop, rules, subst, sym, take}
use Rattle.std.proofs.lemmas.List.{take_all}
use Rattle.bufr_entries.proofs.AheadLemmas.{last-octets, last-seen}
use Rattle.bufr_entries.proofs.waiting.Waiting.last.Goals as goal
use Rattle.bufr_entries.proofs.waiting.Waiting.last.Goals.{in-Some, in-None}

pub returns-clause-last : goal.returns-clause-last
returns-clause-last c =
    let os = c.self.inside.octets.items in let es = c.self.inside.entries.items in
    let g = c.self.inside.ahead.items in let e = c.in_ok-last.last.now in let ys = c.in_ok-last.field-0-1.now in
    let is = sym c.deref.ensures.value ∙ c.in_ok-last.ensures.cases.0 in
    let part : c.match-checked_sub.octets.now ≡ take e.len (drop e.from os) =
    elim c.match-checked_sub.branch [
      | in-Some w ↦
          let a = w.deref-in-Some.result.now in let from = w.in-Some.from in
          let all : a ≡ g = w.deref-in-Some.ensures.value in
          let count : c.len.result ≡ length g = search rules in
          let left : from ≡ length g - e.len =
          w.in-Some.ensures.1 ∙ ap (λ n. n - e.len) count in
          let long : e.len ≤ length g = subst (λ n. e.len ≤ n) count w.in-Some.ensures.0 in
          ap (λ o. o.now) w.octets-is
          ∙ take_all (length a - from) (drop from a) (omega (arith, length-drop from a))
          ∙ ap (drop from) all ∙ ap (λ n. drop n g) left
          ∙ last-octets os es ys e g is c.self.invariant long
      | in-None w ↦ ap (λ o. o.now) w.octets-is ∙ w.part-octets.ensures
          ∙ ap (λ xs. take e.len (drop e.from xs)) w.deref-in-None.ensures.value
    ] in
    last-seen os c.match-checked_sub.octets.now es ys e c.args.self.now is c.self.view_is part

-- One more entry waits, whether or not the batch was settled before.
use Rattle.std.proofs.Common.{◌∙◌, ◌++◌, ◌≤◌, length, sym, ap, subst, arith, rules}
use Rattle.std.specs.Option.{option_map, option_to_list}
use Rattle.bufr_entries.specs.Entries.{kept}
use Rattle.bufr_entries.specs.Pages.{flat, marked}
use Rattle.bufr_entries.proofs.PageLemmas.{Ready, ready-settled, one-more, more-push, kept-put}
use Rattle.bufr_entries.proofs.builder.ShelfBuilder.put_marked.Given.{Over}
use Rattle.bufr_entries.proofs.builder.ShelfBuilder.put_marked.Goals as goal
use Rattle.bufr_entries.proofs.builder.ShelfBuilder.put_marked.Goals.{After-push, then-are_many+in_ok-settle+in_ok-self-inside, else-are_many}

ready : (g : Over) (c : After-push g) → let inside = c.if-are_many.self-inside in
    Ready (flat inside.settled.items) inside.left inside.waiting (length inside.waiting)
    inside.count c.args.self.now
ready g c = elim c.if-are_many.branch [
  | then-are_many+in_ok-settle+in_ok-self-inside w ↦ rw w.self-inside-is
      (ready-settled (flat w.settle.new.settled.items) w.settle.new.left
      w.settle.new.waiting _ _ _ w.settle.ensures.sorted w.in_ok-settle.ensures.done.0
      w.in_ok-settle.ensures.done.1 (search rules) w.in_ok-self-inside.ensures
      (w.settle.ensures.all ∙ c.self.view_is))
  | else-are_many w ↦ rw w.self-inside-is
      (record {
        sorted = c.self.invariant.0;
        few = omega (arith, c.are_many.ensures w.if-are_many.false);
        counted = c.self.invariant.2;
        same = c.self.view_is;
      })
]

pub invariant_of-self-in_err-push : goal.invariant_of-self-in_err-push
invariant_of-self-in_err-push g c =
    let inside = c.if-are_many.self-inside in
    let r = ready g ((goal.at.invariant_of-self-in_err-push g c).After-push) in (
      r.sorted,
      omega (arith, r.few, ap length c.in_err-push.ensures.err),
      subst (λ ws. inside.count ≤ length (kept (flat inside.settled.items ++ (inside.left ++ ws))))
          (sym c.in_err-push.ensures.err) r.counted,
    )

pub invariant_of-self-2 : goal.invariant_of-self-2
invariant_of-self-2 g c =
    let inside = c.if-are_many.self-inside in
    let r = ready g ((goal.at.invariant_of-self-2 g c).After-push) in
    let o = option_map (marked c.args.mark) (g.O.EntryOctets.octets c.args.entry.now) in (
      r.sorted,
      omega (arith, r.few, one-more inside.waiting c.push.new.self o c.in_ok-push.ensures.ok),
      more-push (flat inside.settled.items) inside.left inside.waiting c.push.new.self o
          inside.count c.in_ok-push.ensures.ok r.counted,
    )

pub returns-clause-ok : goal.returns-clause-ok
returns-clause-ok g c =
    let inside = c.if-are_many.self-inside in
    let r = ready g ((goal.at.returns-clause-ok g c).After-push) in
    let octets = g.O.EntryOctets.octets c.args.entry.now in
    kept-put (flat inside.settled.items) inside.left inside.waiting c.push.new.self
    (option_to_list (option_map (marked c.args.mark) octets)) c.args.self.now
    c.in_ok-push.ensures.ok r.same

-- The encoding of the message comes after the others.
use Rattle.std.proofs.Common.{ℕ, List, ◌++◌, ◌∙◌, ap}
use Rattle.bufr_engines.proofs.encode.add_octets.Goals as goal

pub returns-clause-ok : goal.returns-clause-ok
returns-clause-ok c = (
  c.in_ok-more.more.items,
  c.in_ok-more.ensures.exact,
  c.in_ok-extend_from_slice.ensures.items
      ∙ ap (λ (more : List ℕ). c.args.octets.now.items ++ more) c.deref.ensures.value,
)

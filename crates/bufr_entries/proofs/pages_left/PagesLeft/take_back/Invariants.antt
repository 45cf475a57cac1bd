use Rattle.std.proofs.Common.{◌≡◌, ◌++◌, [], reverse, vec_len}
use Rattle.bufr_entries.specs.Pages.{flat}
use Rattle.bufr_entries.proofs.pages_left.PagesLeft.take_back.Given as goal

-- all entries together are constant, and a page without entries is the last
abbrev pub invariant-loop-settled : goal.invariant-loop-settled
invariant-loop-settled l = record {
  same : flat l.settled.items ++ (l.self-inside.page ++ flat (reverse l.self-inside.pages.items))
      ≡ flat l.fn.settled.items ++ l.fn.self;
  turned : (l.self-inside.page ≡ []) → (l.self-inside.pages.items ≡ []);
}

-- the settled pages
abbrev pub decreases-loop-settled : goal.decreases-loop-settled
decreases-loop-settled l = vec_len l.settled

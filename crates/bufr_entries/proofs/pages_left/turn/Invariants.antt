use Rattle.std.proofs.Common.{◌≡◌, ◌++◌, reverse, vec_len}
use Rattle.bufr_entries.specs.Pages.{flat}
use Rattle.bufr_entries.proofs.pages_left.turn.Given as goal

-- all entries together are constant
abbrev pub invariant-loop-pages : goal.invariant-loop-pages
invariant-loop-pages l = l.page ++ flat (reverse l.pages.items)
    ≡ l.fn.page ++ flat (reverse l.fn.pages.items)

-- the pages left
abbrev pub decreases-loop-pages : goal.decreases-loop-pages
decreases-loop-pages l = vec_len l.pages

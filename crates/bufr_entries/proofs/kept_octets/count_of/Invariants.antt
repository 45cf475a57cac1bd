use Rattle.std.proofs.Common.{◌≡◌, length, take}
use Rattle.bufr_entries.specs.Pages.{flat}
use Rattle.bufr_entries.proofs.kept_octets.count_of.Given as goal

-- the count is that of the pages before this one
abbrev pub invariant-loop-page : goal.invariant-loop-page
invariant-loop-page l = l.count ≡ length (flat (take l.page-index l.pages.items))

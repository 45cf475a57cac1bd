use Rattle.std.proofs.Common.{◌≡◌, length}
use Rattle.bufr_tables.specs.Fields.{skip_spaces}
use Rattle.bufr_tables.proofs.fields.without_first_spaces.Given as goal

-- without its first spaces, `rest` is the text without its own
abbrev pub invariant-loop-first : goal.invariant-loop-first
invariant-loop-first l = skip_spaces l.rest ≡ skip_spaces l.fn.text

-- the number of octets left
abbrev pub decreases-loop-first : goal.decreases-loop-first
decreases-loop-first l = length l.rest

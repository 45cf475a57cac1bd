use Rattle.std.proofs.Common.{◌≡◌, length, reverse}
use Rattle.bufr_tables.specs.Fields.{skip_spaces}
use Rattle.bufr_tables.proofs.fields.without_last_spaces.Given as goal

-- without its last spaces, `rest` is the text without its own
abbrev pub invariant-loop-last : goal.invariant-loop-last
invariant-loop-last l = skip_spaces (reverse l.rest) ≡ skip_spaces (reverse l.fn.text)

-- the number of octets left
abbrev pub decreases-loop-last : goal.decreases-loop-last
decreases-loop-last l = length l.rest

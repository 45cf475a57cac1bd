-- The loop of `nth_in_turn`: the fields that are left.
use Rattle.std.proofs.Common.{◌≡◌, ◌-◌, drop, length}
use Rattle.bufr_select_rows.specs.Turns.{turn_from, turn_nth}
use Rattle.bufr_select_rows.proofs.turn.nth_in_turn.Given as goal

-- the source is found among the fields that are left
abbrev pub invariant-fields : goal.invariant-fields
invariant-fields l =
    turn_from l.fxy l.ahead l.index (drop l.index l.fields) ≡ turn_nth l.fxy l.number l.fields

-- the fields that are left
abbrev pub decreases-fields : goal.decreases-fields
decreases-fields l = length l.fields - l.index

-- The loop of `push_text`: the octets so far were added.
use Rattle.std.proofs.Common.{◌≡◌, ◌++◌, take}
use Rattle.bufr_select_rows.specs.Values.{shown_text}
use Rattle.bufr_select_rows.proofs.text.push_text.Given as goal

-- the octets so far were added as they are shown
abbrev pub invariant-loop-octet : goal.invariant-loop-octet
invariant-loop-octet l =
    l.text.items ≡ l.initial.text.items ++ shown_text (take l.octet-index l.octets)

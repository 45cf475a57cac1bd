-- The loop of `write_last`: the digits so far are written.
use Rattle.std.proofs.Common.{◌≡◌, ◌-◌, ◌/◌, ◌^◌, ◌++◌, drop}
use Rattle.bufr_fields.specs.Digits.{last_digits}
use Rattle.bufr_listing.proofs.decimals.write_last.Given as goal

-- the digits so far are written, and these are left
abbrev pub invariant-loop-count : goal.invariant-loop-count
invariant-loop-count l = record {
  written : drop (l.end - l.count) l.room ≡ last_digits l.count l.size ++ drop l.end l.initial.room;
  rest : l.left ≡ l.size / 10 ^ l.count;
}

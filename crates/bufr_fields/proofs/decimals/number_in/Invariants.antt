use Rattle.std.proofs.Common.{◌≡◌, ◌<◌, ◌^◌, take}
use Rattle.bufr_fields.proofs.DigitRunFacts.{number_of}
use Rattle.bufr_fields.proofs.decimals.number_in.Given as goal

-- `value` is the number of the digits before, and fits 128 bits
abbrev pub invariant-loop-c : goal.invariant-loop-c
invariant-loop-c l = record {
  so_far : l.value ≡ number_of (take l.c-index l.text);
  fits : l.value < 2 ^ 128;
}

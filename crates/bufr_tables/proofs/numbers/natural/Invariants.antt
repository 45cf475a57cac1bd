use Rattle.std.proofs.Common.{◌≡◌, ◌<◌, ◌^◌, take}
use Rattle.bufr_tables.specs.Numbers.{digits_value}
use Rattle.bufr_tables.proofs.numbers.natural.Given as goal

-- the value of the digits read, which fits in 64 bits
abbrev pub invariant-loop-c : goal.invariant-loop-c
invariant-loop-c l =
    record { so_far : l.value ≡ digits_value (take l.c-index l.text); fits : l.value < 2 ^ 64 }

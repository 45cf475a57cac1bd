-- There is one number for each field of section 1 and of the time, and its limit makes it fit.
use Rattle.std.proofs.Common.{arith}
use Rattle.bufr_listing_reader.specs.Reading.{section1_limits, time_limits}
use Rattle.bufr_listing_reader.proofs.LineFacts.{below_length, below_at}
use Rattle.bufr_listing_reader.proofs.messages.head_of.Goals as goal

pub bounds-numbers-0 : goal.bounds-numbers-0
bounds-numbers-0 c = omega (arith, below_length section1_limits _ c.requires.numbers)

pub overflow_cast-result : goal.overflow_cast-result
overflow_cast-result c =
    omega (arith, below_at section1_limits _ 0 c.requires.numbers (omega arith))

pub bounds-numbers-1 : goal.bounds-numbers-1
bounds-numbers-1 c = omega (arith, below_length section1_limits _ c.requires.numbers)

pub overflow_cast-result-2 : goal.overflow_cast-result-2
overflow_cast-result-2 c =
    omega (arith, below_at section1_limits _ 1 c.requires.numbers (omega arith))

pub bounds-numbers-2 : goal.bounds-numbers-2
bounds-numbers-2 c = omega (arith, below_length section1_limits _ c.requires.numbers)

pub overflow_cast-result-3 : goal.overflow_cast-result-3
overflow_cast-result-3 c =
    omega (arith, below_at section1_limits _ 2 c.requires.numbers (omega arith))

pub bounds-numbers-3 : goal.bounds-numbers-3
bounds-numbers-3 c = omega (arith, below_length section1_limits _ c.requires.numbers)

pub overflow_cast-result-4 : goal.overflow_cast-result-4
overflow_cast-result-4 c =
    omega (arith, below_at section1_limits _ 3 c.requires.numbers (omega arith))

pub bounds-numbers-4 : goal.bounds-numbers-4
bounds-numbers-4 c = omega (arith, below_length section1_limits _ c.requires.numbers)

pub overflow_cast-result-5 : goal.overflow_cast-result-5
overflow_cast-result-5 c =
    omega (arith, below_at section1_limits _ 4 c.requires.numbers (omega arith))

pub bounds-numbers-5 : goal.bounds-numbers-5
bounds-numbers-5 c = omega (arith, below_length section1_limits _ c.requires.numbers)

pub overflow_cast-result-6 : goal.overflow_cast-result-6
overflow_cast-result-6 c =
    omega (arith, below_at section1_limits _ 5 c.requires.numbers (omega arith))

pub bounds-numbers-6 : goal.bounds-numbers-6
bounds-numbers-6 c = omega (arith, below_length section1_limits _ c.requires.numbers)

pub overflow_cast-result-7 : goal.overflow_cast-result-7
overflow_cast-result-7 c =
    omega (arith, below_at section1_limits _ 6 c.requires.numbers (omega arith))

pub bounds-numbers-7 : goal.bounds-numbers-7
bounds-numbers-7 c = omega (arith, below_length section1_limits _ c.requires.numbers)

pub overflow_cast-result-8 : goal.overflow_cast-result-8
overflow_cast-result-8 c =
    omega (arith, below_at section1_limits _ 7 c.requires.numbers (omega arith))

pub bounds-time-0 : goal.bounds-time-0
bounds-time-0 c = omega (arith, below_length time_limits _ c.requires.time)

pub overflow_cast-result-9 : goal.overflow_cast-result-9
overflow_cast-result-9 c = omega (arith, below_at time_limits _ 0 c.requires.time (omega arith))

pub bounds-time-1 : goal.bounds-time-1
bounds-time-1 c = omega (arith, below_length time_limits _ c.requires.time)

pub overflow_cast-result-10 : goal.overflow_cast-result-10
overflow_cast-result-10 c = omega (arith, below_at time_limits _ 1 c.requires.time (omega arith))

pub bounds-time-2 : goal.bounds-time-2
bounds-time-2 c = omega (arith, below_length time_limits _ c.requires.time)

pub overflow_cast-result-11 : goal.overflow_cast-result-11
overflow_cast-result-11 c = omega (arith, below_at time_limits _ 2 c.requires.time (omega arith))

pub bounds-time-3 : goal.bounds-time-3
bounds-time-3 c = omega (arith, below_length time_limits _ c.requires.time)

pub overflow_cast-result-12 : goal.overflow_cast-result-12
overflow_cast-result-12 c = omega (arith, below_at time_limits _ 3 c.requires.time (omega arith))

pub bounds-time-4 : goal.bounds-time-4
bounds-time-4 c = omega (arith, below_length time_limits _ c.requires.time)

pub overflow_cast-result-13 : goal.overflow_cast-result-13
overflow_cast-result-13 c = omega (arith, below_at time_limits _ 4 c.requires.time (omega arith))

pub bounds-time-5 : goal.bounds-time-5
bounds-time-5 c = omega (arith, below_length time_limits _ c.requires.time)

pub overflow_cast-result-14 : goal.overflow_cast-result-14
overflow_cast-result-14 c = omega (arith, below_at time_limits _ 5 c.requires.time (omega arith))

use Rattle.std.proofs.Common.{◌≡◌, drop}
use Rattle.bufr_listing_reader.specs.Words.{words_left, numbers_of}
use Rattle.bufr_listing_reader.proofs.WordFacts.{behind}
use Rattle.bufr_listing_reader.proofs.line_words.Words.numbers.Given as goal

-- the numbers read, and those of the words and limits left, are those of all words
abbrev pub invariant-loop-limit : goal.invariant-loop-limit
invariant-loop-limit l =
    numbers_of l.limits (words_left l.fn.self)
    ≡ behind l.numbers.items (numbers_of (drop l.limit-index l.limits) (words_left l.self))

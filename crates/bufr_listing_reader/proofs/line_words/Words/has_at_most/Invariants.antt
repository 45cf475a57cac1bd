use Rattle.std.proofs.Common.{◌≡◌, ◌+◌, length}
use Rattle.bufr_listing_reader.specs.Words.{words_left}
use Rattle.bufr_listing_reader.proofs.line_words.Words.has_at_most.Given as goal

-- the words passed and the words left are all words
abbrev pub invariant-loop-i : goal.invariant-loop-i
invariant-loop-i l = length (words_left l.fn.self) ≡ l._i + length (words_left l.self)

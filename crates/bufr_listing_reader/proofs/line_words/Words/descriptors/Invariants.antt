use Rattle.std.proofs.Common.{◌≡◌, length}
use Rattle.bufr_listing_reader.specs.Words.{words_left, descriptors_of}
use Rattle.bufr_listing_reader.proofs.WordFacts.{behind}
use Rattle.bufr_listing_reader.proofs.line_words.Words.descriptors.Given as goal

-- the descriptors read, and those of the words left, are those of all words
abbrev pub invariant-loop-word : goal.invariant-loop-word
invariant-loop-word l =
    descriptors_of (words_left l.fn.self)
    ≡ behind l.descriptors.items (descriptors_of (words_left l.self))

abbrev pub decreases-loop-word : goal.decreases-loop-word
decreases-loop-word l = length (words_left l.self)

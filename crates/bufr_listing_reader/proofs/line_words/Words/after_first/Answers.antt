use Rattle.std.proofs.Common.{◌∙◌, List, ℕ, drop, sym, ap}
use Rattle.bufr_listing_reader.proofs.WordFacts.{some_word}
use Rattle.bufr_listing_reader.proofs.line_words.Words.after_first.Goals as goal

pub returns-in-None : goal.returns-in-None
returns-in-None c = some_word c.args.line.now (sym c.of-words.ensures ∙ c.in-None.ensures.none)

pub returns-in-Some : goal.returns-in-Some
returns-in-Some c =
    sym (ap (λ (ws : List (List ℕ)). drop 1 ws) (sym c.of-words.ensures ∙ c.in-Some.ensures.some))

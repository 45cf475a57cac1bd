use Rattle.std.proofs.Common.{◌∙◌, sym}
use Rattle.bufr_listing_reader.proofs.WordFacts.{some_word}
use Rattle.bufr_listing_reader.proofs.line_words.begins.Goals as goal

pub returns-in-None : goal.returns-in-None
returns-in-None c = some_word c.args.line.now (sym c.of.ensures ∙ c.in-None.ensures.none)

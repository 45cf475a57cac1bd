use Rattle.std.proofs.Common.{◌∙◌, ◌+◌, ◌∷◌, List, ℕ, sym, ap, take, Bor}
use Rattle.std.specs.Prelude.{option_map}
use Rattle.bufr_listing_reader.specs.Lines.{words_of}
use Rattle.bufr_listing_reader.specs.Words.{words_in, words_left}
use Rattle.bufr_listing_reader.proofs.CursorFacts.{rest_whole}
use Rattle.bufr_listing_reader.proofs.WordFacts.{no_space, at_space}
use Rattle.bufr_listing_reader.proofs.line_words.Words.next.Goals as goal

pub returns-in-None-clause-some : goal.returns-in-None-clause-some
unfolding words_left
returns-in-None-clause-some c =
    ap (λ o. words_in (option_map (λ (t : Bor (List ℕ)). t.now) o)) c.in_ok-text.was
    ∙ no_space c.in_ok-text.text.now (sym c.space_in.ensures ∙ c.in-None.is)

pub returns-in-Some-clause-some : goal.returns-in-Some-clause-some
unfolding words_left
returns-in-Some-clause-some c =
    ap (λ o. words_in (option_map (λ (t : Bor (List ℕ)). t.now) o)) c.in_ok-text.was
    ∙ at_space c.in_ok-text.text.now c.in-Some.end (sym c.space_in.ensures ∙ c.in-Some.is)
    ∙ ap (λ t. take c.in-Some.end c.in_ok-text.text.now ∷ words_of t)
    (sym (rest_whole (c.in-Some.end + 1) c.in_ok-text.text.now))

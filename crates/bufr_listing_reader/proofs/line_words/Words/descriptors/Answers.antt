use Rattle.std.proofs.Common.{◌∙◌, sym, ap, length, arith}
use Rattle.bufr_listing_reader.specs.Words.{words_left, descriptors_of}
use Rattle.bufr_listing_reader.proofs.WordFacts.{behind, behind_none, behind_more, behind_end}
use Rattle.bufr_listing_reader.proofs.WordFacts.{one_descriptor, bad_descriptor, no_descriptors}
use Rattle.bufr_listing_reader.proofs.line_words.Words.descriptors.Goals as goal

pub loop-word-init : goal.loop-word-init
loop-word-init c =
    rw c.new-descriptors.ensures.items (behind_none (descriptors_of (words_left c.args.self)))

pub returns-in-None : goal.returns-in-None
returns-in-None c =
    sym (c.loop-word.invariant
    ∙ ap (λ o. behind c.loop-word.descriptors.items o) (ap descriptors_of c.in-Some.ensures.some
    ∙ bad_descriptor c.in-Some.word.now (words_left c.next.new.self) (sym c.from_text.ensures
    ∙ c.in-None.is)))

pub loop-word-smaller : goal.loop-word-smaller
loop-word-smaller c = let len = ap length c.in-Some.ensures.some in omega (arith, len)

pub loop-word-preserved : goal.loop-word-preserved
loop-word-preserved c =
    c.loop-word.invariant
    ∙ ap (λ o. behind c.loop-word.descriptors.items o) (ap descriptors_of c.in-Some.ensures.some
    ∙ one_descriptor c.in-Some-from_text.fxy c.in-Some.word.now (words_left c.next.new.self)
    (sym c.from_text.ensures ∙ c.in-Some-from_text.is))
    ∙ behind_more c.loop-word.descriptors.items c.push.new.self.items c.in-Some-from_text.fxy
    (descriptors_of (words_left c.next.new.self)) c.in_ok-push-in-Some-from_text.ensures.items

pub returns : goal.returns
returns c =
    sym (c.loop-word.invariant
    ∙ ap (λ o. behind c.loop-word.descriptors.items o)
    (ap descriptors_of c.in_default.ensures.none ∙ no_descriptors)
    ∙ behind_end c.loop-word.descriptors.items)

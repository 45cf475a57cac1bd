use Rattle.std.proofs.Common.{◌∙◌, ◌+◌, ℕ, Vec, Global, sym, ap, drop, get_or, arith}
use Rattle.std.specs.Prelude.{Option, option_map}
use Rattle.std.proofs.lemmas.List.{drop_more}
use Rattle.bufr_listing_reader.specs.Words.{words_left, numbers_of}
use Rattle.bufr_listing_reader.proofs.WordFacts.{behind, behind_more, one_number, bad_number}
use Rattle.bufr_listing_reader.proofs.WordFacts.{too_few, numbers_end, numbers_over, word_ended, word_more}
use Rattle.bufr_listing_reader.proofs.line_words.Words.numbers.Goals as goal
use Rattle.bufr_listing_reader.proofs.line_words.Words.numbers.Goals.{then-is_none, else-is_none}

pub returns-in_default : goal.returns-in_default
returns-in_default c =
    let k = c.loop-limit.limit-index in
    let next = drop_more c.args.limits.now k 0 (omega arith) in
    sym (c.loop-limit.invariant
    ∙ ap (λ o. behind c.loop-limit.numbers.items o)
    ((λ i. numbers_of (next i) (c.in_default.ensures.none i))
    ∙ too_few (drop (k + 1) c.args.limits.now) (get_or c.args.limits.now k 0)))

pub returns-in_default-number_below : goal.returns-in_default-number_below
returns-in_default-number_below c =
    let k = c.loop-limit.limit-index in
    let next = drop_more c.args.limits.now k 0 (omega arith) in
    sym (c.loop-limit.invariant
    ∙ ap (λ o. behind c.loop-limit.numbers.items o)
    ((λ i. numbers_of (next i) (c.in-Some.ensures.some i))
    ∙ bad_number (drop (k + 1) c.args.limits.now) (get_or c.args.limits.now k 0)
    c.in-Some.word.now (words_left c.next.new.self) (sym c.number_below.ensures
    ∙ c.in_default-number_below.is)))

pub loop-limit-preserved : goal.loop-limit-preserved
loop-limit-preserved c =
    let k = c.loop-limit.limit-index in
    let next = drop_more c.args.limits.now k 0 (omega arith) in
    c.loop-limit.invariant
    ∙ ap (λ o. behind c.loop-limit.numbers.items o)
    ((λ i. numbers_of (next i) (c.in-Some.ensures.some i))
    ∙ one_number (drop (k + 1) c.args.limits.now) (get_or c.args.limits.now k 0)
    c.in-Some-number_below.number c.in-Some.word.now (words_left c.next.new.self)
    (sym c.number_below.ensures ∙ c.in-Some-number_below.is))
    ∙ behind_more c.loop-limit.numbers.items c.push.new.self.items c.in-Some-number_below.number
    (numbers_of (drop (k + 1) c.args.limits.now) (words_left c.next.new.self))
    c.in_ok-push.ensures.items

pub returns : goal.returns
returns c =
    elim c.if-is_none.branch [
      | then-is_none w ↦
          ap (λ (o : Option (Vec ℕ Global)). option_map (λ ns. ns.items) o) w.result-is
          ∙ sym (c.loop-limit.invariant ∙ numbers_end c.args.limits.now c.loop-limit.numbers.items
          c.loop-limit.limit-index (words_left c.loop-limit.self) c.loop-limit-test.false
          (word_ended c.next-2.result c.is_none.result (words_left c.loop-limit.self)
          c.is_none.ensures w.if-is_none.true c.next-2.ensures.none))
      | else-is_none w ↦
          let more = word_more c.next-2.result c.is_none.result (words_left c.loop-limit.self)
          (words_left c.next-2.new.self) c.is_none.ensures w.if-is_none.false
          c.next-2.ensures.some in
          ap (λ (o : Option (Vec ℕ Global)). option_map (λ ns. ns.items) o) w.result-is
          ∙ sym (c.loop-limit.invariant
          ∙ numbers_over c.args.limits.now c.loop-limit.numbers.items c.loop-limit.limit-index
          (words_left c.loop-limit.self) (words_left c.next-2.new.self) more.0
          c.loop-limit-test.false more.1)
    ]

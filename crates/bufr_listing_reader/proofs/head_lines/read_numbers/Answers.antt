-- The first word and the number of words decide L1, then the numbers decide L2.
use Rattle.std.proofs.Common.{◌≡◌, ◌∷◌, ◌∙◌, sym, ap, ℕ, Vec, Global, Err}
use Rattle.std.specs.Prelude.{Option, option_map, if◌then◌else◌}
use Rattle.bufr_base.specs.declared.failure.Failure.TheVariants.{Fault}
use Rattle.bufr_listing.specs.declared.fault.ListingFault.TheVariants.{BadLine, BadValue}
use Rattle.bufr_listing_reader.specs.Cursors.{left, past, printed}
use Rattle.bufr_listing_reader.specs.Lines.{words_of, first_word}
use Rattle.bufr_listing_reader.specs.Words.{words_left}
use Rattle.bufr_listing_reader.specs.Reading.{read_numbers}
use Rattle.bufr_listing_reader.proofs.FieldFacts.{bytes_same}
use Rattle.bufr_listing_reader.proofs.CallFacts.{taken_ok, taken_err, titled_words}
use Rattle.bufr_listing_reader.proofs.NumberFacts.{untitled_numbers, numbers_are, numbers_are_not}
use Rattle.bufr_listing_reader.proofs.head_lines.read_numbers.Goals.{After-after_first-words}
use Rattle.bufr_listing_reader.proofs.head_lines.read_numbers.Goals as goal

in_words : (c : After-after_first-words) → words_of c.in_ok-line.line.text.now
    ≡ c.args.title.now ∷ words_left c.after_first-words.result
in_words c =
    let text = c.in_ok-line.line.text.now in
    titled_words text c.args.title.now (words_left c.after_first-words.result)
    (bytes_same (first_word text) c.args.title.now (sym c.begins.ensures ∙ c.if-not-begins.false))
    c.after_first-words.ensures

pub returns-then-not-begins-clause-read : goal.returns-then-not-begins-clause-read
returns-then-not-begins-clause-read c =
    let title = c.args.title.now in
    let limits = c.args.limits.now in
    let n = c.in_ok-line.line.number in
    rw c.bad_line.ensures (taken_err (read_numbers title limits) (past c.args.lines.now)
    (left c.args.lines.now) (printed c.in_ok-line.line) (left c.take.new.self) (Fault (BadLine n))
    c.in_ok-line.ensures.taken (untitled_numbers title limits n c.in_ok-line.line.text.now
    c.requires.word (sym c.begins.ensures ∙ c.if-not-begins.true)))

pub returns-in-Some-clause-read : goal.returns-in-Some-clause-read
returns-in-Some-clause-read c =
    let title = c.args.title.now in
    let limits = c.args.limits.now in
    let found =
    sym c.in_ok-found.ensures
    ∙ ap (λ (o : Option (Vec ℕ Global)). option_map (λ ns. ns.items) o) c.in-Some.is in
    taken_ok (read_numbers title limits) (past c.args.lines.now) (left c.args.lines.now)
    (printed c.in_ok-line.line) (left c.take.new.self) c.in-Some.numbers.items
    c.in_ok-line.ensures.taken (numbers_are title limits c.in_ok-line.line.number
    c.in_ok-line.line.text.now (words_left c.after_first-words.result) c.in-Some.numbers.items
    c.requires.word c.requires.short c.requires.plain
    (in_words (goal.at.returns-in-Some-clause-read c).After-after_first-words) found)

pub returns-in-None-clause-read : goal.returns-in-None-clause-read
returns-in-None-clause-read c =
    let title = c.args.title.now in
    let limits = c.args.limits.now in
    let n = c.in_ok-line.line.number in
    let none =
    sym c.in_ok-found.ensures
    ∙ ap (λ (o : Option (Vec ℕ Global)). option_map (λ ns. ns.items) o) c.in-None.is in
    rw c.bad_value.ensures (taken_err (read_numbers title limits) (past c.args.lines.now)
    (left c.args.lines.now) (printed c.in_ok-line.line) (left c.take.new.self)
    (Fault (BadValue n)) c.in_ok-line.ensures.taken
    (numbers_are_not title limits n c.in_ok-line.line.text.now
    (words_left c.after_first-words.result) c.requires.word c.requires.short c.requires.plain
    (in_words (goal.at.returns-in-None-clause-read c).After-after_first-words) none
    ∙ ap (λ b. Err (if b then BadValue n else BadLine n))
    (sym c.has_count.ensures ∙ c.if-has_count.true)))

pub returns-in-None-2-clause-read : goal.returns-in-None-2-clause-read
returns-in-None-2-clause-read c =
    let title = c.args.title.now in
    let limits = c.args.limits.now in
    let n = c.in_ok-line.line.number in
    let none =
    sym c.in_ok-found.ensures
    ∙ ap (λ (o : Option (Vec ℕ Global)). option_map (λ ns. ns.items) o) c.in-None-2.is in
    rw c.bad_line-in-None-2.ensures (taken_err (read_numbers title limits) (past c.args.lines.now)
    (left c.args.lines.now) (printed c.in_ok-line.line) (left c.take.new.self)
    (Fault (BadLine n)) c.in_ok-line.ensures.taken
    (numbers_are_not title limits n c.in_ok-line.line.text.now
    (words_left c.after_first-words.result) c.requires.word c.requires.short c.requires.plain
    (in_words (goal.at.returns-in-None-2-clause-read c).After-after_first-words) none
    ∙ ap (λ b. Err (if b then BadValue n else BadLine n))
    (sym c.has_count.ensures ∙ c.if-has_count.false)))

use Rattle.std.proofs.Common.{◌∙◌, ◌+◌, sym, Some}
use Rattle.bufr_listing_reader.proofs.CursorFacts.{first_with_end, first_without_end, none_left}
use Rattle.bufr_listing_reader.proofs.CursorFacts.{rest_whole}
use Rattle.bufr_listing_reader.proofs.line_ends.first_line.Goals as goal

pub returns-in-None : goal.returns-in-None
returns-in-None c =
    let h = rw c.in-None.is at c.memchr.ensures in
    (λ i. Some (c.args.text.now, none_left c.args.text.now i))
    ∙ sym (first_without_end c.args.text.now h (sym c.is_empty.ensures ∙ c.if-is_empty.false))

pub returns-in-Some : goal.returns-in-Some
returns-in-Some c =
    let h = rw c.in-Some.is at c.memchr.ensures in
    (λ i. Some (c.without_return.ensures i, rest_whole (c.in-Some.end + 1) c.args.text.now i))
    ∙ sym (first_with_end c.args.text.now c.in-Some.end h (sym c.is_empty.ensures
    ∙ c.if-is_empty.false))

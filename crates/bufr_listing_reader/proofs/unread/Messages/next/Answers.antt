use Rattle.std.proofs.Common.{◌∙◌, sym}
use Rattle.std.proofs.lemmas.Result.{err_from_is_err_and}
use Rattle.bufr_listing_reader.proofs.UnreadFacts.{no_line, a_line, none_left, none_handed, one_handed}
use Rattle.bufr_listing_reader.proofs.unread.Messages.next.Goals as goal

pub returns-then-is_none : goal.returns-then-is_none
returns-then-is_none c =
    let none = no_line _ _ _ c.peek.ensures c.is_none.ensures c.if-is_none.true in
    let is = sym c.self.view_is ∙ none_left _ _ _ none in (is, is)

pub returns-in_err-message : goal.returns-in_err-message
returns-in_err-message c =
    let p = err_from_is_err_and c.from_residual.result c.from_residual.ensures.1 in
    rw (p.1, p.2) (none_handed _ _ _ _ _ _ c.self.view_is c.in_err-message.ensures.same
    (a_line _ _ _ c.peek.ensures c.is_none.ensures c.if-is_none.false)
    c.in_err-message.ensures.read)

pub returns : goal.returns
returns c =
    one_handed _ _ _ _ _ _ _ _ c.self.view_is c.in_ok-message.ensures.same
    c.in_ok-message.ensures.past
    (a_line _ _ _ c.peek.ensures c.is_none.ensures c.if-is_none.false)
    c.in_ok-message.ensures.read

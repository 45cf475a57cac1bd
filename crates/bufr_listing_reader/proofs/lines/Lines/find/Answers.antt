use Rattle.std.proofs.Common.{◌∙◌, ◌+◌, sym, ap, length, arith}
use Rattle.bufr_listing_reader.specs.Cursors.{left, left_by, past, past_by}
use Rattle.bufr_listing_reader.proofs.CursorFacts.{after_first, no_first, skipped, counted, none_counted}
use Rattle.bufr_listing_reader.proofs.lines.Lines.find.Goals as goal

pub returns-then-not-is_comment-clause-lines : goal.returns-then-not-is_comment-clause-lines
unfolding left
returns-then-not-is_comment-clause-lines c =
    let h = rw c.in-Some.is at c.first_line.ensures in
    let b = after_first c.loop-line.self.rest.now c.in-Some.line.now c.in-Some.rest.now (sym h) in
    sym (counted
    (c.loop-line.self.found + 1) c.loop-line.self.rest.now c.in-Some.line.now c.in-Some.rest.now
    b.lines (sym c.is_comment.ensures ∙ c.if-not-is_comment.true))
    ∙ c.loop-line.invariant.counted

pub returns-then-not-is_comment-clause-past : goal.returns-then-not-is_comment-clause-past
unfolding past
returns-then-not-is_comment-clause-past c =
    let h = rw c.in-Some.is at c.first_line.ensures in
    let b = after_first c.loop-line.self.rest.now c.in-Some.line.now c.in-Some.rest.now (sym h) in
    let len = ap length b.lines in
    omega (arith, len, c.loop-line.invariant.last)

pub loop-line-preserved : goal.loop-line-preserved
loop-line-preserved c =
    let h = rw c.in-Some.is at c.first_line.ensures in
    let b = after_first c.loop-line.self.rest.now c.in-Some.line.now c.in-Some.rest.now (sym h) in
    let len = ap length b.lines in
    record {
      next = c.loop-line.invariant.next;
      counted =
          sym (skipped
          (c.loop-line.self.found + 1) c.loop-line.self.rest.now c.in-Some.line.now
          c.in-Some.rest.now b.lines (sym c.is_comment.ensures ∙ c.if-not-is_comment.false))
          ∙ c.loop-line.invariant.counted;
      last = omega (arith, len, c.loop-line.invariant.last);
    }

pub returns-clause-lines : goal.returns-clause-lines
unfolding left
returns-clause-lines c =
    let h = rw c.in_default.is at c.first_line.ensures in
    ap (λ o. left_by o c.loop-line.self.found c.loop-line.self.rest.now) c.loop-line.invariant.next
    ∙ sym (none_counted (c.loop-line.self.found + 1) c.loop-line.self.rest.now
    (no_first c.loop-line.self.rest.now (sym h)))
    ∙ c.loop-line.invariant.counted

pub returns-clause-past : goal.returns-clause-past
unfolding past
returns-clause-past c =
    let h = rw c.in_default.is at c.first_line.ensures in
    let len = ap length (no_first c.loop-line.self.rest.now (sym h)) in
    ap (λ o. past_by o c.loop-line.self.found c.loop-line.self.rest.now) c.loop-line.invariant.next
    ∙ omega (arith, len, c.loop-line.invariant.last)

-- A page taken whole comes before all other entries.
use Rattle.std.proofs.Common.{◌∙◌, ◌++◌, ap, reverse, subst}
use Rattle.std.proofs.lemmas.List.{append-nil}
use Rattle.bufr_entries.specs.Pages.{flat, EndsBefore}
use Rattle.bufr_entries.proofs.PageLemmas.{flat-push, step-page, sorted-behind}
use Rattle.bufr_entries.proofs.settling.settle_page.Goals as goal

pub returns-in-Some-clause-sorted : goal.returns-in-Some-clause-sorted
returns-in-Some-clause-sorted c =
    sorted-behind c.in-Some.page c.args.left.now c.take_page.new.self
    (c.in-Some.ensures.all ∙ ap (λ es. es ++ c.take_page.new.self) (append-nil c.in-Some.page))
    c.requires.sorted

pub returns-in-Some-clause-all : goal.returns-in-Some-clause-all
returns-in-Some-clause-all c =
    let page = c.in-Some.page in let made = c.args.settled.now.items in
    step-page (flat made) (flat c.push_reserved.new.self.items) page c.args.left.now
    c.take_page.new.self (reverse c.args.waiting.now)
    (ap flat c.push_reserved.ensures.items ∙ flat-push c.reserve.new.self.items page
    ∙ ap (λ ps. flat ps ++ page) c.reserve.ensures.items)
    (c.in-Some.ensures.all ∙ ap (λ es. es ++ c.take_page.new.self) (append-nil page))
    c.requires.sorted c.requires.rising
    (subst (EndsBefore page) c.last.ensures.last c.in-Some.ensures.before)

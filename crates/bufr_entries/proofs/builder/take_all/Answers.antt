-- After settling nothing waits.
use Rattle.std.proofs.Common.{◌∙◌, ◌++◌, sym, ap}
use Rattle.std.proofs.lemmas.List.{append-nil}
use Rattle.bufr_entries.specs.Pages.{flat}
use Rattle.bufr_entries.proofs.PageLemmas.{all-settled}
use Rattle.bufr_entries.proofs.builder.take_all.Goals as goal

pub returns : goal.returns
returns c =
    let pages = flat c.settle.new.settled.items in
    let done = c.in_ok-settle.ensures.done in
    sym (ap (λ ps. flat ps ++ c.take_back.new.self) c.in_ok-take_back.ensures.done)
    ∙ c.take_back.ensures.all ∙ ap (λ es. pages ++ es) done.0 ∙ append-nil pages
    ∙ all-settled pages c.settle.new.left c.settle.new.waiting _ c.settle.ensures.sorted done.0
    done.1 c.settle.ensures.all

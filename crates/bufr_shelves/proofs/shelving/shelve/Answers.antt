-- What is kept does not depend on the order of entries.
use Rattle.std.proofs.Common.{◌∙◌, ◌++◌, ◌∷◌, [], ap, sym}
use Rattle.std.proofs.lemmas.List.{map-id}
use Rattle.std.proofs.lemmas.Iterator.Adapters.{YieldsList-from_vec}
use Rattle.std.proofs.lemmas.Iterator.Consumers.{YieldsList-end}
use Rattle.bufr_entries.specs.Entries.{kept}
use Rattle.bufr_entries.specs.Orders.{kept-early, kept-same}
use Rattle.bufr_shelves.proofs.shelving.shelve.Goals as goal

pub loop-key-preserved : goal.loop-key-preserved
loop-key-preserved g c =
    c.in_ok-put.ensures.ok
    ∙ ap (λ es. kept (es ++ c.in-Some.field-0 ∷ [])) c.loop-key.invariant
    ∙ kept-early c.loop-key.yielded (c.in-Some.field-0 ∷ [])

pub returns-clause-agrees : goal.returns-clause-agrees
returns-clause-agrees g c others same =
    let gives = c.into_iter-key-iterator.ensures.into_iter_gives in
    let end = YieldsList-end (YieldsList-from_vec c.args.entries.items gives.0
    (gives.1 ∙ c.args.entries.ok.0)) c.loop-key.yielded c.loop-key.key-iterator
    c.loop-key.yielded_by c.next.result c.next.new.self c.in-None.is c.next.ensures.steps in
    c.loop-key.invariant ∙ ap kept (sym (map-id c.loop-key.yielded) ∙ end.0)
    ∙ kept-same c.args.entries.items others same

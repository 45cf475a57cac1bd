-- The clause `ok` of `push_listed`: the octets of section 3 have the descriptors.
use Rattle.std.proofs.Common.{[], ◌∷◌, ◌++◌, ◌∙◌, ap}
use Rattle.std.specs.List.{join_by}
use Rattle.std.proofs.lemmas.Result.{on_ok_weaker}
use Rattle.bufr_tables.specs.Descriptors.{six_digits}
use Rattle.bufr_sections.specs.Sections.{Envelope}
use Rattle.bufr_ls_engine.proofs.row.push_listed.Goals as goal

pub returns-clause-ok : goal.returns-clause-ok
returns-clause-ok c =
    on_ok_weaker c.push_descriptors.result
    (λ is. is ∙ ap (λ (e : Envelope). c.args.text.now.items ++ join_by six_digits (32 ∷ []) e.descriptors)
    c.said.view_is)
    c.push_descriptors.ensures.ok

use Rattle.std.proofs.Common.{◌∙◌, ap, sym}
use Rattle.bufr_tables.specs.declared.tables.Tables.TheInside.{Inside}
use Rattle.bufr_tables.specs.Entries.{Entries, at}
use Rattle.bufr_tables.specs.EntryLaws.{at-lookup}
use Rattle.bufr_tables.proofs.tables.Tables.element.Goals as goal

pub returns-clause-value : goal.returns-clause-value
returns-clause-value c =
    c.get.ensures.value ∙ sym (at-lookup c.args.fxy c.self-inside.inside.0.0.rows.entries)
    ∙ ap (λ (t : Inside). at c.args.fxy t.elements) c.self-inside.view_is
    ∙ ap (λ (t : Entries). at c.args.fxy t.elements) c.self.view_is

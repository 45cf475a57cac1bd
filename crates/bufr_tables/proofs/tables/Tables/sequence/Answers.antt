use Rattle.std.proofs.Common.{◌∙◌, ap, sym, Some}
use Rattle.bufr_tables.specs.declared.tables.Tables.TheInside.{Inside}
use Rattle.bufr_tables.specs.Entries.{Entries, at}
use Rattle.bufr_tables.specs.EntryLaws.{at-lookup}
use Rattle.bufr_tables.proofs.tables.Tables.sequence.Goals as goal

pub returns-in-Some-clause-value : goal.returns-in-Some-clause-value
returns-in-Some-clause-value c =
    ap Some c.as_slice.ensures ∙ c.in-Some.ensures.value
    ∙ sym (at-lookup c.args.fxy c.self-inside.inside.0.1.0.rows.entries)
    ∙ ap (λ (t : Inside). at c.args.fxy t.sequences) c.self-inside.view_is
    ∙ ap (λ (t : Entries). at c.args.fxy t.sequences) c.self.view_is

pub returns-in-None-clause-value : goal.returns-in-None-clause-value
returns-in-None-clause-value c =
    c.in-None.ensures.value
    ∙ sym (at-lookup c.args.fxy c.self-inside.inside.0.1.0.rows.entries)
    ∙ ap (λ (t : Inside). at c.args.fxy t.sequences) c.self-inside.view_is
    ∙ ap (λ (t : Entries). at c.args.fxy t.sequences) c.self.view_is

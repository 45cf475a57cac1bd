use Rattle.std.proofs.Common.{◌∙◌, sym, ap, Ok, Result, Some, List, ℕ, ◌++◌, ◌∷◌, []}
use Rattle.std.specs.Prelude.{is_some}
use Rattle.bufr_tables.specs.Rows.{Sequences}
use Rattle.bufr_tables.specs.declared.table_faults.TableFault.{TableFault}
use Rattle.bufr_tables.specs.EntryLaws.{at-lookup}
use Rattle.bufr_tables.proofs.RowFacts.{begins-again, begins-new}
use Rattle.bufr_tables.proofs.sequence_rows.SequenceRows.begin.Goals as goal

pub returns-then-contains_key : goal.returns-then-contains_key
returns-then-contains_key c =
    rw (← c.self.view_is)
    (begins-again c.self.inside.ended.entries c.args.sequence c.args.member
    (ap is_some (at-lookup c.args.sequence c.self.inside.ended.entries)
    ∙ sym c.contains_key.ensures ∙ c.if-contains_key.true))

pub returns : goal.returns
returns c =
    let items =
    c.in_ok-push.ensures.items
    ∙ ap (λ (t : List ℕ). t ++ c.args.member ∷ []) c.new-members.ensures.items in
    rw (← c.self.view_is)
    (begins-new c.self.inside.ended.entries c.args.sequence c.args.member
    (ap is_some (at-lookup c.args.sequence c.self.inside.ended.entries)
    ∙ sym c.contains_key.ensures ∙ c.if-contains_key.false)
    ∙ ap {B = Result Sequences TableFault}
    (λ (t : List ℕ). Ok
    (record { ended = c.self.inside.ended.entries; open_one = Some (c.args.sequence, t) }))
    (sym items))

-- The table has an equal element, a different one or none at the descriptor.
use Rattle.std.proofs.Common.{◌∙◌, sym, ap, Ok, Result, List, ℕ}
use Rattle.bufr_tables.specs.declared.element.Element.{Element}
use Rattle.bufr_tables.specs.declared.table_faults.TableFault.{TableFault}
use Rattle.bufr_tables.specs.EntryLaws.{at-lookup}
use Rattle.bufr_tables.proofs.TableFacts.{with_element-same, with_element-other, with_element-new}
use Rattle.bufr_tables.specs.EntryLaws.{Rising-insert}
use Rattle.bufr_tables.proofs.TableFacts.{NoCounts-insert}
use Rattle.bufr_tables.proofs.table_b.TableB.add.Goals as goal

pub returns-then-eq-clause-exact : goal.returns-then-eq-clause-exact
returns-then-eq-clause-exact c =
    rw (← c.self.view_is)
    (with_element-same c.self.inside.rows.entries c.args.fxy c.args.element c.in-Some.old.now
    (at-lookup c.args.fxy c.self.inside.rows.entries ∙ sym c.in-Some.ensures.value)
    (sym c.if-eq.ensures))

pub returns-in-Some-clause-exact : goal.returns-in-Some-clause-exact
returns-in-Some-clause-exact c =
    rw (← c.self.view_is)
    (with_element-other c.self.inside.rows.entries c.args.fxy c.args.element c.in-Some.old.now
    (at-lookup c.args.fxy c.self.inside.rows.entries ∙ sym c.in-Some.ensures.value)
    (sym c.if-eq.ensures))

pub invariant_of-self-2 : goal.invariant_of-self-2
invariant_of-self-2 c =
    rw c.in_ok-insert.ensures.entries (
      Rising-insert c.args.fxy c.args.element c.self.inside.rows.entries c.self.invariant.0,
      NoCounts-insert c.args.fxy c.args.element c.self.inside.rows.entries c.requires
          c.self.invariant.1,
    )

pub returns-clause-exact : goal.returns-clause-exact
returns-clause-exact c =
    rw (← c.self.view_is)
    (with_element-new c.self.inside.rows.entries c.args.fxy c.args.element
    (at-lookup c.args.fxy c.self.inside.rows.entries ∙ sym c.in_default.ensures.value)
    ∙ ap {B = Result (List (ℕ × Element)) TableFault} (λ (t : List (ℕ × Element)). Ok t)
    (sym c.in_ok-insert.ensures.entries))

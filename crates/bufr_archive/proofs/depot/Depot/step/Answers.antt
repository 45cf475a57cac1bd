-- By the functions of the three joins.
use Rattle.std.proofs.Common.{inl, inr}
use Rattle.bufr_archive.proofs.depot.Depot.step.Goals as goal

pub returns-in-Merge-clause-tables : goal.returns-in-Merge-clause-tables
returns-in-Merge-clause-tables g c = (c.merge.ensures c.args.step.now (inl c.in-Merge.is)).tables

pub returns-in-Merge-clause-answer : goal.returns-in-Merge-clause-answer
returns-in-Merge-clause-answer g c = (c.merge.ensures c.args.step.now (inl c.in-Merge.is)).answer

pub returns-in-Merge-clause-slots : goal.returns-in-Merge-clause-slots
returns-in-Merge-clause-slots g c = (c.merge.ensures c.args.step.now (inl c.in-Merge.is)).slots

pub returns-in-Transfer-clause-tables : goal.returns-in-Transfer-clause-tables
returns-in-Transfer-clause-tables g c =
    (c.transfer.ensures c.args.step.now (inr (inl c.in-Transfer.is))).tables

pub returns-in-Transfer-clause-answer : goal.returns-in-Transfer-clause-answer
returns-in-Transfer-clause-answer g c =
    (c.transfer.ensures c.args.step.now (inr (inl c.in-Transfer.is))).answer

pub returns-in-Transfer-clause-slots : goal.returns-in-Transfer-clause-slots
returns-in-Transfer-clause-slots g c =
    (c.transfer.ensures c.args.step.now (inr (inl c.in-Transfer.is))).slots

pub returns-in-Copy-clause-tables : goal.returns-in-Copy-clause-tables
returns-in-Copy-clause-tables g c = (c.copy.ensures c.args.step.now (inr (inr c.in-Copy.is))).tables

pub returns-in-Copy-clause-answer : goal.returns-in-Copy-clause-answer
returns-in-Copy-clause-answer g c = (c.copy.ensures c.args.step.now (inr (inr c.in-Copy.is))).answer

pub returns-in-Copy-clause-slots : goal.returns-in-Copy-clause-slots
returns-in-Copy-clause-slots g c = (c.copy.ensures c.args.step.now (inr (inr c.in-Copy.is))).slots

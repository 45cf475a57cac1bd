use Rattle.std.proofs.Common.{◌∙◌, ap}
use Rattle.csv.specs.Records.{fields_of}
use Rattle.bufr_tables.proofs.ColumnFacts.{header-none, header-some}
use Rattle.bufr_tables.proofs.columns.header.Goals as goal
use Rattle.bufr_tables.proofs.columns.header.Goals.{then-not-branch, else-not-branch}

pub returns : goal.returns
returns c =
    elim c.if-not-branch.branch [
      | then-not-branch w ↦
          header-none c.in_ok-next.field-0 c.args.records.now c.next.new.self
          (fields_of c.next.new.row) _ w.if-not-branch.true c.in_ok-next.ensures
          (ap fields_of w.row-is ∙ w.clear.ensures.fields)
      | else-not-branch w ↦
          header-some c.in_ok-next.field-0 c.args.records.now c.next.new.self
          (fields_of c.next.new.row) _ w.if-not-branch.false c.in_ok-next.ensures
          (ap fields_of w.row-is)
    ]

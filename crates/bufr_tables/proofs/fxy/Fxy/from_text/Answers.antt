-- Only six digits can be a descriptor.
use Rattle.std.proofs.Common.{◌∙◌, sym}
use Rattle.bufr_tables.specs.DescriptorLaws.{of_text-length, of_text-other, six_by_place}
use Rattle.bufr_tables.proofs.fxy.Fxy.from_text.Goals as goal
use Rattle.bufr_tables.proofs.fxy.Fxy.from_text.Goals.{then-text-ne6-via-then-text-ne6}
use Rattle.bufr_tables.proofs.fxy.Fxy.from_text.Goals.{then-text-ne6-via-else-text-ne6+then-not-are_digits}

pub returns-then-text-ne6 : goal.returns-then-text-ne6
returns-then-text-ne6 c =
    elim c.then-text-ne6.branch [
      | then-text-ne6-via-then-text-ne6 w ↦ sym (of_text-length c.args.text.now w.if-text-ne6.true)
      | then-text-ne6-via-else-text-ne6+then-not-are_digits w ↦
          sym (of_text-other c.args.text.now (sym w.are_digits.ensures ∙ w.if-not-are_digits.true))
    ]

pub returns : goal.returns
returns c = rw (six_by_place c.args.text.now c.if-text-ne6.false) c.from_digits.ensures

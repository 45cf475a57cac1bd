use Rattle.std.proofs.Common.{◌∙◌, sym}
use Rattle.bufr_tables.proofs.FieldFacts.{strip_bom-mark, strip_bom-none}
use Rattle.bufr_tables.proofs.fields.without_mark.Goals as goal

pub returns-in-Some : goal.returns-in-Some
returns-in-Some c =
    c.in-Some.ensures.cases.1 ∙ sym (strip_bom-mark c.args.text.now c.in-Some.ensures.cases.0)

pub returns-in-None : goal.returns-in-None
returns-in-None c = sym (strip_bom-none c.args.text.now c.in-None.ensures.cases)

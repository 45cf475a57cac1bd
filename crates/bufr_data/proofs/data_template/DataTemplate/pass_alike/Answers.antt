use Rattle.std.proofs.Common.{arith}
use Rattle.bufr_bits.specs.Ends.{left}
use Rattle.bufr_data.proofs.PlainFacts.Even.{all_passed}
use Rattle.bufr_data.proofs.data_template.DataTemplate.pass_alike.Goals as goal

pub returns-clause-passed : goal.returns-clause-passed
returns-clause-passed c =
    let r = c.args.reader.now in
    let law = c.courses_are_unrollings.ensures in
    let passed = c.pass_all.ensures in
    rw (c.if-compressed.false, ← c.self.view_is)
    (all_passed r.octets c.self.inside.template c.in-Some.each r.place c.args.count
    c.pass_all.result (left c.pass_all.new.reader) law.unrolled law.allowed
    (rw c.in-Some.is at c.in_ok-each.ensures.found) (omega (arith, c.left-left.ensures.rest))
    passed.few passed.enough passed.rest)

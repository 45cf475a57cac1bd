use Rattle.std.proofs.Common.{sym, subst}
use Rattle.std.specs.Prelude.{IsOk}
use Rattle.bufr_bits.specs.Ends.{left}
use Rattle.bufr_data.specs.Handed.{moved_on}
use Rattle.bufr_data.specs.Plain.{raw_at}
use Rattle.bufr_data.specs.Plain.Reads.{raw_or_ends}
use Rattle.bufr_data.proofs.PlainFacts.Layouts.{left_moved}
use Rattle.bufr_data.proofs.PlainFacts.Passed.{number_has_bits}
use Rattle.bufr_data.proofs.plain.laid_reader.LaidReader.short_after.Goals as goal

pub take_short-number-requires-clause-enough : goal.take_short-number-requires-clause-enough
take_short-number-requires-clause-enough c =
    let there =
    subst (λ bs. IsOk (raw_or_ends 1 1 (raw_at c.args.spec bs)))
    (sym (left_moved c.args.self.now c.args.gap)) c.requires.there in
    rw (c.here.ensures, c.move_on.ensures)
    (number_has_bits c.args.spec (left (moved_on c.args.self.now c.args.gap)) c.requires.other
    there).enough

pub move_on-requires-2 : goal.move_on-requires-2
move_on-requires-2 c =
    let there =
    subst (λ bs. IsOk (raw_or_ends 1 1 (raw_at c.args.spec bs)))
    (sym (left_moved c.args.self.now c.args.gap)) c.requires.there in
    rw (c.from.ensures, c.move_on.ensures)
    (number_has_bits c.args.spec (left (moved_on c.args.self.now c.args.gap)) c.requires.other
    there).enough

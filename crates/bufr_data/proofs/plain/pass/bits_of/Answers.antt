use Rattle.std.proofs.Common.{refl}
use Rattle.bufr_data.proofs.PlainFacts.Alike.{text_takes, number_takes}
use Rattle.bufr_data.proofs.plain.pass.bits_of.Goals as goal

pub returns-in-Text-clause-takes : goal.returns-in-Text-clause-takes
returns-in-Text-clause-takes c =
    text_takes c.args.spec _ c.from.result c.in-Text.is refl c.from.ensures

pub returns-in_default-2 : goal.returns-in_default-2
returns-in_default-2 c = record {
  takes =
      number_takes c.args.spec _ c.in_default.not-Text c.if-spec-gt-MOST_RAW_BITS.false
      c.from-in_default-2.ensures;
  never = tt;
}

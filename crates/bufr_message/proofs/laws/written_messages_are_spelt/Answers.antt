use Rattle.bufr_message.proofs.WrittenFacts.{bare_when_written, read_when_written}
use Rattle.bufr_message.proofs.UnwrittenFacts.{plain_is_written, packable_is_written}
use Rattle.bufr_message.proofs.UnwrittenFacts.{bare_is_written}
use Rattle.bufr_message.proofs.laws.written_messages_are_spelt.Goals as goal

pub returns : goal.returns
returns c =
    let below = c.laws_below.ensures in
    record {
      bare = bare_when_written below;
      only = bare_is_written below;
      read = read_when_written below;
      plain = plain_is_written below;
      packable = packable_is_written below;
    }

-- By the laws of reports as entries, and of what shelves kept.
use Rattle.bufr_gather.proofs.BeforeFacts.{texts_from_before, from_before_are_texts}
use Rattle.bufr_gather.proofs.BeforeFacts.{kept_before_is_the_best}
use Rattle.bufr_gather.proofs.laws.texts_from_before.Goals as goal

pub returns : goal.returns
returns c =
    let written = c.written_messages_are_spelt.ensures.only in
    let entries = c.reports_are_entries.ensures in
    let shelved = c.sorted_are_kept.ensures in
    record {
      kept = texts_from_before written entries shelved.from_before shelved.before;
      texts = from_before_are_texts written entries shelved.from_before shelved.before;
      best = kept_before_is_the_best written entries shelved.before;
    }

-- Frame by frame.
use Rattle.bufr_gather.proofs.ToldFacts.{told_are_told, only_told_are_told}
use Rattle.bufr_gather.proofs.laws.told_are_of_messages.Goals as goal

pub returns : goal.returns
returns c = record {
  are = told_are_told c.cut_is_taken_from_the_left.ensures.is c.messages_are_spelt.ensures.read;
  only = only_told_are_told c.messages_are_spelt.ensures.spelt;
}

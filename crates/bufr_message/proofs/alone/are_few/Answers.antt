-- The bits of each subset are among those of all.
use Rattle.std.proofs.lemmas.Bool.{leb-true}
use Rattle.bufr_message.proofs.ViewFacts.{few_octets}
use Rattle.bufr_message.proofs.alone.are_few.Goals as goal

pub returns : goal.returns
returns c compressed subsets read few =
    few_octets c.data_hold_subsets.ensures.read c.args.contents.now compressed
    c.args.descriptors.now subsets read (leb-true _ _ few)

-- The total length ends the first entry, and the others follow it.
use Rattle.std.proofs.Common.{refl}
use Rattle.bufr_gather.proofs.TextMergeFacts.{nothing_left, front_left}
use Rattle.bufr_gather.proofs.merging_texts.Unmerged.of_text.Goals as goal

pub returns-in_default : goal.returns-in_default
returns-in_default c =
    λ tables es a are is.
    nothing_left tables c.args.marks.now c.args.octets.now es _ a are is c.in_default.ensures.cases
    refl refl refl

pub returns : goal.returns
returns c =
    λ tables es a are is.
    front_left c.reports_are_entries.ensures tables c.args.marks.now c.in-Some.others.now
    c.args.octets.now c.split_first-2.result.0.now es _ _ a are is c.in-Some.ensures.cases.0
    c.split_first-2.ensures.first refl refl refl c.split_first-2.ensures.behind

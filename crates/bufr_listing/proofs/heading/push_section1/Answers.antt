use Rattle.std.proofs.Common.{◌∙◌, ◌++◌, ap}
use Rattle.std.proofs.lemmas.Result.{on_ok_weaker}
use Rattle.bufr_listing.specs.Listings.{line, time_line}
use Rattle.bufr_listing.proofs.heading.push_section1.Goals as goal

pub returns : goal.returns
returns c =
    let numbers = rw c.section1_numbers.ensures at c.in_ok-push_numbers.ensures in
    let time = rw c.time_numbers.ensures at c.push_numbers-2.ensures in
    on_ok_weaker c.push_numbers-2.result
    (λ h. h ∙ ap (λ t. t ++ line (time_line c.args.head.now)) numbers) time

-- Number by number, from the last to the first, the row gets the line of the frame.
use Rattle.std.proofs.Common.{◌-◌, [], ◌∷◌, ◌++◌, ◌∙◌, ap, length, set, decimal}
use Rattle.std.proofs.Common.{length-set, arith}
use Rattle.std.proofs.lemmas.Fmt.{length-decimal-le}
use Rattle.bufr_engines.proofs.TextFacts.{checked_joined, ok_before, row_added}
use Rattle.bufr_engines.proofs.frame_lines.hold_checked.Goals as goal

pub write_digits-first-requires : goal.write_digits-first-requires
write_digits-first-requires c =
    let short = length-decimal-le 20 c.args.place (omega arith) (omega (arith, c.ranges.place.fits))
    (omega (arith, c.ranges.place.fits)) in
    let slack = c.put_spaced-slack.ensures in
    let subsets = c.put_spaced-subsets.ensures in
    let long = c.put_spaced-length.ensures in
    let row = c.put_spaced-subsets.new.row in
    let at = c.put_spaced-subsets.result in
    let k = length-set row (at - 1) 107 in
    let o = length-set (set row (at - 1) 107) (at - 2) 111 in
    let space = length-set (set (set row (at - 1) 107) (at - 2) 111) (at - 3) 32 in (
      omega (arith, short, slack.near, subsets.near, long.near),
      omega (arith, long.before, long.long, subsets.before, subsets.long, slack.long, slack.before, k, o, space),
    )

pub returns-clause-ok : goal.returns-clause-ok
returns-clause-ok c =
    let slack = c.put_spaced-slack.ensures in
    let subsets = c.put_spaced-subsets.ensures in
    let at = c.put_spaced-subsets.result in
    let two = subsets.put ∙ ap (λ zs. 32 ∷ decimal c.args.said.now.subsets ++ zs) slack.put in
    let ok = ok_before c.put_spaced-subsets.new.row _ at (omega (arith, slack.near, subsets.near))
    (omega (arith, subsets.before, subsets.long, slack.long, slack.before)) two in
    let three = c.put_spaced-length.ensures.put
    ∙ ap (λ zs. 32 ∷ decimal (length c.args.octets.now) ++ zs) ok in
    let four = c.write_digits-first.ensures.written ∙ ap (λ zs. decimal c.args.place ++ zs) three in
    let row = c.put_spaced-subsets.new.row in
    let k = length-set row (at - 1) 107 in
    let o = length-set (set row (at - 1) 107) (at - 2) 111 in
    let space = length-set (set (set row (at - 1) 107) (at - 2) 111) (at - 3) 32 in
    row_added c.extend_from_slice.result _ _ c.write_digits-first.new.buf _ _
    c.write_digits-first.result _
    (omega (
      arith,
      c.write_digits-first.auto.buf,
      c.put_spaced-length.ensures.long,
      subsets.long,
      slack.long,
      k,
      o,
      space,
    ))
    c.extend_from_slice.ensures.items four
    (checked_joined c.args.text.now.items (decimal c.args.place) (decimal (length c.args.octets.now))
    (decimal c.args.said.now.subsets) (decimal c.args.said.now.slack_octets) (10 ∷ []))

-- Each round passes octets that begin no frame, or takes in more.
use Rattle.std.proofs.Common.{◌≡◌, ◌≤◌, false, length, drop, sym, ap, ◌∙◌, subst}
use Rattle.std.proofs.lemmas.List.{take_rest}
use Rattle.bufr_frame.specs.declared.places.Start.TheVariants.{Other}
use Rattle.bufr_frame.specs.Starts.{agrees, bufr, start_of}
use Rattle.bufr_frame.specs.Reaches.{KeepsMore, KeepsPart}
use Rattle.bufr_frame.proofs.ReachLaws.{reaching_other, reaching_more, less_to_do}
use Rattle.bufr_frame.proofs.reaching.reach.Goals.{In-Octets}
use Rattle.bufr_frame.proofs.reaching.reach.Goals as goal

pub loop-length-preserved-in-Other : goal.loop-length-preserved-in-Other
loop-length-preserved-in-Other c =
    let kept = c.loop-length.octets.items in
    let start = c.loop-length.start in
    let here : start_of (drop start kept) ≡ Other =
    ap start_of (sym (take_rest c.deref.result.now start ∙ ap (drop start) c.deref.ensures.value))
    ∙ sym c.in-Other.ensures.start in
    let next = c.next_mark-start.ensures in
    let same = c.deref-in-Other.ensures.value in
    reaching_other _ _ kept c.args.piece.now start c.loop-length.taken c.next_mark-start.result
    c.loop-length.invariant here next.after
    (subst (λ t. c.next_mark-start.result ≤ length t) same next.within)
    (λ k a b. subst (λ t. agrees (drop k t) bufr ≡ false) same (next.others k a b))

takes : (c : In-Octets)
    → KeepsPart (drop c.loop-length.start c.loop-length.octets.items) c.loop-length.octets.items
    c.keep_more.new.octets.items (drop c.loop-length.taken c.args.piece.now) c.in-Octets.more
takes c =
    let held = drop c.loop-length.start c.loop-length.octets.items in
    let kept = c.loop-length.octets.items in
    let after = c.keep_more.new.octets.items in
    let more : KeepsMore held kept after
    (drop c.loop-length.taken c.args.piece.now) c.in_ok-skip-in-Open.field-0 =
    subst (λ r. KeepsMore held kept after r c.in_ok-skip-in-Open.field-0)
    (take_rest c.args.piece.now c.loop-length.taken) c.in_ok-skip-in-Open.ensures.more in
    subst (KeepsMore held kept after (drop c.loop-length.taken c.args.piece.now)) c.in-Octets.is
    more

pub loop-length-smaller : goal.loop-length-smaller
loop-length-smaller c =
    less_to_do c.loop-length.octets.items c.keep_more.new.octets.items c.args.piece.now
    c.loop-length.start c.loop-length.taken c.in-Octets.more c.loop-length.invariant.within
    c.loop-length.invariant.taken_in (takes (goal.at.loop-length-smaller c).In-Octets)

pub loop-length-preserved : goal.loop-length-preserved
loop-length-preserved c =
    reaching_more _ _ c.loop-length.octets.items c.keep_more.new.octets.items c.args.piece.now
    c.loop-length.start c.loop-length.taken c.in-Octets.more c.loop-length.invariant
    (takes (goal.at.loop-length-preserved c).In-Octets)

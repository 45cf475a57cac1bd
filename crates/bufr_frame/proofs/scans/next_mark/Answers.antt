-- The search finds the first whole mark; else only the last three octets can begin one.
use Rattle.std.proofs.Common.{Some, None, ◌-◌, ◌≡◌, length, drop, take, subst, ap, ◌∙◌, arith}
use Rattle.std.proofs.lemmas.List.{take_rest, length-drop}
use Rattle.memchr.specs.Find.{FindsNeedle}
use Rattle.bufr_frame.proofs.MarkLaws.{found_others, none_others, found_mark}
use Rattle.bufr_frame.proofs.scans.next_mark.Goals as goal

pub returns-in-Some-clause-others : goal.returns-in-Some-clause-others
returns-in-Some-clause-others c =
    let octets = c.args.octets.now in
    let found =
    subst (λ t. FindsNeedle t c.args.finder.now 0 (Some c.in-Some.further))
    (take_rest octets c.args.from) c.in-Some.ensures in
    found_others octets c.args.finder.now c.args.from c.in-Some.further c.requires.mark
    c.requires.within found

pub returns-in-Some-clause-mark : goal.returns-in-Some-clause-mark
returns-in-Some-clause-mark c = λ _.
    let octets = c.args.octets.now in
    let found =
    subst (λ t. FindsNeedle t c.args.finder.now 0 (Some c.in-Some.further))
    (take_rest octets c.args.from) c.in-Some.ensures in
    found_mark octets c.args.finder.now c.args.from c.in-Some.further c.requires.mark found

pub loop-place-init : goal.loop-place-init
loop-place-init c = λ k low high.
    let octets = c.args.octets.now in
    let from = c.args.from in
    let within = c.requires.within in
    let found =
    subst (λ t. FindsNeedle t c.args.finder.now 0 None)
    (take_rest octets from) c.in_default.ensures in
    let size : length (take (length octets - from) (drop from octets)) ≡ length octets - from =
    ap length (take_rest octets from) ∙ length-drop from octets in
    let tail = c.min.ensures in
    none_others octets c.args.finder.now from c.requires.mark within found k low (omega arith)

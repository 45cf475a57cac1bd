-- Of two heads of one slot the lesser is not kept.
use Rattle.std.proofs.Common.{◌≡◌, ◌∙◌, ◌++◌, Some, reverse, true, false, sym, ap, subst}
use Rattle.std.specs.Option.{option_map}
use Rattle.std.specs.Ordering.{is_gt}
use Rattle.std.specs.List.Sorted.{IsStrictlySortedBy}
use Rattle.bufr_entries.specs.Entries.{slot_cmp, rank_cmp, kept}
use Rattle.bufr_entries.specs.Keeping.{first_of}
use Rattle.bufr_entries.specs.Pages.{seen, AreRising}
use Rattle.bufr_entries.proofs.PageLemmas.{rising-rest, sorted-rest, drop-left, drop-last}
use Rattle.bufr_entries.proofs.settling.drop_lesser.Goals as goal

pub returns-then-is_gt-clause-sorted : goal.returns-then-is_gt-clause-sorted
returns-then-is_gt-clause-sorted c =
    subst (IsStrictlySortedBy slot_cmp) (sym c.drop_first.ensures)
    (sorted-rest c.args.left.now c.requires.sorted)

pub returns-then-is_gt-clause-kept : goal.returns-then-is_gt-clause-kept
returns-then-is_gt-clause-kept c =
    let rs = reverse c.args.waiting.now in
    let first : first_of c.args.left.now ≡ Some (seen c.in-Some-Some.first) =
    sym c.first.ensures ∙ ap (option_map seen) c.in-Some-Some.is-0 in
    let last : first_of rs ≡ Some (seen c.in-Some-Some.last) =
    sym c.last.ensures.last ∙ ap (option_map seen) c.in-Some-Some.is-1 in
    let greater : is_gt (rank_cmp (seen c.in-Some-Some.last) (seen c.in-Some-Some.first)) ≡ true =
    ap is_gt (sym c.rank_cmp.ensures) ∙ sym c.is_gt.ensures ∙ c.if-is_gt.true in
    ap (λ es. kept (es ++ rs)) c.drop_first.ensures
    ∙ drop-left c.args.left.now rs _ _ first last c.requires.tied greater

pub returns-else-is_gt-clause-kept : goal.returns-else-is_gt-clause-kept
returns-else-is_gt-clause-kept c =
    let rs = reverse c.args.waiting.now in
    let first : first_of c.args.left.now ≡ Some (seen c.in-Some-Some.first) =
    sym c.first.ensures ∙ ap (option_map seen) c.in-Some-Some.is-0 in
    let last : first_of rs ≡ Some (seen c.in-Some-Some.last) =
    sym c.last.ensures.last ∙ ap (option_map seen) c.in-Some-Some.is-1 in
    let greater : is_gt (rank_cmp (seen c.in-Some-Some.last) (seen c.in-Some-Some.first)) ≡ false =
    ap is_gt (sym c.rank_cmp.ensures) ∙ sym c.is_gt.ensures ∙ c.if-is_gt.false in
    ap (λ es. kept (c.args.left.now ++ es)) c.take_last-mark.ensures.rest
    ∙ drop-last c.args.left.now rs _ _ first last c.requires.tied greater

pub returns-else-is_gt-clause-rising : goal.returns-else-is_gt-clause-rising
returns-else-is_gt-clause-rising c =
    subst AreRising (sym c.take_last-mark.ensures.rest)
    (rising-rest (reverse c.args.waiting.now) c.requires.rising)

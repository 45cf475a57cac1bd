-- Of two entries of one slot the lesser is not kept.
use Rattle.std.proofs.Common.{◌≡◌, ◌∙◌, ◌∷◌, sym, ap, subst, drop, reverse, true, false, refl, rules}
use Rattle.std.specs.Ordering.{is_eq, is_gt}
use Rattle.bufr_entries.specs.Entries.{slot_cmp, rank_cmp, kept}
use Rattle.bufr_entries.specs.Pages.{seen, waits_in, AreRising, LeadsAlone}
use Rattle.bufr_entries.proofs.PageLemmas.{tied-other, tied-first, tied-kept, apart-leads}
use Rattle.bufr_entries.proofs.settling.drop_tied.Goals as goal

pub returns-then-not-is_eq-clause-apart : goal.returns-then-not-is_eq-clause-apart
returns-then-not-is_eq-clause-apart c none =
    let octets = c.in-Some.octets.now in
    let last = waits_in octets c.in-Some.last.now in
    let other = waits_in octets c.in-Some.other.now in
    let rest = drop 2 (reverse c.args.waiting.now) in
    let all : reverse c.args.waiting.now ≡ last ∷ other ∷ rest = c.in-Some.ensures.two in
    let no : c.is_eq.result ≡ false = search rules in
    let apart : is_eq (slot_cmp last other) ≡ false =
    ap is_eq (sym c.slot_cmp.ensures) ∙ sym c.is_eq.ensures ∙ no in (
      refl,
      subst LeadsAlone (sym all)
          (apart-leads last other rest (subst AreRising all c.requires) apart),
    )

pub returns-then-is_gt-clause-kept : goal.returns-then-is_gt-clause-kept
returns-then-is_gt-clause-kept c =
    let octets = c.in-Some.octets.now in
    let last = waits_in octets c.in-Some.last.now in
    let other = waits_in octets c.in-Some.other.now in
    let rest = drop 2 (reverse c.args.waiting.now) in
    let all : reverse c.args.waiting.now ≡ last ∷ other ∷ rest = c.in-Some.ensures.two in
    let yes : c.is_eq.result ≡ true = search rules in
    let tied : is_eq (slot_cmp last other) ≡ true =
    ap is_eq (sym c.slot_cmp.ensures) ∙ sym c.is_eq.ensures ∙ yes in
    let ranks : rank_cmp (seen c.look-own.result) (seen c.look-its.result) ≡ rank_cmp last other =
    ap (λ e. rank_cmp e (seen c.look-its.result)) c.look-own.ensures
    ∙ ap (λ e. rank_cmp last e) c.look-its.ensures in
    let greater : is_gt (rank_cmp last other) ≡ true =
    ap is_gt (sym (c.rank_cmp.ensures ∙ ranks)) ∙ sym c.is_gt.ensures ∙ c.if-is_gt.true in
    ap kept (tied-other (reverse c.args.waiting.now) (reverse c.drop_other.new.self) last other
    all c.drop_other.ensures greater)
    ∙ tied-kept last other rest tied ∙ ap kept (sym all)

pub returns-else-is_gt-clause-kept : goal.returns-else-is_gt-clause-kept
returns-else-is_gt-clause-kept c =
    let octets = c.in-Some.octets.now in
    let last = waits_in octets c.in-Some.last.now in
    let other = waits_in octets c.in-Some.other.now in
    let rest = drop 2 (reverse c.args.waiting.now) in
    let all : reverse c.args.waiting.now ≡ last ∷ other ∷ rest = c.in-Some.ensures.two in
    let yes : c.is_eq.result ≡ true = search rules in
    let tied : is_eq (slot_cmp last other) ≡ true =
    ap is_eq (sym c.slot_cmp.ensures) ∙ sym c.is_eq.ensures ∙ yes in
    let ranks : rank_cmp (seen c.look-own.result) (seen c.look-its.result) ≡ rank_cmp last other =
    ap (λ e. rank_cmp e (seen c.look-its.result)) c.look-own.ensures
    ∙ ap (λ e. rank_cmp last e) c.look-its.ensures in
    let greater : is_gt (rank_cmp last other) ≡ false =
    ap is_gt (sym (c.rank_cmp.ensures ∙ ranks)) ∙ sym c.is_gt.ensures ∙ c.if-is_gt.false in
    ap kept (tied-first (reverse c.args.waiting.now) (reverse c.take_last-mark.new.self) last other
    all c.take_last-mark.ensures.rest greater)
    ∙ tied-kept last other rest tied ∙ ap kept (sym all)

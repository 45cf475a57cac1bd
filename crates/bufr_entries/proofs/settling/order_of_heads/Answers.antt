use Rattle.std.proofs.Common.{◌≡◌, ◌∙◌, Some, reverse, sym, ap}
use Rattle.std.specs.Option.{option_map}
use Rattle.bufr_entries.specs.Keeping.{first_of}
use Rattle.bufr_entries.specs.Pages.{seen}
use Rattle.bufr_entries.proofs.PageLemmas.{heads-are}
use Rattle.bufr_entries.proofs.settling.order_of_heads.Goals as goal

pub returns-in-Some-Some-clause-order : goal.returns-in-Some-Some-clause-order
returns-in-Some-Some-clause-order c =
    let first : first_of c.args.left.now ≡ Some (seen c.in-Some-Some.first) =
    sym c.first.ensures ∙ ap (option_map seen) c.in-Some-Some.is-0 in
    let last : first_of (reverse c.args.waiting.now) ≡ Some (seen c.in-Some-Some.last) =
    sym c.last.ensures.last ∙ ap (option_map seen) c.in-Some-Some.is-1 in
    c.slot_cmp.ensures
    ∙ sym (heads-are c.args.left.now (reverse c.args.waiting.now)
    (seen c.in-Some-Some.first) (seen c.in-Some-Some.last) first last)

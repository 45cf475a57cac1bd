-- The clause of `push_text`: octets that are all shown as themselves.
use Rattle.std.proofs.Common.{◌≡◌, ◌++◌, ◌∙◌, List, ℕ, ap, sym, rules, tests}
use Rattle.std.specs.List.{list_all}
use Rattle.std.proofs.lemmas.Iterator.{YieldsList-from_slice}
use Rattle.std.proofs.lemmas.Iterator.Search.{all_from_yields_List}
use Rattle.bufr_select_rows.specs.Values.{is_shown_as_itself}
use Rattle.bufr_select_rows.proofs.TextFacts.{on_ok_same, shown_themselves}
use Rattle.bufr_select_rows.proofs.text.push_text.Goals as goal

pub returns-then-all : goal.returns-then-all
returns-then-all c =
    let octets = c.args.octets.now in
    let same : c.all.result ≡ list_all is_shown_as_itself octets =
    all_from_yields_List is_shown_as_itself _ _ c.all.result c.all.ensures.ran
    (YieldsList-from_slice octets c.iter.ensures.rest) (λ x b q k. search (rules, tests)) in
    let all = sym same ∙ c.if-all.true in
    on_ok_same c.extend_from_slice.result _ _ _ _ c.extend_from_slice.ensures.items
    (ap (λ (t : List ℕ). c.args.text.now.items ++ t) (sym (shown_themselves octets all)))

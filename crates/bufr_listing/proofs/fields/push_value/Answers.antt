use Rattle.std.proofs.Common.{◌≡◌, ◌++◌, ◌∙◌, OnOk, sym, subst}
use Rattle.bufr_listing.specs.Listings.{line}
use Rattle.bufr_listing.proofs.QuoteFacts.{word_of_value}
use Rattle.bufr_listing.proofs.fields.push_value.Goals as goal

pub returns-in-Some-clause-ok : goal.returns-in-Some-clause-ok
returns-in-Some-clause-ok c =
    let is = word_of_value c.args.field.now c.in-Some.number (sym c.value.ensures ∙ c.in-Some.is) in
    subst (λ z. OnOk c.push_number.result
    (c.push_number.new.text.items ≡ c.args.text.now.items ++ line z))
    (sym is) c.push_number.ensures.ok

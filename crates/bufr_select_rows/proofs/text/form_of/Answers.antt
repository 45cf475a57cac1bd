-- The clause of `form_of`: a missing number and one of a text show nothing.
use Rattle.std.proofs.Common.{◌∙◌, [], ap, cond, sym}
use Rattle.bufr_fields.specs.Values.{as_field, value}
use Rattle.bufr_listing.specs.Listings.{number_word}
use Rattle.bufr_select_rows.proofs.WrittenFacts.{number_shown, none_shown}
use Rattle.bufr_select_rows.proofs.text.form_of.Goals as goal

pub returns-then-is_missing : goal.returns-then-is_missing
returns-then-is_missing c octets =
    sym (ap (λ b. cond b [] (number_word (value (as_field c.args.field))))
    (sym c.is_missing.ensures ∙ c.if-is_missing.true))

pub returns-in-Text : goal.returns-in-Text
returns-in-Text c octets = sym (none_shown c.args.field c.in-Text.is)

pub returns-in_default : goal.returns-in_default
returns-in_default c octets =
    c.sum_of.ensures
    ∙ number_shown c.args.field c.in_default.not-Text
    (sym c.is_missing.ensures ∙ c.if-is_missing.false)

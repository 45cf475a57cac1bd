-- Of two places the greater one would be a longer beginning that is a text.
use Rattle.std.proofs.Common.{inl, inr, arith, length, sym, subst}
use Rattle.std.proofs.Math.Nat.{le_of_lt}
use Rattle.std.proofs.lemmas.Bool.{cases_order}
use Rattle.std.proofs.lemmas.List.{take_all}
use Rattle.bufr_gather.specs.ReportTexts.{IsText}
use Rattle.bufr_gather.specs.ReportLaws.{BreaksAreSingle, TextsAreWhole}
use Rattle.bufr_gather.proofs.laws.texts_break_at_one_place.Goals as goal

single : BreaksAreSingle
single tables octets p q a b = elim (cases_order p q) [
  | inl same ↦ same
  | inr order ↦ elim order [
    | inl less ↦ absurd (a.longest q less (le_of_lt b.proper) b.front)
    | inr more ↦ absurd (b.longest p more (le_of_lt a.proper) a.front)
  ]
]

whole : TextsAreWhole
whole tables octets p text breaks =
    breaks.longest (length octets) breaks.proper (omega arith)
    (subst (IsText tables) (sym (take_all (length octets) octets (omega arith))) text)

pub returns : goal.returns
returns c = record { single = single; whole = whole }

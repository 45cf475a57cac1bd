-- The octets of the total length are an entry that comes after the one before.
use Rattle.std.proofs.Common.{ap, sym, true, false, ◌∙◌}
use Rattle.std.specs.Ordering.{is_lt}
use Rattle.std.specs.Option.{option_map}
use Rattle.bufr_gather.specs.Reading.{read}
use Rattle.bufr_gather.specs.Texts.{comes_after}
use Rattle.bufr_gather.specs.ReadFacts.{right_none, right_told}
use Rattle.bufr_gather.proofs.reading.right_entry.Goals as goal

pub returns-in_default-clause-is : goal.returns-in_default-clause-is
returns-in_default-clause-is c =
    right_none c.reports_are_entries.ensures c.args.message_reader.now
    (option_map read c.args.before.now) c.args.octets.now c.split_first.result.0.now _
    c.split_first.ensures.first c.in_ok-entry.ensures.is c.in_default.is

pub returns-in_default-before-clause-is : goal.returns-in_default-before-clause-is
returns-in_default-before-clause-is c =
    right_told c.reports_are_entries.ensures c.args.message_reader.now
    (option_map read c.args.before.now) c.args.octets.now c.split_first.result.0.now _
    c.in-Some.entry true c.split_first.ensures.first c.in_ok-entry.ensures.is c.in-Some.is
    (ap (λ x. comes_after (option_map read x) (read c.in-Some.entry)) c.in_default-before.is)

pub returns-then-is_lt-clause-is : goal.returns-then-is_lt-clause-is
returns-then-is_lt-clause-is c =
    right_told c.reports_are_entries.ensures c.args.message_reader.now
    (option_map read c.args.before.now) c.args.octets.now c.split_first.result.0.now _
    c.in-Some.entry true c.split_first.ensures.first c.in_ok-entry.ensures.is c.in-Some.is
    (ap (λ x. comes_after (option_map read x) (read c.in-Some.entry)) c.in-Some-before.is ∙ ap is_lt (sym c.slot_order-order.ensures) ∙ sym c.is_lt.ensures ∙ c.if-is_lt.true)

pub returns-clause-is : goal.returns-clause-is
returns-clause-is c =
    right_told c.reports_are_entries.ensures c.args.message_reader.now
    (option_map read c.args.before.now) c.args.octets.now c.split_first.result.0.now _
    c.in-Some.entry false c.split_first.ensures.first c.in_ok-entry.ensures.is c.in-Some.is
    (ap (λ x. comes_after (option_map read x) (read c.in-Some.entry)) c.in-Some-before.is ∙ ap is_lt (sym c.slot_order-order.ensures) ∙ sym c.is_lt.ensures ∙ c.if-is_lt.false)

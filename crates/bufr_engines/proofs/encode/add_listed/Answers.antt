-- Message by message, until none is left, the listing has a fault or a message has no encoding.
use Rattle.std.proofs.Common.{◌∙◌}
use Rattle.bufr_base.specs.Answers.{result_map}
use Rattle.bufr_engines.specs.Encoding.{EncodesListing}
use Rattle.bufr_engines.proofs.EncodingFacts.{none_encoded, one_encoded, all_encoded}
use Rattle.bufr_io.specs.PassingLaws.{passed}
use Rattle.bufr_engines.proofs.EncodingFacts.{reading_stopped, encoding_stopped}
use Rattle.bufr_engines.proofs.encode.add_listed.Goals as goal

pub loop-messages-init : goal.loop-messages-init
loop-messages-init c = record {
  so_far = none_encoded _ _ _ _ _ c.requires.none c.of-messages.ensures.listed
      c.of-messages.ensures.few;
  kept = c.requires.kept;
}

pub loop-messages-preserved : goal.loop-messages-preserved
loop-messages-preserved c =
    let h = rw c.in-Some.is at c.in_ok-message.ensures in
    let added = rw c.loop-messages.invariant.kept at c.in_default-add_octets.ensures.ok in
    record {
      so_far = one_encoded c.args.tables.now c.args.compressed c.args.text.now
          c.loop-messages.messages c.next_of.new.messages c.in-Some.message c.loop-messages.octets.items
          c.add_octets.new.octets.items added.0 c.loop-messages.count
          c.loop-messages.invariant.so_far h added.1 added.2;
      kept = c.add_octets.ensures.same ∙ c.loop-messages.invariant.kept;
    }

pub returns : goal.returns
returns c =
    let h = rw c.in_default.is at c.in_ok-message.ensures in
    all_encoded _ _ _ _ _ _ c.loop-messages.invariant.so_far h.0

pub returns-in_err-message : goal.returns-in_err-message
returns-in_err-message c =
    passed (λ r. EncodesListing c.args.tables.now c.args.compressed c.args.text.now
    (result_map (λ count. record { octets = c.loop-messages.octets; count = count }) r))
    c.from_residual.result c.in_err-message.field-0.0 c.from_residual.ensures.1
    (reading_stopped c.args.tables.now c.args.compressed c.args.text.now c.loop-messages.messages
    c.next_of.new.messages c.loop-messages.octets.items c.loop-messages.count
    c.in_err-message.field-0.0 c.loop-messages.invariant.so_far c.in_err-message.ensures)

pub returns-in-Err : goal.returns-in-Err
returns-in-Err c =
    let h = rw c.in-Some.is at c.in_ok-message.ensures in
    let fails = rw c.loop-messages.invariant.kept at c.in-Err.ensures.err in
    encoding_stopped c.args.tables.now c.args.compressed c.args.text.now c.loop-messages.messages
    c.next_of.new.messages c.in-Some.message c.loop-messages.octets.items c.loop-messages.count
    c.in-Err.failure c.fault_of.result c.loop-messages.invariant.so_far h fails
    c.fault_of.ensures

-- The data and the sections are what `spell` writes for the one subset.
use Rattle.std.proofs.Common.{◌≡◌, ◌∙◌, Ok, length, sym}
use Rattle.std.proofs.lemmas.Slice.Eq.{bytes_eq-Decides}
use Rattle.bufr_base.specs.AnswerLaws.{not_false}
use Rattle.bufr_sections.specs.declared.message.Message.{Message}
use Rattle.bufr_sections.specs.Sections.{envelope_of}
use Rattle.bufr_message.specs.Messages.{envelope_with}
use Rattle.bufr_message.proofs.OwnBitsFacts.{own_told}
use Rattle.bufr_message.proofs.message_view.View.own.Goals as goal

pub returns-clause-is : goal.returns-clause-is
returns-clause-is c =
    let v = c.self.inside in
    let m : Message =
    record {
      head = v.sections.head;
      section2 = v.sections.section2;
      observed = v.sections.observed;
      compressed = v.sections.compressed;
      descriptors = v.descriptors.value;
      subsets = v.subsets;
    } in
    let contents = v.sections.contents.now in
    let read : envelope_of v.octets.now ≡ Ok (envelope_with m contents) =
    rw (c.self.invariant.list, c.self.invariant.count) c.self.invariant.read in
    let one : length v.subsets ≡ 1 = c.self.invariant.count ∙ c.if-self-ne1.false in
    let lent = rw (← c.self.view_is) at c.sections.ensures in
    let same : c.in_ok-lent.field-0.now ≡ contents =
    (bytes_eq-Decides _ _).0 (not_false _ (sym c.ne.ensures ∙ c.if-ne.false)) in
    rw (← c.self.view_is)
    (own_told m c.sections.result contents v.octets.now c.are_bare.result c.self.invariant.contents
    c.self.invariant.rooms
    one c.if-self.false (rw same at c.in_ok-lent.ensures) lent read c.are_bare.ensures.spelt c.are_bare.ensures.no_section2
    c.are_bare.ensures.no_local c.if-not-are_bare.false)

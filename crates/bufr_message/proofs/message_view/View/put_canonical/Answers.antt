-- The octets themselves, the lent bits and the copied bits each spell the report alone.
use Rattle.std.proofs.Common.{◌≡◌, arith}
use Rattle.std.specs.Prelude.{slice_get}
use Rattle.bufr_sections.specs.declared.message.Message.{Message}
use Rattle.bufr_message.proofs.OwnBitsFacts.{own_behind, put_and_filled, put_there}
use Rattle.bufr_message.specs.Reports.{reports_of}
use Rattle.bufr_message.proofs.message_view.View.put_canonical.Goals as goal

pub returns-in-Some-clause-put : goal.returns-in-Some-clause-put
returns-in-Some-clause-put c =
    let first : c.args.index ≡ 0 = omega (arith, c.in-Some.ensures.one, c.requires) in
    rw first
    (own_behind (slice_get (reports_of c.args.self.now.message) 0) c.in-Some.own.now
    c.args.out.now.items _ c.in-Some.ensures.is c.in_ok-extend_from_slice.ensures.items)

pub returns-in-Some-filled_octets-clause-put : goal.returns-in-Some-filled_octets-clause-put
returns-in-Some-filled_octets-clause-put c =
    let v = c.self.inside in
    let m : Message =
    record {
      head = v.sections.head;
      section2 = v.sections.section2;
      observed = v.sections.observed;
      compressed = v.sections.compressed;
      descriptors = v.descriptors.value;
      subsets = v.subsets;
    } in
    let below = rw (← c.self.view_is) at c.requires in
    let put = rw (c.as_slice-descriptors.ensures, c.deref.ensures) at c.put_alone.ensures.put in
    rw (← c.self.view_is)
    (put_there m c.args.index c.in-Some-filled_octets.contents.now c.args.out.now.items _
    c.put_alone.result below c.self.invariant.rooms c.in-Some-filled_octets.ensures put)

pub returns-clause-put : goal.returns-clause-put
returns-clause-put c =
    let v = c.self.inside in
    let m : Message =
    record {
      head = v.sections.head;
      section2 = v.sections.section2;
      observed = v.sections.observed;
      compressed = v.sections.compressed;
      descriptors = v.descriptors.value;
      subsets = v.subsets;
    } in
    let below = rw (← c.self.view_is) at c.requires in
    let put =
    rw (c.as_slice-descriptors.ensures, c.deref.ensures, c.deref-2.ensures.value)
    at c.put_alone-2.ensures.put in
    let held =
    put_and_filled (slice_get v.subsets c.args.index) c.in_ok-sink.sink c.put.new.sink
    c.fill_octet.new.self c.into_bytes-contents.result.items c.in_ok-sink.ensures
    c.in_ok-put.ensures.put c.fill_octet.ensures.filled c.into_bytes-contents.ensures in
    rw (← c.self.view_is)
    (put_there m c.args.index c.into_bytes-contents.result.items c.args.out.now.items _
    c.put_alone-2.result below c.self.invariant.rooms held put)

-- What the loop over walk and reader finds.
use Rattle.std.proofs.Common.{Some, sym, ap, subst}
use Rattle.bufr_fields.specs.Values.{as_field}
use Rattle.bufr_data.specs.Handed.{HandsOutAsked, PassesUnasked, fields_from}
use Rattle.bufr_data.proofs.AskedFacts.{found_due, passed_due}
use Rattle.bufr_data.proofs.PlainFacts.LaidTurns.{seen_none}
use Rattle.bufr_data.proofs.plain.fields.PlainFields.next_walked_number.Goals as goal

pub returns-in-Ok-clause-found : goal.returns-in-Ok-clause-found
returns-in-Ok-clause-found g c =
    let w = c.self.inside in
    let n = c.next_chosen.new in
    let asks = g.A.Asks.is_asked c.args.asked.now in
    subst (HandsOutAsked asks c.args.self.now (Some (as_field c.in-Ok.number)))
    (sym (ap (λ k. fields_from k w.due n.walk n.reader) c.in-None.is))
    (found_due asks w.due w.walk n.walk w.reader n.reader c.args.self.now _ c.in-Step.is
    (seen_none w.laid w.due w.walk w.reader c.args.self.now c.in-None.is c.self.view_is)
    c.in-Ok.ensures.found)

pub returns-in-Err-clause-others : goal.returns-in-Err-clause-others
returns-in-Err-clause-others g c =
    let w = c.self.inside in
    let n = c.next_chosen.new in
    let asks = g.A.Asks.is_asked c.args.asked.now in
    subst (PassesUnasked asks c.args.self.now)
    (sym (ap (λ k. fields_from k c.in-Err.due n.walk n.reader) c.in-None.is))
    (passed_due asks w.due w.walk w.reader c.args.self.now _ c.in-Step.is
    (seen_none w.laid w.due w.walk w.reader c.args.self.now c.in-None.is c.self.view_is)
    c.in-Err.ensures.others)

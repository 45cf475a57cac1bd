use Rattle.std.specs.Str.{bytes_eq}
use Rattle.std.proofs.Common.{◌≡◌, ◌∙◌, ◌+◌, ◌-◌, suc, sym, ap, arith}
use Rattle.std.specs.Prelude.{Some, None}
use Rattle.bufr_listing_reader.specs.RawWords.{octets_before}
use Rattle.bufr_listing_reader.proofs.WordFacts.{behind, behind_none, behind_more}
use Rattle.bufr_listing_reader.proofs.RawFacts.{octets_next, octets_ended, octets_unended}
use Rattle.bufr_listing_reader.proofs.raw_values.octets_before.Goals as goal
use Rattle.bufr_listing_reader.proofs.raw_values.octets_before.Goals.{then-eq, else-eq}

pub loop-i-init : goal.loop-i-init
loop-i-init c =
    let whole : c.args.count - 0 ≡ c.args.count = omega arith in
    rw (c.new-octets.ensures.items, whole)
    (behind_none (octets_before c.args.count c.args.text.now))

pub returns-in-None : goal.returns-in-None
returns-in-None c =
    let next : c.args.count - c.loop-i._i ≡ suc (c.args.count - (c.loop-i._i + 1)) = omega arith in
    let none = rw c.in-None.is at c.first_octet.ensures in
    sym (c.loop-i.invariant ∙ ap (behind c.loop-i.octets.items)
    (octets_next (c.args.count - c.loop-i._i) (c.args.count - (c.loop-i._i + 1)) c.loop-i.rest.now
    None next (sym none)))

pub loop-i-preserved : goal.loop-i-preserved
loop-i-preserved c =
    let next : c.args.count - c.loop-i._i ≡ suc (c.args.count - (c.loop-i._i + 1)) = omega arith in
    let some = rw c.in-Some.is at c.first_octet.ensures in
    c.loop-i.invariant
    ∙ ap (behind c.loop-i.octets.items) (octets_next (c.args.count - c.loop-i._i)
    (c.args.count - (c.loop-i._i + 1)) c.loop-i.rest.now
    (Some (c.in-Some.octet, c.in-Some.behind.now)) next (sym some))
    ∙ behind_more c.loop-i.octets.items c.push.new.self.items c.in-Some.octet
    (octets_before (c.args.count - (c.loop-i._i + 1)) c.in-Some.behind.now)
    c.in_ok-push-in-Some.ensures.items

pub returns : goal.returns
returns c =
    let none : c.args.count - c.loop-i._i ≡ 0 = omega arith in
    let same = sym (c.eq.ensures ∙ ap (λ t. bytes_eq c.loop-i.rest.now t) c.as_slice.ensures) in
    elim c.if-eq.branch [
      | then-eq w ↦ rw w.result-is
          (sym (c.loop-i.invariant ∙ octets_ended (c.args.count - c.loop-i._i) c.loop-i.rest.now
          c.loop-i.octets.items none (same ∙ w.if-eq.true)))
      | else-eq w ↦ rw w.result-is
          (sym (c.loop-i.invariant ∙ octets_unended (c.args.count - c.loop-i._i) c.loop-i.rest.now
          c.loop-i.octets.items none (same ∙ w.if-eq.false)))
    ]

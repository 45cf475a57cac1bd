-- The origins are those of the entries that both texts hold.
use Rattle.std.proofs.Common.{◌≡◌, ◌+◌, ◌≤◌, List, length, sym, ap, subst, ◌∙◌, arith}
use Rattle.bufr_entries.specs.declared.entry.Entry.{Entry}
use Rattle.bufr_gather.specs.Archives.{ArchiveView}
use Rattle.bufr_gather.specs.ArchiveTexts.{entries_in, AreLeft}
use Rattle.bufr_tables.specs.Entries.{Entries}
use Rattle.bufr_gather.specs.MergedOctets.{HandOutMerged}
use Rattle.bufr_gather.proofs.HeldFacts.{origins_held}
use Rattle.bufr_gather.proofs.TextMergeFacts.{told_none, told_stops, told_goes_on, told_all}
use Rattle.bufr_gather.proofs.archive_text.ArchiveText.origins_with.Goals as goal

pub loop-init : goal.loop-init
loop-init c =
    λ tables es fs l r few.
    told_none tables es fs _ c.of_text-left.result c.of_text-right.result _
    c.in_ok-origins.ensures.items l r few

pub loop-preserved : goal.loop-preserved
loop-preserved c =
    λ tables es fs l r few.
    told_goes_on c.reports_are_entries.ensures tables es fs _ c.push.new.self.items
    c.in-Some.origin c.loop.left c.loop.right c.take_first.new.left c.take_first.new.right _
    (c.len.result + c.len-2.result) c.loop.counter (c.loop.invariant tables es fs l r few) c.take_first.ensures
    c.in-Some.is c.in_ok-push.ensures.items

pub returns-in_default : goal.returns-in_default
returns-in_default c =
    let all : (tables : Entries) (es fs : List Entry) → AreLeft tables es c.of_text-left.result
    → AreLeft tables fs c.of_text-right.result → length es + length fs ≤ (c.len.result + c.len-2.result)
    → HandOutMerged es fs c.loop.origins.items =
    λ tables es fs l r few.
    told_stops tables es fs _ c.loop.left c.loop.right c.take_first.new.left
    c.take_first.new.right _ (c.len.result + c.len-2.result) c.loop.counter (c.loop.invariant tables es fs l r few)
    c.take_first.ensures c.in_default.is in
    let same : c.self.inside.tables.now ≡ c.other.inside.tables.now =
    ap (λ (a : ArchiveView). a.tables) c.self.view_is ∙ c.requires
    ∙ sym (ap (λ (a : ArchiveView). a.tables) c.other.view_is) in
    let own = c.self.inside.marks in
    let more = c.other.inside.marks in
    let many : c.len.result + c.len-2.result ≡ length own.items + length more.items =
    omega (arith, c.len.ensures, c.len-2.ensures, own.ok.0, more.ok.0) in
    let origins = c.loop.origins.items in
    let told = origins_held c.self.inside.tables.now c.other.inside.tables.now
    c.self.inside.octets.items c.other.inside.octets.items c.deref-2.result.now
    c.deref-4.result.now own.items more.items c.deref.result.now c.deref-3.result.now
    (λ (es fs : List Entry). HandOutMerged es fs origins) _ c.of_text-left.result
    c.of_text-right.result same c.deref-2.ensures.value c.deref-4.ensures.value
    c.deref.ensures.value c.deref-3.ensures.value many c.self.invariant c.other.invariant
    c.of_text-left.ensures c.of_text-right.ensures all in
    subst (λ (a : ArchiveView). HandOutMerged a.entries c.args.other.now.entries origins)
    c.self.view_is
    (subst (λ (a : ArchiveView).
    HandOutMerged (entries_in c.self.inside.tables.now c.self.inside.octets.items) a.entries
    origins) c.other.view_is told)

pub returns : goal.returns
returns c =
    let all : (tables : Entries) (es fs : List Entry) → AreLeft tables es c.of_text-left.result
    → AreLeft tables fs c.of_text-right.result → length es + length fs ≤ (c.len.result + c.len-2.result)
    → HandOutMerged es fs c.loop.origins.items =
    λ tables es fs l r few.
    told_all tables es fs _ c.loop.left c.loop.right (c.len.result + c.len-2.result) c.loop.counter
    (c.loop.invariant tables es fs l r few) (omega arith) in
    let same : c.self.inside.tables.now ≡ c.other.inside.tables.now =
    ap (λ (a : ArchiveView). a.tables) c.self.view_is ∙ c.requires
    ∙ sym (ap (λ (a : ArchiveView). a.tables) c.other.view_is) in
    let own = c.self.inside.marks in
    let more = c.other.inside.marks in
    let many : c.len.result + c.len-2.result ≡ length own.items + length more.items =
    omega (arith, c.len.ensures, c.len-2.ensures, own.ok.0, more.ok.0) in
    let origins = c.loop.origins.items in
    let told = origins_held c.self.inside.tables.now c.other.inside.tables.now
    c.self.inside.octets.items c.other.inside.octets.items c.deref-2.result.now
    c.deref-4.result.now own.items more.items c.deref.result.now c.deref-3.result.now
    (λ (es fs : List Entry). HandOutMerged es fs origins) _ c.of_text-left.result
    c.of_text-right.result same c.deref-2.ensures.value c.deref-4.ensures.value
    c.deref.ensures.value c.deref-3.ensures.value many c.self.invariant c.other.invariant
    c.of_text-left.ensures c.of_text-right.ensures all in
    subst (λ (a : ArchiveView). HandOutMerged a.entries c.args.other.now.entries origins)
    c.self.view_is
    (subst (λ (a : ArchiveView).
    HandOutMerged (entries_in c.self.inside.tables.now c.self.inside.octets.items) a.entries
    origins) c.other.view_is told)

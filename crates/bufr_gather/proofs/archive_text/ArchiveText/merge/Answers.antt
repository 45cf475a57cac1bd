-- The octets become the text of what is kept of both.
use Rattle.std.proofs.Common.{◌≡◌, ℕ, List, sym, ap, subst, ◌∙◌}
use Rattle.std.specs.List.{flat_map}
use Rattle.bufr_gather.specs.declared.merged_octets.EntrySource.{EntrySource}
use Rattle.bufr_gather.specs.Archives.{ArchiveView, merged}
use Rattle.bufr_gather.specs.ArchiveTexts.{entries_in}
use Rattle.bufr_gather.specs.MergedOctets.{HandOutMerged, handed_out, marks_out}
use Rattle.bufr_gather.proofs.HeldFacts.{merged_held}
use Rattle.bufr_gather.proofs.archive_text.ArchiveText.merge.Goals as goal

pub invariant_of-self-2 : goal.invariant_of-self-2
invariant_of-self-2 c =
    let same : c.self.inside.tables.now ≡ c.other.inside.tables.now =
    ap (λ (a : ArchiveView). a.tables) c.self.view_is ∙ c.requires
    ∙ sym (ap (λ (a : ArchiveView). a.tables) c.other.view_is) in
    let origins = c.in_ok-origins.origins.items in
    let own = c.self.inside.marks in
    let more = c.other.inside.marks in
    let es = entries_in c.self.inside.tables.now c.self.inside.octets.items in
    let hand : HandOutMerged es
    (entries_in c.other.inside.tables.now c.other.inside.octets.items) origins =
    subst (λ (a : ArchiveView). HandOutMerged es a.entries origins) (sym c.other.view_is)
    (subst (λ (a : ArchiveView). HandOutMerged a.entries c.args.other.entries origins)
    (sym c.self.view_is) c.in_ok-origins.ensures) in
    let joined = c.in_ok-octets.ensures
    ∙ ap (λ (os : List EntrySource). flat_map (λ (o : List ℕ). o)
    (handed_out os c.deref-2.result.now c.deref-3.result.now)) c.deref.ensures.value in
    let out = c.merged_marks.ensures
    ∙ ap (λ (os : List EntrySource). marks_out os c.replace-own_marks.result.items more.items)
    c.deref-4.ensures.value
    ∙ ap (λ v. marks_out origins v.items more.items)
    c.replace-own_marks.ensures.value in
    let held = merged_held c.reports_are_entries.ensures c.self.inside.tables.now
    c.other.inside.tables.now c.self.inside.octets.items c.other.inside.octets.items
    c.deref-2.result.now c.deref-3.result.now c.in_ok-octets.octets.items own.items more.items
    c.merged_marks.result.items origins same c.deref-2.ensures.value c.deref-3.ensures.value
    c.self.invariant c.other.invariant hand joined out in
    held.1

pub returns-clause-ok : goal.returns-clause-ok
returns-clause-ok c =
    let same : c.self.inside.tables.now ≡ c.other.inside.tables.now =
    ap (λ (a : ArchiveView). a.tables) c.self.view_is ∙ c.requires
    ∙ sym (ap (λ (a : ArchiveView). a.tables) c.other.view_is) in
    let origins = c.in_ok-origins.origins.items in
    let own = c.self.inside.marks in
    let more = c.other.inside.marks in
    let es = entries_in c.self.inside.tables.now c.self.inside.octets.items in
    let hand : HandOutMerged es
    (entries_in c.other.inside.tables.now c.other.inside.octets.items) origins =
    subst (λ (a : ArchiveView). HandOutMerged es a.entries origins) (sym c.other.view_is)
    (subst (λ (a : ArchiveView). HandOutMerged a.entries c.args.other.entries origins)
    (sym c.self.view_is) c.in_ok-origins.ensures) in
    let joined = c.in_ok-octets.ensures
    ∙ ap (λ (os : List EntrySource). flat_map (λ (o : List ℕ). o)
    (handed_out os c.deref-2.result.now c.deref-3.result.now)) c.deref.ensures.value in
    let out = c.merged_marks.ensures
    ∙ ap (λ (os : List EntrySource). marks_out os c.replace-own_marks.result.items more.items)
    c.deref-4.ensures.value
    ∙ ap (λ v. marks_out origins v.items more.items)
    c.replace-own_marks.ensures.value in
    let held = merged_held c.reports_are_entries.ensures c.self.inside.tables.now
    c.other.inside.tables.now c.self.inside.octets.items c.other.inside.octets.items
    c.deref-2.result.now c.deref-3.result.now c.in_ok-octets.octets.items own.items more.items
    c.merged_marks.result.items origins same c.deref-2.ensures.value c.deref-3.ensures.value
    c.self.invariant c.other.invariant hand joined out in
    held.0 ∙ ap (λ (a : ArchiveView). merged a (record {
      tables = c.other.inside.tables.now;
      entries = entries_in c.other.inside.tables.now c.other.inside.octets.items;
    })) c.self.view_is ∙ ap (merged c.args.self.now) c.other.view_is

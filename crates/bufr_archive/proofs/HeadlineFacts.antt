-- Two runs leave archives that agree: for `laws::headline` and `run_both`.
use Rattle.std.proofs.Common.{◌≡◌, ◌∙◌, ℕ, Option, Some, None, List, refl, sym, ap, subst}
use Rattle.std.specs.Prelude.{slice_get}
use Rattle.std.specs.Option.{option_map}
use Rattle.std.proofs.lemmas.Option.{same_Some}
use Rattle.bufr_gather.specs.Archives.{ArchiveView}
use Rattle.bufr_gather.specs.Texts.{text}
use Rattle.bufr_gather.specs.ReportEntries.{kept_of}
use Rattle.bufr_gather.specs.ReportTexts.{archive_of}
use Rattle.bufr_gather.specs.StreamsTold.{all_told, HoldSameMessages}
use Rattle.bufr_archive.specs.Slots.{Slot}
use Rattle.bufr_archive.specs.Holdings.{Holding, HoldsSlot}
use Rattle.bufr_archive.specs.Agreements.{EndsRun}
use Rattle.bufr_archive.specs.Headline.{NewRun, slots_after, WasRun, TookIn}
use Rattle.bufr_archive.specs.Headline.{Headline}
use Rattle.bufr_archive.proofs.HeldFacts.{zip_at}
use Rattle.bufr_archive.proofs.AgreementFacts.{converges, keeps_what_was_told}

mapped_there : {A B : Type 0} (f : A → B) (o : Option A) (b : B) → option_map f o ≡ Some b
    → (a : A) × (o ≡ Some a) × (f a ≡ b)
mapped_there f None b e = absurd cc
mapped_there f (Some a) b e = let same : f a ≡ b = cc in (a, refl, same)

archive_left : (r : NewRun) (i : ℕ) (a : ArchiveView) (streams : List (List ℕ)) → WasRun r
    → (t : TookIn r i a streams) → a ≡ archive_of r.tables t.slot.reports
archive_left r i a streams w t =
    let h = mapped_there (λ (k : Holding). k.archive) (slice_get r.left.slots i) a t.held in
    let s = zip_at (HoldsSlot r.left.tables) r.left.slots (slots_after r) i h.0 w.stands h.1 in
    let same = same_Some s.0 t.slot (sym s.1 ∙ t.there) in
    sym h.2 ∙ s.2.archive ∙ ap (λ x. archive_of x s.0.reports) w.tables
    ∙ ap (λ (x : Slot). archive_of r.tables x.reports) same

ends : (r : NewRun) (i : ℕ) (a : ArchiveView) (streams : List (List ℕ)) → WasRun r
    → (t : TookIn r i a streams) → EndsRun r.tables t.slot
ends r i a streams w t = record {
  count = r.count;
  steps = r.steps;
  answers = r.answers;
  whole = record { run = w.run; repeated = t.repeated; joins_closed = t.joins_closed };
  number = i;
  there = t.there;
  closed = t.closed;
}

pub headline : Headline
headline one other w v i j a b streams others tables t u hold =
    let first = ends one i a streams w t in
    let second = subst (λ x. EndsRun x u.slot) (sym tables) (ends other j b others v u) in
    let messages : HoldSameMessages one.tables t.slot.ended u.slot.ended =
    subst (λ x. HoldSameMessages one.tables x u.slot.ended) (sym t.ended)
    (subst (HoldSameMessages one.tables streams) (sym u.ended) hold) in
    let agree = converges one.tables t.slot u.slot first second messages in
    let left = archive_left one i a streams w t in
    let right =
    archive_left other j b others v u ∙ ap (λ x. archive_of x u.slot.reports) (sym tables) in
    let same : a ≡ b =
    left ∙ ap (λ es. record { tables = one.tables; entries = es }) agree.entries ∙ sym right in
    let entries : a.entries ≡ kept_of one.tables (all_told one.tables streams) =
    ap (λ (x : ArchiveView). x.entries) left ∙ keeps_what_was_told one.tables t.slot first
    ∙ ap (λ x. kept_of one.tables (all_told one.tables x)) t.ended in
    record {
      same = same;
      entries = entries;
      octets = ap (λ (x : ArchiveView). text x.entries) same;
      stated = ap text entries;
    }

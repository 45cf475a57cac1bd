-- The reports of a stream are reports under the tables: for `laws::reports_told_are_under`.
use Rattle.std.proofs.Common.{◌≡◌, ℕ, ◌<◌, ◌^◌, Ok, Err, List, [], ◌∷◌, ◌++◌, length, drop}
use Rattle.std.proofs.Common.{refl, sym, subst}
use Rattle.std.specs.List.{AllByRecursion}
use Rattle.std.proofs.lemmas.List.Elements.{All-take, All-drop}
use Rattle.bufr_tables.specs.Entries.{Entries}
use Rattle.bufr_frame.specs.declared.frames.Found.{Found}
use Rattle.bufr_frame.specs.Streams.{cut}
use Rattle.bufr_frame.specs.Cuts.{IsCut, IsFrameOf}
use Rattle.bufr_message.specs.Messages.{message_of}
use Rattle.bufr_message.specs.Reports.{IsUnder, ReportsSpeltAreUnder, reports_in, reports_read}
use Rattle.bufr_message.specs.Laws.{MessagesReadAreSpelt}
use Rattle.bufr_sections.specs.Sections.{AreOctets}
use Rattle.bufr_gather.specs.ReportEntries.{AreUnder}
use Rattle.bufr_gather.specs.StreamsTold.{reports_among, ReportsToldAreUnder}

pub both : {A : Type 0} (P : A → Type 0) (xs ys : List A) → AllByRecursion P xs
    → AllByRecursion P ys → AllByRecursion P (xs ++ ys)
both P [] ys p q = q
both P (x ∷ xs) ys p q = (p.0, both P xs ys p.1 q)

under_frame : MessagesReadAreSpelt → ReportsSpeltAreUnder → (tables : Entries) (octets : List ℕ)
    → AreOctets octets → AreUnder tables (reports_in tables octets)
under_frame read under tables octets all =
    elim (message_of tables octets) as (λ m. message_of tables octets ≡ m
    → AllByRecursion (IsUnder tables) (reports_read m)) [
      | Ok d ↦ λ e. under tables d.message octets d.slack_octets (read tables octets d all e)
      | Err why ↦ λ e. tt
    ] refl

under_frames : MessagesReadAreSpelt → ReportsSpeltAreUnder → (tables : Entries)
    (stream : List ℕ) → AreOctets stream → (frames : List Found)
    → AllByRecursion (IsFrameOf stream) frames → AreUnder tables (reports_among tables frames)
under_frames read under tables stream all [] each = tt
under_frames read under tables stream all (f ∷ fs) each =
    let octets : AreOctets f.bytes =
    subst (λ (o : List ℕ). AreOctets o) (sym each.0.octets)
    (All-take (λ (x : ℕ). x < 2 ^ 8) (length f.bytes) (drop f.place stream)
    (All-drop (λ (x : ℕ). x < 2 ^ 8) f.place stream all)) in
    both (IsUnder tables) (reports_in tables f.bytes) (reports_among tables fs)
    (under_frame read under tables f.bytes octets)
    (under_frames read under tables stream all fs each.1)

pub told_under : ((stream : List ℕ) → IsCut stream (cut stream)) → MessagesReadAreSpelt
    → ReportsSpeltAreUnder → ReportsToldAreUnder
told_under is read under tables stream all =
    under_frames read under tables stream all (cut stream) (is stream).each

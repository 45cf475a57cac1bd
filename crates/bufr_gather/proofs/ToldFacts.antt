-- The reports of a stream are those of the messages that its frames spell: for
-- `laws::told_are_of_messages`.
use Rattle.std.proofs.Common.{◌≡◌, inl, inr, ℕ, List, [], ◌∷◌, length, drop, Result, Ok, Err, refl}
use Rattle.std.proofs.Common.{sym, ap, subst}
use Rattle.std.specs.List.{flat_map}
use Rattle.std.proofs.lemmas.List.Elements.{All-take, All-drop}
use Rattle.bufr_frame.specs.declared.frames.Found.{Found}
use Rattle.bufr_frame.specs.Streams.{cut}
use Rattle.bufr_frame.specs.Cuts.{IsFrameOf, IsCut}
use Rattle.bufr_sections.specs.declared.message.Decoded.{Decoded}
use Rattle.bufr_sections.specs.declared.fault.Refused.{Refused}
use Rattle.bufr_sections.specs.Sections.{IsOctet, AreOctets}
use Rattle.bufr_message.specs.declared.report.Report.{Report}
use Rattle.bufr_message.specs.Messages.{message_of}
use Rattle.bufr_message.specs.Laws.{MessagesReadAreSpelt, MessagesSpeltAreRead}
use Rattle.bufr_message.specs.Reports.{reports_of, reports_read, reports_in}
use Rattle.bufr_entries.specs.Keeping.{Has}
use Rattle.bufr_entries.specs.KeepingLaws.{Has-left, Has-right, Has-append}
use Rattle.bufr_gather.specs.ReportLaws.{ToldAreTold, OnlyToldAreTold}
use Rattle.bufr_gather.specs.TextFacts.{has_each}

-- the cut is the list with its properties
abbrev CutsAre : Type 0
CutsAre = (stream : List ℕ) → IsCut stream (cut stream)

frame_octets : CutsAre → (stream : List ℕ) (f : Found) → AreOctets stream → Has (cut stream) f
    → AreOctets f.bytes
frame_octets cuts stream f all h =
    let is = has_each (IsFrameOf stream) (cut stream) f (cuts stream).each h in
    subst AreOctets (sym is.octets)
    (All-take IsOctet (length f.bytes) (drop f.place stream)
    (All-drop IsOctet f.place stream all))

from_frames : (g : Found → List Report) (fs : List Found) (r : Report) → Has (flat_map g fs) r
    → (f : Found) × Has fs f × Has (g f) r
from_frames g [] r h = absurd h
from_frames g (f ∷ fs) r h = elim (Has-append (g f) (flat_map g fs) r h) [
  | inl k ↦ (f, inl refl, k)
  | inr k ↦ let t = from_frames g fs r k in (t.0, inr t.1, t.2)
]

of_frames : (g : Found → List Report) (fs : List Found) (f : Found) (r : Report) → Has fs f
    → Has (g f) r → Has (flat_map g fs) r
of_frames g [] f r h k = absurd h
of_frames g (e ∷ fs) f r (inl q) k =
    Has-left (g e) (flat_map g fs) r (subst (λ f. Has (g f) r) q k)
of_frames g (e ∷ fs) f r (inr h) k =
    Has-right (g e) (flat_map g fs) r (of_frames g fs f r h k)

from_read : (x : Result Decoded Refused) (r : Report) → Has (reports_read x) r
    → (d : Decoded) × (x ≡ Ok d) × Has (reports_of d.message) r
from_read (Ok d) r h = (d, refl, h)
from_read (Err fault) r h = absurd h

pub told_are_told : CutsAre → MessagesReadAreSpelt → ToldAreTold
told_are_told cuts spelt tables stream r all h =
    let f = from_frames (λ f. reports_in tables f.bytes) (cut stream) r h in
    let d = from_read (message_of tables f.0.bytes) r f.2 in
    record {
      frame = f.0;
      stands = f.1;
      message = d.0.message;
      slack = d.0.slack_octets;
      spells = spelt tables f.0.bytes d.0 (frame_octets cuts stream f.0 all f.1) d.1;
      says = d.2;
    }

pub only_told_are_told : MessagesSpeltAreRead → OnlyToldAreTold
only_told_are_told reads tables stream r t =
    let read = ap reports_read (reads tables t.frame.bytes t.message t.slack t.spells) in
    of_frames (λ f. reports_in tables f.bytes) (cut stream) t.frame r t.stands
    (subst (λ (rs : List Report). Has rs r) (sym read) t.says)

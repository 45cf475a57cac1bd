-- The archive adds the message of the frame, or counts a refusal.
use Rattle.std.proofs.Common.{◌≡◌, ◌+◌, refl, arith}
use Rattle.bufr_io.specs.Taking.{frame_at}
use Rattle.bufr_engines.proofs.FrameFacts.{added_ok, added_none}
use Rattle.bufr_engines.proofs.AddedFacts.{since_more}
use Rattle.bufr_engines.proofs.streams.ArchiveBuilderTakesFramesFrameCounts.take_frame.Goals as goal
use Rattle.bufr_engines.proofs.streams.ArchiveBuilderTakesFramesFrameCounts.take_frame.Goals.{in-Ok}
use Rattle.bufr_engines.proofs.streams.ArchiveBuilderTakesFramesFrameCounts.take_frame.Goals.{in-Err-Refused}

pub returns-clause-taken : goal.returns-clause-taken
returns-clause-taken c first begin frames h =
    let old = c.args.self.now in
    let counts = c.args.out.now in
    let frame = frame_at c.args.place c.args.octets.now in
    elim c.match-add_message.branch [
      | in-Ok w ↦ let m = w.in-Ok.ensures in
          let same : counts.refused + c.match-add_message.refused ≡ counts.refused =
          omega (arith, w.refused-is) in
          since_more first old c.add_message.new.self begin counts _ frames frame h refl
          (omega (arith, same))
          (λ tables fs b. added_ok tables old c.add_message.new.self counts _ fs frame _ m.0 b refl
          m.1 m.2 refl same)
      | in-Err-Refused w ↦ let m = rw w.in-Err-Refused.field-0-is at w.in-Err-Refused.ensures in
          let more : counts.refused + c.match-add_message.refused ≡ counts.refused + 1 =
          omega (arith, w.refused-is) in
          since_more first old c.add_message.new.self begin counts _ frames frame h refl
          (omega (arith, more))
          (λ tables fs b. added_none tables old c.add_message.new.self counts _ fs frame _ _ b refl
          m.0 m.1 refl more)
    ]

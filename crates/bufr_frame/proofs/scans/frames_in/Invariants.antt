use Rattle.std.proofs.Common.{◌≡◌, ◌<◌, true, None, length, ◌-◌, drop}
use Rattle.std.specs.Prelude.{IfSome}
use Rattle.bufr_frame.specs.declared.places.TheConstants.{LONGEST}
use Rattle.bufr_frame.specs.declared.places.Start.TheVariants.{Frame, Open}
use Rattle.bufr_frame.specs.Starts.{start_of}
use Rattle.bufr_frame.proofs.ScanLaws.{Scanned}
use Rattle.bufr_frame.proofs.scans.frames_in.Given as goal

-- the frames found and those from here on are all; here is a frame, an open place, or the end
abbrev pub invariant-loop-next : goal.invariant-loop-next
invariant-loop-next l =
    Scanned l.ended l.place l.octets l.frames.items l.next.place
    × IfSome l.next.length (λ n. start_of (drop l.next.place l.octets) ≡ Frame n)
    × (l.next.length ≡ None → start_of (drop l.next.place l.octets) ≡ Open)
    × (l.next.length ≡ None → l.ended ≡ true → l.next.place ≡ length l.octets)
    × (l.next.length ≡ None → length (drop l.next.place l.octets) < LONGEST)

abbrev pub decreases-loop-next : goal.decreases-loop-next
decreases-loop-next l = length l.octets - l.next.place

-- Frame by frame, an archive adds messages since some state: for `take_frame` and `add_streams`,
-- and so for `run_add`.
use Rattle.std.proofs.Common.{◌≡◌, ◌+◌, ◌^◌, ◌<◌, ◌≤◌, List, [], ◌∷◌, ◌++◌}
use Rattle.std.proofs.Common.{sym, subst, arith, length-append, append_assoc}
use Rattle.std.proofs.lemmas.List.{append-nil}
use Rattle.bufr_tables.specs.Entries.{Entries}
use Rattle.bufr_frame.specs.declared.frames.Found.{Found}
use Rattle.bufr_gather.specs.Archives.{ArchiveView}
use Rattle.bufr_engines.specs.declared.streams.FrameCounts.{FrameCounts}
use Rattle.bufr_engines.specs.Adds.{HasAdded, HasAddedSince}

pub since_none : (archive : ArchiveView) (counts : FrameCounts) → counts.frames < 2 ^ 127
    → counts.refused ≤ counts.frames → HasAddedSince archive counts archive counts []
since_none archive counts few refused = record {
  few = few;
  counted = omega arith;
  refused = refused;
  added = λ tables before h. subst (HasAdded tables archive counts) (sym (append-nil before)) h;
}

pub since_more : (first archive archive' : ArchiveView) (start counts counts' : FrameCounts)
    (frames : List Found) (frame : Found) → HasAddedSince first start archive counts frames
    → counts'.frames ≡ counts.frames + 1 → counts'.refused ≤ counts.refused + 1
    → ((tables : Entries) (fs : List Found) → HasAdded tables archive counts fs
    → HasAdded tables archive' counts' (fs ++ frame ∷ []))
    → HasAddedSince first start archive' counts' (frames ++ frame ∷ [])
since_more first archive archive' start counts counts' frames frame h one most adds =
    let long = length-append frames (frame ∷ []) in
    let counted = h.counted in
    let refused = h.refused in
    record {
      few = h.few;
      counted = omega arith;
      refused = omega arith;
      added =
          λ tables before b. subst (HasAdded tables archive' counts')
          (append_assoc before frames (frame ∷ []))
          (adds tables (before ++ frames) (h.added tables before b));
    }

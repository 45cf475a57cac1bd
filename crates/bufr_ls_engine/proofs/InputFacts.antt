-- What listing an input comes to at each of its ends: the contract of `list_input`.
use Rattle.std.proofs.Common.{◌≡◌, ℕ, ◌^◌, ◌≤◌, Bool, true, false, List, [], length, Result, Ok}
use Rattle.std.proofs.Common.{Err}
use Rattle.std.proofs.Common.{sym, ap, ◌∙◌, arith}
use Rattle.bufr_bits.specs.Devices.{Reading, Writing}
use Rattle.bufr_frame.specs.FrameBounds.{cut_few}
use Rattle.bufr_frame.specs.Streams.{cut, sure}
use Rattle.bufr_io.specs.declared.fault.Input.TheVariants.{Number}
use Rattle.bufr_io.specs.declared.fault.ToolFault.{ToolFault}
use Rattle.bufr_io.specs.declared.fault.ToolFault.TheVariants as faults
use Rattle.bufr_io.specs.declared.input.Pieces.{Pieces}
use Rattle.bufr_io.specs.declared.held_rows.HeldRows.{HeldRows}
use Rattle.bufr_io.specs.HeldTexts.{WritesHeld}
use Rattle.bufr_io.specs.Engines.{AreAllOf, HasGiven, WasReadOut}
use Rattle.bufr_io.specs.Inputs.{ReadsOn}
use Rattle.bufr_io.specs.Taking.{EndsEarly, unread, at_piece, at_end}
use Rattle.bufr_io.specs.Reached.{frames_by}
use Rattle.bufr_ls_engine.specs.Listers.{HasListed, ListsInput, StopsListing}
use Rattle.bufr_ls_engine.specs.declared.lister.Lister.{Lister}
use Rattle.bufr_ls_engine.proofs.ListingFacts.{all_counted, all_written, listing_stopped}
use Rattle.bufr_ls_engine.proofs.ListingFacts.{none_held, stops_further, unwritten}

-- no piece came after these octets, and no row waits
input_unread : (reads : ℕ) (old new : Reading) (pieces : Pieces) (read : List ℕ) (first p' : Lister)
    (begin : Writing) (now : Writing) (e : ToolFault)
    → HasListed first begin p' now (sure read) → p'.rows.held.items ≡ []
    → ReadsOn (Number first.input) reads old new pieces read (Err e)
    → ListsInput reads first p' old new begin now (Err e)
input_unread reads old new pieces read first p' begin now (faults.ReadFailed which) h none r =
    (r.0, r.1, read, r.2, none_held first begin p' now (sure read) h none)
input_unread reads old new pieces read first p' begin now (faults.EndlessInput which) h none r =
    (r.0, r.1, read, r.2, none_held first begin p' now (sure read) h none)
input_unread reads old new pieces read first p' begin now e h none r = absurd r

-- listing stopped among the frames that were found in what was read
input_stopped : (reads : ℕ) (old new : Reading) (read : List ℕ) (ended : Bool) (first p' : Lister)
    (begin now : Writing) (e : ToolFault) → new.failed ≡ false → HasGiven old new read
    → new.met_end ≡ ended → (ended ≡ true → AreAllOf old read)
    → StopsListing first.columns.now first.input first.rows.written (frames_by ended read) begin now e
    → ListsInput reads first p' old new begin now (Err e)
input_stopped reads old new read ended first p' begin now (faults.ReadFailed which) works given is all s =
    absurd s
input_stopped reads old new read ended first p' begin now (faults.EndlessInput which) works given is
    all s =
    absurd s
input_stopped reads old new read ended first p' begin now (faults.WriteFailed n) works given is all s = (
  frames_by ended read,
  (works, read, given, (λ met. all (sym is ∙ met)), ap (λ b. frames_by b read) (sym is)),
  s,
)
input_stopped reads old new read ended first p' begin now faults.OutOfMemory works given is all s = (
  frames_by ended read,
  (works, read, given, (λ met. all (sym is ∙ met)), ap (λ b. frames_by b read) (sym is)),
  s,
)
input_stopped reads old new read ended first p' begin now e works given is all s = absurd s

-- an open end is no end
not_ended : (P : Type 0) → false ≡ true → P
not_ended P is = cc

-- an input that was not taken in to its end
pub input_early : (reads : ℕ) (old new : Reading) (first p' : Lister) (begin now : Writing)
    (e : ToolFault)
    → EndsEarly (HasListed first begin p' now) (p'.rows.held.items ≡ [])
    (λ frames fault. StopsListing first.columns.now first.input first.rows.written frames begin now fault)
    (Number first.input) reads old new e
    → ListsInput reads first p' old new begin now (Err e)
input_early reads old new first p' begin now e (unread pieces read r h none) =
    input_unread reads old new pieces read first p' begin now e h none r
input_early reads old new first p' begin now e (at_piece read count on s) =
    input_stopped reads old new read false first p' begin now e on.works on.so_far on.met_end
    (not_ended (AreAllOf old read))
    (stops_further first.columns.now first.input first.rows.written s.front s.rest (sure read) begin now e
    s.parted s.stopped)
input_early reads old new first p' begin now e (at_end stream out all given s) =
    input_stopped reads old new stream true first p' begin now e out.works given out.met_end
    (λ met. all)
    (stops_further first.columns.now first.input first.rows.written s.front s.rest (cut stream) begin now
    e s.parted s.stopped)

-- an input came to its end, and the writer takes the rows that wait
pub input_whole : (reads : ℕ) (old new : Reading) (first p : Lister) (r : HeldRows)
    (begin mid now : Writing) (stream : List ℕ) (result : Result (Unit {0}) ToolFault)
    → WasReadOut new → AreAllOf old stream
    → HasGiven old new stream → HasListed first begin p mid (cut stream)
    → length stream ≤ 2 ^ 48 → WritesHeld p.rows r mid now result
    → ListsInput reads first (record p { rows = r }) old new begin now result
input_whole reads old new first p r begin mid now stream (Ok done) out all given h long w = (
  out,
  stream,
  all,
  record {
    written = all_written first begin p mid now (cut stream) h w.0;
    counted = all_counted first begin p r mid (cut stream) h w.2;
    held = w.1;
    columns = h.columns_are;
    frames = h.frames_are;
    refused = h.refused_are;
    few = omega (arith, cut_few stream, long);
  },
)
input_whole reads old new first p r begin mid now stream (Err e) out all given h long w =
    input_stopped reads old new stream true first (record p { rows = r }) begin now e out.works given
    out.met_end
    (λ met. all)
    (listing_stopped first begin p mid now (cut stream) e h (unwritten p r mid now e w))

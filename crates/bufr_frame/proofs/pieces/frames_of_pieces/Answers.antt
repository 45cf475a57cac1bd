-- After each piece the frames found are the sure ones, at the end those of the cut.
use Rattle.std.proofs.Common.{ℕ, List, [], length, take, get_or, sym, ap, ◌∙◌, subst, arith, Bor}
use Rattle.std.specs.List.{flat_map}
use Rattle.std.proofs.lemmas.List.{take_all}
use Rattle.std.proofs.lemmas.List.Folds.{length-flat_map-take}
use Rattle.bufr_frame.specs.Streams.{cut, sure, Stands}
use Rattle.bufr_frame.proofs.PieceLaws.{handed_more, handed_all, joined_more}
use Rattle.bufr_frame.proofs.pieces.frames_of_pieces.Goals as goal

abbrev octets_of : Bor (List ℕ) → List ℕ
octets_of piece = piece.now

abbrev no_piece : Bor (List ℕ)
no_piece = record { ref_ptr = (0, 0); now = [] }

pub feed-requires : goal.feed-requires
feed-requires c =
    let all =
    length-flat_map-take octets_of c.args.pieces.now c.loop-piece.piece-index no_piece
    c.loop-piece-test.true in
    let fed = c.loop-piece.invariant.stands.fed in
    let room = c.requires in
    omega (arith, all, fed, room)

pub loop-piece-preserved : goal.loop-piece-preserved
loop-piece-preserved c =
    let before = flat_map octets_of (take c.loop-piece.piece-index c.args.pieces.now) in
    let piece = (get_or c.args.pieces.now c.loop-piece.piece-index no_piece).now in
    let more =
    joined_more octets_of c.args.pieces.now c.loop-piece.piece-index no_piece
    c.loop-piece-test.true in
    let stands = c.loop-piece.invariant.stands in
    record {
      stands =
          subst (λ s. Stands c.feed.new.self s (length (sure s))) (sym more)
          (c.in_ok-found.ensures.next before (length (sure before)) stands);
      frames_are =
          c.in_ok-append.ensures.items
          ∙ handed_more before piece c.loop-piece.frames.items c.in_ok-found.found.items
          c.loop-piece.invariant.frames_are
          (c.in_ok-found.ensures.found before (length (sure before)) stands) ∙ ap sure (sym more);
    }

pub returns : goal.returns
returns c =
    let pieces = c.args.pieces.now in
    let before = flat_map octets_of (take c.loop-piece.piece-index pieces) in
    let whole =
    ap (flat_map octets_of)
    (take_all c.loop-piece.piece-index pieces c.loop-piece-test.false) in
    c.in_ok-append-2.ensures.items
    ∙ handed_all before c.loop-piece.frames.items c.in_ok-last.last.items
    c.loop-piece.invariant.frames_are
    (c.in_ok-last.ensures.found before (length (sure before)) c.loop-piece.invariant.stands)
    ∙ ap cut whole

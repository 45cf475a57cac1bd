-- Where `reach` stops, the frame is the next sure one, and the octets held are those that the
-- framer must hold.
use Rattle.std.proofs.Common.{◌≡◌, ℕ, ◌+◌, ◌-◌, ◌≤◌, List, length, drop, take, refl, ap, ◌∙◌, subst}
use Rattle.std.proofs.Common.{arith, rules}
use Rattle.bufr_frame.specs.declared.frames.Found.{Found}
use Rattle.bufr_frame.specs.Streams.{rest_from}
use Rattle.bufr_frame.proofs.ReachLaws.{answers_held, answers_piece, answers_none, piece_room}
use Rattle.bufr_frame.proofs.ReachLaws.{rest_here}
use Rattle.bufr_frame.proofs.reaching.reach_and_copy.Goals as goal

pub overflow_add-taken : goal.overflow_add-taken
overflow_add-taken c =
    let piece = c.args.piece.now in
    let room =
    piece_room _ c.reach.new.octets.items piece c.in_ok-from.field-0 c.in-Piece.skip
    c.in-Piece.length c.in_ok-from.ensures.reached c.in-Piece.is in
    let all = c.requires.room in
    search (rules, room, all)

pub slice_bounds-copied-end-in-Piece : goal.slice_bounds-copied-end-in-Piece
slice_bounds-copied-end-in-Piece c =
    let piece = c.args.piece.now in
    let room =
    piece_room _ c.reach.new.octets.items piece c.in_ok-from.field-0 c.in-Piece.skip
    c.in-Piece.length c.in_ok-from.ensures.reached c.in-Piece.is in
    search (rules, room)

pub returns-in_ok-found-in-Held-clause-taken : goal.returns-in_ok-found-in-Held-clause-taken
returns-in_ok-found-in-Held-clause-taken c =
    let kept = c.reach.new.octets.items in
    let r = c.in_ok-from.field-0 in
    let l = c.in-Held.length in
    let next = c.next_start-next.ensures in
    let place = c.next_start-next.result.place in
    let same = c.deref-in-Held.ensures.value in
    let held_on : drop place c.deref-in-Held.result.now ≡ drop place kept = ap (drop place) same in
    let passed : rest_from 0 0 (drop (r.from + l) kept) ≡ rest_from 0 0 (drop place kept) =
    subst (λ t. rest_from 0 0 (drop (r.from + l) t) ≡ rest_from 0 0 (drop place t)) same
    (next.rest refl 0) in
    let here : rest_from 0 0 (drop place kept) ≡ drop place kept =
    subst (λ t. rest_from 0 0 (drop place t) ≡ drop place t) same
    (rest_here c.next_start-next.result.length
    (drop place c.deref-in-Held.result.now) next.frame next.open) in
    let begins = c.args.fed + r.taken in
    let one : (r.from + l) - r.from ≡ l = omega arith in
    let size : c.len.result ≡ length kept = omega (arith, c.len.ensures, c.reach.new.octets.ok.0) in
    let frame : c.in_ok-found-in-Held.found
    ≡ record { place = begins - (length kept - r.from); bytes = take l (drop r.from kept) } =
    c.in_ok-found-in-Held.ensures
    ∙ ap (λ (n : ℕ). let f : Found =
    record {
      place = begins - (n - r.from);
      bytes = take ((r.from + l) - r.from)
          (drop r.from c.deref.result.now);
    } in f) size
    ∙ ap (λ (n : ℕ). let f : Found =
    record {
      place = begins - (length kept - r.from);
      bytes = take n
          (drop r.from c.deref.result.now);
    } in f) one
    ∙ ap (λ (t : List ℕ). let f : Found =
    record { place = begins - (length kept - r.from); bytes = take l (drop r.from t) } in
    f) c.deref.ensures.value in
    answers_held c.args.fed _ kept c.let_go-from.new.octets.items c.args.piece.now r l place
    c.let_go-from.result c.in_ok-found-in-Held.found
    c.requires.taken c.in_ok-from.ensures.reached c.in-Held.is next.after
    (subst (λ t. place ≤ length t) same next.within) passed here
    c.let_go-from.ensures.held c.let_go-from.ensures.within c.let_go-from.ensures.half frame

pub returns-in_ok-found-in-Piece-clause-taken : goal.returns-in_ok-found-in-Piece-clause-taken
returns-in_ok-found-in-Piece-clause-taken c =
    let kept = c.reach.new.octets.items in
    let r = c.in_ok-from.field-0 in
    let piece = c.args.piece.now in
    let at = r.taken + c.in-Piece.skip in
    let l = c.in-Piece.length in
    let one : (at + l) - at ≡ l = omega arith in
    let frame : c.in_ok-found-in-Piece.found
    ≡ record { place = c.args.fed + at; bytes = take l (drop at piece) } =
    c.in_ok-found-in-Piece.ensures
    ∙ ap (λ (n : ℕ). let f : Found =
    record { place = c.args.fed + at; bytes = take n (drop at piece) } in f) one in
    answers_piece c.args.fed _ kept c.let_go-from-in-Piece.new.octets.items c.args.piece.now r
    c.in-Piece.skip c.in-Piece.length c.let_go-from-in-Piece.result c.in_ok-found-in-Piece.found
    c.requires.taken c.in_ok-from.ensures.reached c.in-Piece.is
    c.let_go-from-in-Piece.ensures.held c.let_go-from-in-Piece.ensures.within
    c.let_go-from-in-Piece.ensures.half frame

pub returns-in-Nowhere-clause-taken : goal.returns-in-Nowhere-clause-taken
returns-in-Nowhere-clause-taken c =
    answers_none c.args.fed _ c.reach.new.octets.items c.let_go-from-in-Nowhere.new.octets.items
    c.args.piece.now c.in_ok-from.field-0 c.let_go-from-in-Nowhere.result
    c.in_ok-from.ensures.reached c.in-Nowhere.is
    c.let_go-from-in-Nowhere.ensures.held c.let_go-from-in-Nowhere.ensures.within
    c.let_go-from-in-Nowhere.ensures.half

-- A merge of lists in order puts all pairs of one into the other.
use Rattle.std.proofs.Common.{◌≡◌, ◌∙◌, ◌++◌, [], reverse, sym, ap}
use Rattle.std.proofs.lemmas.List.{append-nil}
use Rattle.std.proofs.lemmas.Cmp.{on_total}
use Rattle.std.specs.Option.{option_to_list}
use Rattle.bufr_entries.specs.Merging.{merged}
use Rattle.bufr_shelves.specs.Pairs.{by_key, by_value}
use Rattle.bufr_shelves.proofs.PairLemmas.{if-none}
use Rattle.bufr_shelves.proofs.SortedLemmas.{merged-put_all, sorted-pairs}
use Rattle.bufr_shelves.proofs.sorted_shelf.merge.merge.Goals as goal

pub returns : goal.returns
returns g c =
    let slot = by_key g.K.Ord.cmp in let rank = by_value g.V.Ord.cmp in
    let room = c.loop-pair.room.items in
    let done = if-none c.take_lesser.result _ c.in_default.is c.take_lesser.ensures.done in
    let empty : merged slot rank (reverse c.loop-pair.left.items)
    (reverse c.loop-pair.right.items) ≡ [] =
    c.take_lesser.ensures.taken
    ∙ ap (λ r. option_to_list r ++ merged slot rank (reverse c.take_lesser.new.left.items)
    (reverse c.take_lesser.new.right.items)) c.in_default.is
    ∙ ap (λ xs. merged slot rank (reverse xs) (reverse c.take_lesser.new.right.items)) done.0
    ∙ ap (λ xs. merged slot rank [] (reverse xs)) done.1 in
    sym (append-nil room) ∙ ap (λ xs. room ++ xs) (sym empty) ∙ c.loop-pair.invariant.1
    ∙ merged-put_all slot rank (on_total (λ p. p.0) g.met.K.Ord.total) c.args.left.now.items
    c.args.right.items (sorted-pairs g.K.Ord.cmp c.args.right.items c.requires.sorted)

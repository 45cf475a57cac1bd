-- By cases of the order of the first entries.
use Rattle.std.proofs.Common.{◌≡◌, drop, ◌∙◌}
use Rattle.std.specs.Option.{option_map}
use Rattle.bufr_gather.specs.ArchiveTexts.{known, order_of_firsts}
use Rattle.bufr_gather.proofs.TextMergeFacts.{nothing_right, nothing_left_of, both_there}
use Rattle.bufr_gather.proofs.TextMergeFacts.{behind_in_order, none_taken, left_taken, right_taken, both_taken}
use Rattle.bufr_gather.proofs.merging_texts.take_first.Goals as goal
use Rattle.bufr_gather.proofs.merging_texts.take_first.Goals.{in_default-None, in-None-Some}
use Rattle.bufr_gather.proofs.merging_texts.take_first.Goals.{in-Some-Some}

pub returns-in_default : goal.returns-in_default
returns-in_default c =
    let told : order_of_firsts (option_map known c.args.left.now.first)
    (option_map known c.args.right.now.first) ≡ c.match-right.order =
    elim c.match-right.branch [
      | in_default-None w ↦ nothing_right c.args.left.now.first c.args.right.now.first
          c.match-right.order w.in_default-None.is-1 w.order-is
      | in-None-Some w ↦ nothing_left_of c.args.left.now.first c.args.right.now.first _
          c.match-right.order w.in-None-Some.is-0 w.in-None-Some.is-1 w.order-is
      | in-Some-Some w ↦ both_there c.args.left.now.first c.args.right.now.first _ _
          c.match-right.order w.in-Some-Some.is-0 w.in-Some-Some.is-1
          (w.order-is ∙ w.slot_order-order.ensures)
    ] in
    λ tables es fs l r.
    none_taken tables es fs c.args.left.now c.args.right.now l r (told ∙ c.in-Less.is)
    c.in_default.is

pub returns-in-Some : goal.returns-in-Some
returns-in-Some c =
    let told : order_of_firsts (option_map known c.args.left.now.first)
    (option_map known c.args.right.now.first) ≡ c.match-right.order =
    elim c.match-right.branch [
      | in_default-None w ↦ nothing_right c.args.left.now.first c.args.right.now.first
          c.match-right.order w.in_default-None.is-1 w.order-is
      | in-None-Some w ↦ nothing_left_of c.args.left.now.first c.args.right.now.first _
          c.match-right.order w.in-None-Some.is-0 w.in-None-Some.is-1 w.order-is
      | in-Some-Some w ↦ both_there c.args.left.now.first c.args.right.now.first _ _
          c.match-right.order w.in-Some-Some.is-0 w.in-Some-Some.is-1
          (w.order-is ∙ w.slot_order-order.ensures)
    ] in
    λ tables es fs l r.
    left_taken tables es fs c.args.left.now c.of_text.result
    c.args.right.now _ l r (told ∙ c.in-Less.is) c.in-Some.is
    (c.of_text.ensures tables (drop 1 es) (behind_in_order tables es l.in_order) l.marked l.behind)

pub returns-in-Greater : goal.returns-in-Greater
returns-in-Greater c =
    let told : order_of_firsts (option_map known c.args.left.now.first)
    (option_map known c.args.right.now.first) ≡ c.match-right.order =
    elim c.match-right.branch [
      | in_default-None w ↦ nothing_right c.args.left.now.first c.args.right.now.first
          c.match-right.order w.in_default-None.is-1 w.order-is
      | in-None-Some w ↦ nothing_left_of c.args.left.now.first c.args.right.now.first _
          c.match-right.order w.in-None-Some.is-0 w.in-None-Some.is-1 w.order-is
      | in-Some-Some w ↦ both_there c.args.left.now.first c.args.right.now.first _ _
          c.match-right.order w.in-Some-Some.is-0 w.in-Some-Some.is-1
          (w.order-is ∙ w.slot_order-order.ensures)
    ] in
    λ tables es fs l r.
    right_taken tables es fs c.args.left.now c.args.right.now
    c.of_text-in-Greater.result l r (told ∙ c.in-Greater.is)
    (c.of_text-in-Greater.ensures tables (drop 1 fs) (behind_in_order tables fs r.in_order) r.marked
    r.behind)

pub returns-in-Equal : goal.returns-in-Equal
returns-in-Equal c =
    let told : order_of_firsts (option_map known c.args.left.now.first)
    (option_map known c.args.right.now.first) ≡ c.match-right.order =
    elim c.match-right.branch [
      | in_default-None w ↦ nothing_right c.args.left.now.first c.args.right.now.first
          c.match-right.order w.in_default-None.is-1 w.order-is
      | in-None-Some w ↦ nothing_left_of c.args.left.now.first c.args.right.now.first _
          c.match-right.order w.in-None-Some.is-0 w.in-None-Some.is-1 w.order-is
      | in-Some-Some w ↦ both_there c.args.left.now.first c.args.right.now.first _ _
          c.match-right.order w.in-Some-Some.is-0 w.in-Some-Some.is-1
          (w.order-is ∙ w.slot_order-order.ensures)
    ] in
    λ tables es fs l r.
    both_taken tables es fs c.args.left.now c.of_text-in-Equal.result
    c.args.right.now c.of_text-in-Equal-2.result c.greater_of-origin.result l r
    (told ∙ c.in-Equal.is) c.greater_of-origin.ensures
    (c.of_text-in-Equal.ensures tables (drop 1 es) (behind_in_order tables es l.in_order) l.marked
    l.behind)
    (c.of_text-in-Equal-2.ensures tables (drop 1 fs) (behind_in_order tables fs r.in_order) r.marked
    r.behind)

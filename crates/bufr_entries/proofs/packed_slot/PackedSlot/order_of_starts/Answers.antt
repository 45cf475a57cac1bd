-- Fronts that decide an order agree with the slots.
use Rattle.std.proofs.Common.{◌≡◌, ◌∙◌, Option, Some, None, refl, ap}
use Rattle.std.specs.Option.{option_map}
use Rattle.std.specs.Ordering.{ordering_then}
use Rattle.std.specs.declared.cmp.Ordering.{Ordering}
use Rattle.std.specs.declared.cmp.Ordering.TheVariants.{Less, Greater}
use Rattle.bufr_entries.specs.DerivedOrders.{keys_are}
use Rattle.bufr_entries.specs.declared.key.Key.{Key}
use Rattle.bufr_entries.specs.Entries.{slot_by}
use Rattle.bufr_entries.specs.Fronts.{front_cmp, front_of_key}
use Rattle.bufr_entries.specs.FrontLaws.{order_of_starts}
use Rattle.bufr_entries.specs.declared.key_start.KeyStart.{KeyStart}
use Rattle.bufr_entries.proofs.packed_slot.PackedSlot.order_of_starts.Goals as goal

told_slots : (a b : Option Key) (f g : KeyStart) (o : Ordering)
    → option_map front_of_key a ≡ Some f → option_map front_of_key b ≡ Some g
    → ((p : Ordering) → ordering_then o p ≡ o) → o ≡ front_cmp f g
    → (by_octets : Ordering) → o ≡ slot_by a b by_octets
told_slots None b f g o p q ends is by_octets = cc
told_slots (Some k) None f g o p q ends is by_octets = cc
told_slots (Some k) (Some l) f g o p q ends is by_octets =
    let one : f ≡ front_of_key k = cc in
    let two : g ≡ front_of_key l = cc in
    order_of_starts k l o (ends _)
    (is ∙ ap (λ z. front_cmp z g) one ∙ ap (front_cmp (front_of_key k)) two)
    ∙ keys_are k l

pub returns-in-Less : goal.returns-in-Less
returns-in-Less c =
    told_slots c.args.self.now.key c.args.other.now.key c.in-Some-Some.front
    c.in-Some-Some.other_front Less c.in-Some-Some.ensures c.in-Some-Some.ensures' (λ p. refl)
    c.in-Less.ensures

pub returns-in-Greater : goal.returns-in-Greater
returns-in-Greater c =
    told_slots c.args.self.now.key c.args.other.now.key c.in-Some-Some.front
    c.in-Some-Some.other_front Greater c.in-Some-Some.ensures c.in-Some-Some.ensures' (λ p. refl)
    c.in-Greater.ensures

-- Laws of writing several texts to one sink, for `write_all` and for all who write a message in
-- pieces.
use Rattle.std.proofs.Common.{◌≡◌, ℕ, List, [], ◌++◌, Option, Some, None, sym, ap, ◌∙◌}
use Rattle.std.proofs.Common.{append_assoc}
use Rattle.std.specs.Prelude.{IfSome}
use Rattle.std.proofs.lemmas.List.{append-nil}
use Rattle.bufr_bits.specs.Devices.{Writing, Kept, Writes}

-- a sink that took nothing has written the empty text
pub Writes-nothing : (w : Writing) → Writes w w []
Writes-nothing w = elim w.taken as (λ t. IfSome t (λ before. t ≡ Some (before ++ []))) [
  | None ↦ tt
  | Some before ↦ ap Some (sym (append-nil before))
]

-- two texts taken in turn are their concatenation, if the sink says what it took
after : (a b c : Option (List ℕ)) (xs ys : List ℕ)
    → IfSome a (λ before. b ≡ Some (before ++ xs)) → IfSome b (λ before. c ≡ Some (before ++ ys))
    → IfSome a (λ before. c ≡ Some (before ++ (xs ++ ys)))
after None b c xs ys h k = tt
after (Some all) None c xs ys h k = cc
after (Some all) (Some more) c xs ys h k =
    let e : more ≡ all ++ xs = cc in
    k ∙ ap (λ zs. Some (zs ++ ys)) e ∙ ap Some (append_assoc all xs ys)

-- octets kept after a text change nothing
still : (a b c : Option (List ℕ)) (xs : List ℕ)
    → IfSome a (λ before. b ≡ Some (before ++ xs)) → IfSome b (λ octets. c ≡ Some octets)
    → IfSome a (λ before. c ≡ Some (before ++ xs))
still None b c xs h k = tt
still (Some all) None c xs h k = cc
still (Some all) (Some more) c xs h k = k ∙ h

-- two texts written in turn are one text
pub Writes-more : (first middle last : Writing) (xs ys : List ℕ)
    → Writes first middle xs → Writes middle last ys → Writes first last (xs ++ ys)
Writes-more first middle last xs ys = after first.taken middle.taken last.taken xs ys

-- a text stays written if the sink keeps what it has
pub Writes-kept : (first middle last : Writing) (xs : List ℕ)
    → Writes first middle xs → Kept middle.taken last.taken → Writes first last xs
Writes-kept first middle last xs = still first.taken middle.taken last.taken xs

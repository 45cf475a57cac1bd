-- What a read adds to the octets read before: for `next` and `read_all`.
use Rattle.std.proofs.Common.{◌≡◌, ℕ, ◌+◌, ◌<◌, ◌≤◌, false, nat_eq, Option, Some, None, Ok, Err}
use Rattle.std.proofs.Common.{List, [], ◌∷◌, ◌++◌, length, take, drop, subst, refl, sym, ◌∙◌, ap}
use Rattle.std.proofs.Common.{arith, IfSome, append_assoc, length-append}
use Rattle.std.proofs.lemmas.List.{take-append-drop, append-nil}
use Rattle.std.proofs.lemmas.Bool.Decides.{nat_tests}
use Rattle.bufr_bits.specs.Devices.{Reading, Gave, FailedRead}
use Rattle.bufr_io.specs.declared.fault.Input.{Input}
use Rattle.bufr_io.specs.declared.fault.ToolFault.{ToolFault}
use Rattle.bufr_io.specs.declared.fault.ToolFault.TheVariants as faults
use Rattle.bufr_io.specs.declared.input.Pieces.{Pieces}
use Rattle.bufr_io.specs.Engines.{WasReadOut, HasGiven, AreAllOf}
use Rattle.bufr_io.specs.Inputs.{GoesOn, HasRead, ReadsAll, ReadsOn}
use Rattle.bufr_io.specs.Limits.{longest_piece}

given_more : (old mid new : Option (List ℕ)) (octets given : List ℕ)
    → IfSome old (λ all. (rest : List ℕ) × (all ≡ octets ++ rest) × (mid ≡ Some rest))
    → IfSome mid (λ all. given ≡ take (length given) all)
    → IfSome mid (λ all. new ≡ Some (drop (length given) all))
    → IfSome old (λ all. (rest : List ℕ) × (all ≡ (octets ++ given) ++ rest) × (new ≡ Some rest))
given_more None mid new octets given so_far first rest = tt
given_more (Some all) mid new octets given so_far first rest =
    let left = so_far.0 in
    let front : given ≡ take (length given) left = rw so_far.2 at first in
    let back : new ≡ Some (drop (length given) left) = rw so_far.2 at rest in
    let parts : given ++ drop (length given) left ≡ left =
    ap (λ x. x ++ drop (length given) left) front ∙ take-append-drop (length given) left in (
      drop (length given) left,
      so_far.1 ∙ ap (λ x. octets ++ x) (sym parts)
          ∙ sym (append_assoc octets given (drop (length given) left)),
      back,
    )

HasGiven_more : (old mid new : Reading) (octets given : List ℕ) → HasGiven old mid octets
    → Gave mid new given → length given ≡ 0 → HasGiven old new octets
HasGiven_more old mid new octets [] so_far gave none =
    let more = given_more old.left mid.left new.left octets [] so_far gave.first gave.rest in
    subst (HasGiven old new) (append-nil octets) more
HasGiven_more old mid new octets (x ∷ xs) so_far gave none = absurd (omega arith)

not_zero : (n : ℕ) → 0 < n → nat_eq n 0 ≡ false
not_zero n some = grind (arith, nat_tests)

GoesOn_more : (old mid new : Reading) (octets given : List ℕ) (count : ℕ)
    → GoesOn old mid octets count → Gave mid new given → 0 < length given
    → GoesOn old new (octets ++ given) (count + 1)
GoesOn_more old mid new octets given count so_far gave some = record {
  so_far = given_more old.left mid.left new.left octets given so_far.so_far gave.first gave.rest;
  works = gave.works;
  reads = gave.reads ∙ ap (λ n. n + 1) so_far.reads;
  met_end = gave.met_end ∙ rw (so_far.met_end, not_zero (length given) some) refl;
}

left_end : (old mid : Option (List ℕ)) (octets : List ℕ)
    → IfSome old (λ all. (rest : List ℕ) × (all ≡ octets ++ rest) × (mid ≡ Some rest))
    → IfSome mid (λ rest. rest ≡ [])
    → IfSome old (λ all. all ≡ octets)
left_end None mid octets so_far none = tt
left_end (Some all) mid octets so_far none =
    let end : so_far.0 ≡ [] = rw so_far.2 at none in
    so_far.1 ∙ ap (λ x. octets ++ x) end ∙ append-nil octets

GoesOn_ends : (old mid new : Reading) (octets given : List ℕ) (count : ℕ)
    → GoesOn old mid octets count → Gave mid new given → length given ≡ 0
    → WasReadOut new × AreAllOf old octets
GoesOn_ends old mid new octets given count so_far gave none = (
  record { works = gave.works; met_end = gave.met_end ∙ rw (so_far.met_end, none) refl },
  left_end old.left mid.left octets so_far.so_far (gave.at_end none),
)

-- ---- read by read

given_kept : (old mid new : Option (List ℕ)) (read : List ℕ)
    → IfSome old (λ all. (rest : List ℕ) × (all ≡ read ++ rest) × (mid ≡ Some rest))
    → IfSome mid (λ octets. new ≡ Some octets)
    → IfSome old (λ all. (rest : List ℕ) × (all ≡ read ++ rest) × (new ≡ Some rest))
given_kept None mid new read so_far kept = tt
given_kept (Some all) mid new read so_far kept =
    (so_far.0, so_far.1, (let h = rw so_far.2 at kept in h))

pub reads_endless : (name : Input) (most : ℕ) (first now : Reading) (pieces : Pieces)
    (octets : List ℕ) → HasRead name most first now pieces octets → pieces.most ≤ pieces.made
    → ReadsOn name most first now pieces octets (Err (faults.EndlessInput pieces.name))
reads_endless name most first now pieces octets h all =
    let allowed = h.allowed in
    let most_is = h.most_is in
    let made : pieces.made ≡ most = omega arith in (
      h.name_is,
      record {
        reads = h.goes_on.reads ∙ made;
        works = h.goes_on.works;
        met_end = h.goes_on.met_end;
      },
      h.goes_on.so_far,
    )

pub reads_failed : (name : Input) (most : ℕ) (first mid now : Reading) (pieces after : Pieces)
    (octets : List ℕ) → HasRead name most first mid pieces octets → pieces.made < pieces.most
    → FailedRead mid now
    → ReadsOn name most first now after octets (Err (faults.ReadFailed pieces.name))
reads_failed name most first mid now pieces after octets h few f =
    let most_is = h.most_is in
    let before = h.goes_on.reads in
    let more = f.reads in (
      h.name_is,
      f.failed,
      given_kept first.left mid.left now.left octets h.goes_on.so_far f.left,
      omega arith,
    )

pub reads_ends : (name : Input) (most : ℕ) (first mid now : Reading) (pieces : Pieces)
    (octets given : List ℕ) → HasRead name most first mid pieces octets
    → pieces.made < pieces.most → Gave mid now given → length given ≡ 0
    → ReadsOn name most first now (record pieces { made = pieces.made + 1 }) octets (Ok None)
reads_ends name most first mid now pieces octets given h few gave none =
    let most_is = h.most_is in
    let before = h.goes_on.reads in
    let more = gave.reads in
    let ends = GoesOn_ends first mid now octets given pieces.made h.goes_on gave none in (
      ends.0,
      ends.1,
      HasGiven_more first mid now octets given h.goes_on.so_far gave none,
      omega arith,
      omega arith,
    )

pub reads_more : (name : Input) (most : ℕ) (first mid now : Reading) (pieces : Pieces)
    (octets given : List ℕ) → HasRead name most first mid pieces octets
    → pieces.made < pieces.most → Gave mid now given → 0 < length given
    → length given ≤ longest_piece
    → HasRead name most first now (record pieces { made = pieces.made + 1 }) (octets ++ given)
    × (0 < length given)
reads_more name most first mid now pieces octets given h few gave some room =
    let most_is = h.most_is in
    let short = h.short in
    let whole = length-append octets given in (
      record {
        goes_on = GoesOn_more first mid now octets given pieces.made h.goes_on gave some;
        short = omega arith;
        allowed = omega arith;
        most_is = h.most_is;
        name_is = h.name_is;
      },
      some,
    )

pub no_more : (name : Input) (most : ℕ) (old new : Reading) (pieces : Pieces) (octets : List ℕ)
    (e : ToolFault) → ReadsOn name most old new pieces octets (Err e)
    → ReadsAll name most old new (Err e)
no_more name most old new pieces octets (faults.ReadFailed which) r = (r.0, r.1)
no_more name most old new pieces octets (faults.EndlessInput which) r = (r.0, r.1)
no_more name most old new pieces octets e r = absurd r

-- Laws of writing one text after another.
use Rattle.std.proofs.Common.{◌≡◌, ℕ, ◌+◌, Option, Some, None, List, [], ◌++◌, length, take, false}
use Rattle.std.proofs.Common.{sym, ap, ◌∙◌, subst, arith, IfSome, length-append, append_assoc}
use Rattle.std.proofs.lemmas.List.{append-nil, take-append-le}
use Rattle.std.proofs.Math.Seq.{take-append-add}
use Rattle.bufr_bits.specs.Devices.{Writing}
use Rattle.bufr_io.specs.Engines.{WritesAll, FailsAfter}

-- one text after another
taken_more : (first mid now : Option (List ℕ)) (a b : List ℕ)
    → IfSome first (λ x. mid ≡ Some (x ++ a)) → IfSome mid (λ x. now ≡ Some (x ++ b))
    → IfSome first (λ x. now ≡ Some (x ++ (a ++ b)))
taken_more None mid now a b one two = tt
taken_more (Some x) mid now a b one two =
    let then : now ≡ Some ((x ++ a) ++ b) = rw one at two in
    then ∙ ap (λ y. Some y) (append_assoc x a b)

-- nothing written yet
taken_none : (now : Option (List ℕ)) → IfSome now (λ x. now ≡ Some (x ++ []))
taken_none None = tt
taken_none (Some x) = ap (λ y. Some y) (sym (append-nil x))

-- the octets taken before stay the first
taken_kept : (first mid now : Option (List ℕ)) (a : List ℕ)
    → IfSome first (λ x. mid ≡ Some (x ++ a)) → IfSome mid (λ x. now ≡ Some x)
    → IfSome first (λ x. now ≡ Some (x ++ a))
taken_kept None mid now a one two = tt
taken_kept (Some x) mid now a one two = rw one at two

-- a writer that works has written the empty text
pub writes_none : (w : Writing) → w.failed ≡ false → WritesAll w w []
writes_none w works = record { taken = taken_none w.taken; works = works }

-- writes one text after another
pub writes_more : (first mid now : Writing) (a b : List ℕ) → WritesAll first mid a
    → WritesAll mid now b → WritesAll first now (a ++ b)
writes_more first mid now a b one two =
    record {
      taken = taken_more first.taken mid.taken now.taken a b one.taken two.taken;
      works =
          two.works;
    }

-- writes a text, and fails within another
pub fails_more : (first mid now : Writing) (a b : List ℕ) (n : ℕ) → WritesAll first mid a
    → FailsAfter n mid now b → FailsAfter (length a + n) first now (a ++ b)
fails_more first mid now a b n one two =
    let both : take (length a + n) (a ++ b) ≡ a ++ take n b = take-append-add a b n in
    record {
      within = let e = length-append a b in let f = two.within in omega arith;
      taken = subst (λ (t : List ℕ). IfSome first.taken (λ x. now.taken ≡ Some (x ++ t))) (sym both)
          (taken_more first.taken mid.taken now.taken a (take n b) one.taken two.taken);
      failed = two.failed;
    }

-- the first octets of a text are the first of a longer one
pub fails_longer : (first now : Writing) (a b : List ℕ) (n : ℕ) → FailsAfter n first now a
    → FailsAfter n first now (a ++ b)
fails_longer first now a b n one = record {
  within = let e = length-append a b in let f = one.within in omega arith;
  taken = subst (λ (t : List ℕ). IfSome first.taken (λ x. now.taken ≡ Some (x ++ t)))
      (sym (take-append-le n a b one.within)) one.taken;
  failed = one.failed;
}

-- What a row is and adds.
use Rattle.std.proofs.Common.{◌≡◌, ◌≢◌, ℕ, ◌==◌, Bool, true, false, List, [], ◌∷◌, ◌++◌}
use Rattle.std.proofs.Common.{Option, Some, None, Ok, Err, refl, ap, sym, arith, ℤ}
use Rattle.std.specs.Prelude.{is_some, option_and_then, option_map, if◌then◌else◌}
use Rattle.std.proofs.lemmas.Bool.Decides.{nat_tests}
use Rattle.std.specs.Ordering.{nat_cmp}
use Rattle.std.specs.BTreeMap.{insert_entry}
use Rattle.bufr_tables.specs.declared.element.Element.{Element}
use Rattle.bufr_tables.specs.declared.element.Kind.{Kind}
use Rattle.bufr_tables.specs.declared.element.Kind.TheVariants as kinds
use Rattle.bufr_tables.specs.declared.table_faults.TableFault.TheVariants.{SplitSequence}
use Rattle.bufr_tables.specs.Elements.{same_kind}
use Rattle.bufr_tables.specs.Entries.{at}
use Rattle.bufr_tables.specs.Rows.{kind_of, cell, element_row, begins, Sequences, with_member}
use Rattle.bufr_tables.specs.Numbers.{signed_of, unsigned_of, descriptor_of}

not_count : (a b c d : Bool)
    → same_kind (if a then kinds.Text else if b then kinds.Code else if c then kinds.Flag
    else if d then kinds.Code else kinds.Quantity) kinds.Count ≡ false
not_count true b c d = refl
not_count false true c d = refl
not_count false false true d = refl
not_count false false false true = refl
not_count false false false false = refl

pub kind_of-not_count : (unit : List ℕ) → same_kind (kind_of unit) kinds.Count ≡ false
kind_of-not_count unit = not_count _ _ _ _

made : (fxy : Option ℕ) (scale reference : Option ℤ) (width : Option ℕ) (kind : Kind) (d : ℕ)
    (e : Element)
    → option_and_then (λ d. option_and_then (λ s. option_and_then (λ r. option_map {U = ℕ × Element}
    (λ w. (d, record { kind = kind; scale = s; reference = r; width = w })) width) reference) scale)
    fxy ≡ Some (d, e) → e.kind ≡ kind
made None scale reference width kind d e h = absurd (cc)
made (Some f) None reference width kind d e h = absurd (cc)
made (Some f) (Some s) None width kind d e h = absurd (cc)
made (Some f) (Some s) (Some r) None kind d e h = absurd (cc)
made (Some f) (Some s) (Some r) (Some w) kind d e h =
    let g : ◌≡◌ {A = ℕ × Element} (f, record { kind = kind; scale = s; reference = r; width = w })
    (d, e) = cc in ap (λ (x : ℕ × Element). x.1.kind) (sym g)

pub element_row-not_count : (cells : List (List ℕ)) (row : ℕ × Element)
    → element_row cells ≡ Some row → same_kind row.1.kind kinds.Count ≡ false
unfolding element_row
element_row-not_count cells row h =
    rw (made (descriptor_of 0 (cell cells 0)) (signed_of 32 (cell cells 2))
    (signed_of 64 (cell cells 3)) (unsigned_of 32 (cell cells 4))
    (kind_of (cell cells 1)) row.0 row.1 h) (kind_of-not_count (cell cells 1))

pub begins-again : (ended : List (ℕ × List ℕ)) (d m : ℕ) → is_some (at d ended) ≡ true
    → begins ended d m ≡ Err (SplitSequence d)
begins-again ended d m h = rw h

pub begins-new : (ended : List (ℕ × List ℕ)) (d m : ℕ) → is_some (at d ended) ≡ false
    → begins ended d m ≡ Ok (record { ended = ended; open_one = Some (d, m ∷ []) })
begins-new ended d m h = rw h

pub with_member-same : (s : Sequences) (d m : ℕ) (list : List ℕ) → s.open_one ≡ Some (d, list)
    → with_member s (d, m) ≡ Ok (record { ended = s.ended; open_one = Some (d, list ++ m ∷ []) })
with_member-same s d m list h = let e : (d == d) ≡ true = grind (arith, nat_tests) in rw (h, e)

pub with_member-other : (s : Sequences) (d m o : ℕ) (list : List ℕ) → s.open_one ≡ Some (o, list)
    → o ≢ d → with_member s (d, m) ≡ begins (insert_entry nat_cmp s.ended o list) d m
with_member-other s d m o list h n =
    let e : (o == d) ≡ false = grind (arith, nat_tests) in rw (h, e)

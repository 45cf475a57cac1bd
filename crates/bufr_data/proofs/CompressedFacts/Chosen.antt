-- The columns of chosen fields.
use Rattle.std.proofs.Common.{◌≡◌, ℕ, Bool, true, false, cond, List, [], ◌∷◌, ◌++◌, length, refl, sym, ap, ◌∙◌}
use Rattle.std.proofs.Common.{append_assoc, append-nil, arith, zero, suc, Some}
use Rattle.std.specs.Prelude.{slice_get, option_map}
use Rattle.bufr_fields.specs.declared.field.Field.{Field}
use Rattle.bufr_data.specs.declared.compressed.index.ColumnStart.{ColumnStart}
use Rattle.bufr_data.specs.Chosen.{is_listed, chosen, chosen_places}
use Rattle.bufr_data.specs.Compressed.{field_of}
use Rattle.bufr_data.specs.Compressed.Indexed.{Opens, AllOpen, column_from}
use Rattle.bufr_data.specs.Handed.{fields_there}

one_open : (listed : Bool) (octets : List ℕ) (n : ℕ) (p : ColumnStart) (places : List ColumnStart)
    → Opens octets n p → AllOpen octets n places
    → AllOpen octets n (cond listed (p ∷ places) places)
one_open true octets n p places one all = (one, all)
one_open false octets n p places one all = all

-- a column begins at each of the places
pub chosen_open : (list octets : List ℕ) (n : ℕ) (places : List ColumnStart) → AllOpen octets n places
    → AllOpen octets n (chosen_places list places)
chosen_open list octets n [] all = tt
chosen_open list octets n (p ∷ places) all =
    one_open (is_listed list p.fxy) octets n p (chosen_places list places) all.0
    (chosen_open list octets n places all.1)

one_there : (listed : Bool) (octets : List ℕ) (n index : ℕ) (p : ColumnStart) (places : List ColumnStart)
    (fields : List Field) → fields_there octets n index places ≡ fields
    → fields_there octets n index (cond listed (p ∷ places) places)
    ≡ cond listed (field_of index (column_from octets n p) ∷ fields) fields
one_there true octets n index p places fields is =
    ap (λ fs. field_of index (column_from octets n p) ∷ fs) is
one_there false octets n index p places fields is = is

-- their values are the chosen fields of a subset
pub chosen_there : (list octets : List ℕ) (n index : ℕ) (places : List ColumnStart)
    → fields_there octets n index (chosen_places list places)
    ≡ chosen list (fields_there octets n index places)
chosen_there list octets n index [] = refl
chosen_there list octets n index (p ∷ places) =
    one_there (is_listed list p.fxy) octets n index p (chosen_places list places)
    (chosen list (fields_there octets n index places)) (chosen_there list octets n index places)

-- the field of the column at a place
pub field_there : (octets : List ℕ) (n index : ℕ) (places : List ColumnStart) (k : ℕ) (p : ColumnStart)
    → slice_get places k ≡ Some p
    → slice_get (fields_there octets n index places) k ≡ Some (field_of index (column_from octets n p))
field_there octets n index [] k p at = absurd cc
field_there octets n index (q ∷ places) zero p at =
    ap (option_map (λ x. field_of index (column_from octets n x))) at
field_there octets n index (q ∷ places) (suc k) p at = field_there octets n index places k p at

-- ---- the places found

-- the places of the columns so far, and those of the columns left
abbrev pub ChosenSoFar : List ℕ → List ColumnStart → List ColumnStart → List ColumnStart → Type 0
ChosenSoFar list all found left = chosen_places list all ≡ found ++ chosen_places list left

pub one_chosen : (list : List ℕ) (all left others found grown : List ColumnStart) (p : ColumnStart)
    → left ≡ p ∷ others → is_listed list p.fxy ≡ true → grown ≡ found ++ p ∷ []
    → ChosenSoFar list all found left → ChosenSoFar list all grown others
one_chosen list all left others found grown p is listed more so_far =
    so_far ∙ ap (λ ps. found ++ chosen_places list ps) is
    ∙ ap (λ b. found ++ cond b (p ∷ chosen_places list others) (chosen_places list others)) listed
    ∙ sym (append_assoc found (p ∷ []) (chosen_places list others))
    ∙ ap (λ ps. ps ++ chosen_places list others) (sym more)

pub none_chosen : (list : List ℕ) (all left others found : List ColumnStart) (p : ColumnStart)
    → left ≡ p ∷ others → is_listed list p.fxy ≡ false → ChosenSoFar list all found left
    → ChosenSoFar list all found others
none_chosen list all left others found p is listed so_far =
    so_far ∙ ap (λ ps. found ++ chosen_places list ps) is
    ∙ ap (λ b. found ++ cond b (p ∷ chosen_places list others) (chosen_places list others)) listed

pub all_chosen : (list : List ℕ) (all left found : List ColumnStart) → length left ≡ 0
    → ChosenSoFar list all found left → found ≡ chosen_places list all
all_chosen list all [] found is so_far = sym (so_far ∙ append-nil found)
all_chosen list all (p ∷ left) found is so_far = absurd (omega (arith, is))

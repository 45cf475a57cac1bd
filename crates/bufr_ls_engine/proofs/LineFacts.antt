-- Lines of fields, from the first field on: the contracts of `push_said`, `push_refused` `hold_all`
-- and `push_fields`.
use Rattle.std.proofs.Common.{◌≡◌, ◌∙◌, ℕ, ◌<◌, List, [], ◌∷◌, ◌++◌, length, refl, sym, ap, append_assoc, arith}
use Rattle.std.proofs.Common.{◌-◌, drop, take}
use Rattle.std.specs.List.{join_by, flat_map}
use Rattle.std.proofs.lemmas.List.{append-nil, length-drop, take_all}
use Rattle.bufr_ls_engine.specs.RowSteps.{texts_before}

-- a first field and others, each with a comma after it, and the last with the end of the line
abbrev pub line : {X : Type 0} → (X → List ℕ) → X → List X → List ℕ
line f x [] = f x ++ 10 ∷ []
line f x (y ∷ ys) = f x ++ 44 ∷ line f y ys

-- it is the fields with commas between them, and the end of the line
pub line_is : {X : Type 0} (f : X → List ℕ) (x : X) (ys : List X)
    → line f x ys ≡ join_by f (44 ∷ []) (x ∷ ys) ++ 10 ∷ []
line_is f x [] = ap (λ (t : List ℕ). t ++ 10 ∷ []) (sym (append-nil (f x)))
line_is f x (y ∷ ys) =
    ap (λ (t : List ℕ). f x ++ 44 ∷ t) (line_is f y ys)
    ∙ sym (append_assoc (f x) (flat_map (λ y. (44 ∷ []) ++ f y) (y ∷ ys)) (10 ∷ []))

-- a text that grew by the first field and an octet, before others
pub grown : (old mid all front : List ℕ) (octet : ℕ) (rest : List ℕ)
    → old ++ (front ++ octet ∷ rest) ≡ all → mid ≡ old ++ front ++ octet ∷ []
    → mid ++ rest ≡ all
grown old mid all front octet rest whole is =
    ap (λ (t : List ℕ). t ++ rest) is ∙ append_assoc (old ++ front) (octet ∷ []) rest
    ∙ append_assoc old front (octet ∷ rest) ∙ whole

-- a text that grew by the last field and the end of the line, when no other is left
pub ended : {X : Type 0} (f : X → List ℕ) (x first : X) (others rest : List X)
    (start old text : List ℕ) → length rest < 1
    → old ++ line f x rest ≡ start ++ line f first others → text ≡ old ++ f x ++ 10 ∷ []
    → text ≡ start ++ (join_by f (44 ∷ []) (first ∷ others) ++ 10 ∷ [])
ended f x first others [] start old text none whole is =
    is ∙ append_assoc old (f x) (10 ∷ []) ∙ whole
    ∙ ap (λ (t : List ℕ). start ++ t) (line_is f first others)
ended f x first others (r ∷ rest) start old text none whole is = absurd (omega arith)

-- texts before a rest, and more after it
pub texts_and_more : (texts : List (List ℕ)) (rest more : List ℕ)
    → texts_before texts rest ++ more ≡ texts_before texts (rest ++ more)
texts_and_more [] rest more = refl
texts_and_more (t ∷ ts) rest more =
    append_assoc t (44 ∷ texts_before ts rest) more
    ∙ ap (λ (x : List ℕ). t ++ 44 ∷ x) (texts_and_more ts rest more)

-- the end of a row is all of it from an index on
pub rest_of_row : (room : ℕ) (row fields : List ℕ) (first : ℕ) → length row ≡ room
    → drop first row ≡ fields → take (room - first) (drop first row) ≡ fields
rest_of_row room row fields first long is =
    take_all (room - first) (drop first row) (omega (arith, long, length-drop first row)) ∙ is

-- The texts of records, by the number of their fields: the contracts of `push_row`, `push_header` and
-- `push_alone`.
use Rattle.std.proofs.Common.{◌≡◌, ℕ, ◌==◌, Bool, true, false, List, [], ◌∷◌, ◌++◌, length, map, refl}
use Rattle.std.proofs.Common.{sym, ap, ◌∙◌, cond, ◌+◌, ◌<◌, ◌≤◌, arith, drop, get_or, set, OnOk, Result, Ok, Err}
use Rattle.std.proofs.lemmas.Bool.{eqb-true}
use Rattle.std.proofs.lemmas.Bool.Decides.{nat_tests}
use Rattle.std.proofs.Common.{append_assoc}
use Rattle.std.proofs.Common.{take, ◌-◌}
use Rattle.std.proofs.Common.{length-append}
use Rattle.std.proofs.lemmas.List.{append-nil, drop_all, take_all}
use Rattle.csv.specs.Writing.{default_writer, field_text, fields_text, is_blank, needs_quotes}
use Rattle.csv.specs.Writing.{quoted, row_text}
use Rattle.bufr_listing.specs.DecimalLaws.{octet_before}

-- a record without a field
pub row_none : (f : List ℕ → List ℕ) → row_text default_writer [] ≡ 34 ∷ 34 ∷ 10 ∷ []
unfolding is_blank
row_none f = refl

-- a test for zero
some_test : (n : ℕ) → 0 < n → (n == 0) ≡ false
some_test n some = grind (arith, nat_tests)

none_test : (n : ℕ) → (n == 0) ≡ true → n ≡ 0
none_test n none = eqb-true n 0 none

-- one empty field
pub row_empty : (field : List ℕ) → (length field == 0) ≡ true
    → row_text default_writer (field ∷ []) ≡ 34 ∷ 34 ∷ 10 ∷ []
unfolding is_blank fields_text
row_empty [] none = refl
row_empty (x ∷ field) none = absurd (omega (arith, none_test (length (x ∷ field)) none))

-- the end of a record with these octets in its one field
one_ended : (octets : List ℕ) (is : Bool) → (length octets == 0) ≡ is → is ≡ false
    → (octets ++ []) ++ ((cond (length octets == 0) (34 ∷ 34 ∷ []) []) ++ 10 ∷ [])
    ≡ octets ++ 10 ∷ []
one_ended octets is same some =
    ap (λ b. (octets ++ []) ++ ((cond b (34 ∷ 34 ∷ []) []) ++ 10 ∷ [])) (same ∙ some)
    ∙ ap (λ (t : List ℕ). t ++ 10 ∷ []) (append-nil octets)

-- a field with octets has a text with octets
text_some : (quotes : Bool) (field : List ℕ) → (length field == 0) ≡ false
    → (length (cond quotes (quoted default_writer field) field) == 0) ≡ false
text_some true field some = some_test (length (quoted default_writer field)) (omega arith)
text_some false field some = some

-- one field that is not empty
pub row_one : (field : List ℕ) → (length field == 0) ≡ false
    → row_text default_writer (field ∷ []) ≡ field_text default_writer field ++ 10 ∷ []
unfolding is_blank fields_text
row_one field some =
    one_ended (field_text default_writer field) _ refl
    (text_some (needs_quotes default_writer field) field some)

-- more fields than one
pub rows_more : {A : Type 0} (f : A → List ℕ) (x : A) (others : List A) → (length others == 0) ≡ false
    → row_text default_writer (map f (x ∷ others))
    ≡ (field_text default_writer (f x) ++ fields_text default_writer (map f others)) ++ 10 ∷ []
unfolding is_blank
rows_more f x [] some = absurd cc
rows_more f x (y ∷ others) some = refl

-- ---- the steps of the functions

-- a fact about what was added, made of another
pub on_ok_then : {A E P Q : Type 0} (r : Result A E) → (P → Q) → OnOk r P → OnOk r Q
on_ok_then (Ok x) f p = f p
on_ok_then (Err x) f p = tt

-- a list without elements
pub rows_none : {A : Type 0} (f : A → List ℕ) (xs : List A) → length xs < 1
    → 34 ∷ 34 ∷ 10 ∷ [] ≡ row_text default_writer (map f xs)
rows_none f [] none = sym (row_none (λ t. t))
rows_none f (x ∷ xs) none = absurd (omega (arith, none))

-- a list by its first element
by_first : {A : Type 0} (xs : List A) (x : A) → 1 ≤ length xs → x ≡ get_or xs 0 x
    → xs ≡ x ∷ drop 1 xs
by_first [] x some is = absurd (omega (arith, some))
by_first (y ∷ xs) x some is = ap (λ z. z ∷ xs) (sym is)

-- the others, as a slice
tail_all : {A : Type 0} (xs : List A) → take (length xs - 1) (drop 1 xs) ≡ drop 1 xs
tail_all [] = refl
tail_all (x ∷ xs) = take_all (length (x ∷ xs) - 1) xs (omega arith)

-- the pieces of a record of several fields
pub row_pieces : {A : Type 0} (f : A → List ℕ) (xs : List A) (x : A) (old one two new shown : List ℕ)
    → 1 ≤ length xs → x ≡ get_or xs 0 x
    → (length (take (length xs - 1) (drop 1 xs)) == 0) ≡ false → shown ≡ f x
    → one ≡ old ++ field_text default_writer shown
    → two ≡ one ++ fields_text default_writer (map f (take (length xs - 1) (drop 1 xs)))
    → new ≡ two ++ 10 ∷ [] → new ≡ old ++ row_text default_writer (map f xs)
row_pieces f xs x old one two new shown some first more is one_is two_is new_is =
    let others = take (length xs - 1) (drop 1 xs) in
    let tail = fields_text default_writer (map f others) in
    let all : xs ≡ x ∷ others =
    by_first xs x some first ∙ ap (λ ys. x ∷ ys) (sym (tail_all xs)) in
    new_is ∙ ap (λ (t : List ℕ). t ++ 10 ∷ []) (two_is ∙ ap (λ (t : List ℕ). t ++ tail) one_is)
    ∙ ap (λ (t : List ℕ). t ++ 10 ∷ []) (append_assoc old (field_text default_writer shown) tail)
    ∙ append_assoc old (field_text default_writer shown ++ tail) (10 ∷ [])
    ∙ ap (λ (t : List ℕ). old ++ ((field_text default_writer t ++ tail) ++ 10 ∷ [])) is
    ∙ ap (λ (t : List ℕ). old ++ t) (sym (rows_more f x others more))
    ∙ ap (λ ys. old ++ row_text default_writer (map f ys)) (sym all)

-- the pieces of a record of one field
pub one_pieces : (field old one new : List ℕ) → (length field == 0) ≡ false
    → one ≡ old ++ field_text default_writer field → new ≡ one ++ 10 ∷ []
    → new ≡ old ++ row_text default_writer (field ∷ [])
one_pieces field old one new some one_is new_is =
    new_is ∙ ap (λ (t : List ℕ). t ++ 10 ∷ []) one_is
    ∙ append_assoc old (field_text default_writer field) (10 ∷ [])
    ∙ ap (λ (t : List ℕ). old ++ t) (sym (row_one field some))

-- ---- a record of one field, by whether that shows an octet

blank_one : (shown : List ℕ) → length shown ≡ 0
    → shown ++ 34 ∷ 34 ∷ 10 ∷ []
    ≡ (shown ++ []) ++ ((cond (length shown == 0) (34 ∷ 34 ∷ []) []) ++ 10 ∷ [])
blank_one [] none = refl
blank_one (x ∷ shown) none = absurd (omega (arith, none))

-- it shows none
pub only_blank : (field old one new : List ℕ) → one ≡ old ++ field_text default_writer field
    → length one ≡ length old → new ≡ one ++ 34 ∷ 34 ∷ 10 ∷ []
    → new ≡ old ++ row_text default_writer (field ∷ [])
unfolding is_blank fields_text
only_blank field old one new one_is same new_is =
    let shown = field_text default_writer field in
    new_is ∙ ap (λ (t : List ℕ). t ++ 34 ∷ 34 ∷ 10 ∷ []) one_is
    ∙ append_assoc old shown (34 ∷ 34 ∷ 10 ∷ [])
    ∙ ap (λ (t : List ℕ). old ++ t)
    (blank_one shown (omega (arith, same, ap length one_is, length-append old shown)))

-- or some
pub only_ended : (field old one new : List ℕ) → one ≡ old ++ field_text default_writer field
    → length old < length one → new ≡ one ++ 10 ∷ []
    → new ≡ old ++ row_text default_writer (field ∷ [])
unfolding is_blank fields_text
only_ended field old one new one_is more new_is =
    let shown = field_text default_writer field in
    let some : 0 < length shown =
    omega (arith, more, ap length one_is, length-append old shown) in
    new_is ∙ ap (λ (t : List ℕ). t ++ 10 ∷ []) one_is ∙ append_assoc old shown (10 ∷ [])
    ∙ ap (λ (t : List ℕ). old ++ t)
    (sym (one_ended shown (length shown == 0) refl (some_test (length shown) some)))

-- ---- a record written from its end

-- the fields of a record, with one more
fields_more : {A : Type 0} (f : A → List ℕ) (xs : List A) (x : A)
    → fields_text default_writer (map f (xs ++ x ∷ []))
    ≡ fields_text default_writer (map f xs) ++ 44 ∷ field_text default_writer (f x)
unfolding fields_text
fields_more f [] x = ap (λ (t : List ℕ). 44 ∷ t) (append-nil (field_text default_writer (f x)))
fields_more f (y ∷ xs) x =
    ap (λ (t : List ℕ). 44 ∷ (field_text default_writer (f y) ++ t)) (fields_more f xs x)
    ∙ ap (λ (t : List ℕ). 44 ∷ t)
    (sym (append_assoc (field_text default_writer (f y)) (fields_text default_writer (map f xs))
    (44 ∷ field_text default_writer (f x))))

-- one field more is written before the others
pub field_before : {A : Type 0} (f : A → List ℕ) (left others : List A) (x : A)
    (shown row mid new : List ℕ) (start field : ℕ) → left ≡ others ++ x ∷ [] → shown ≡ f x
    → 0 < field → field ≤ length mid
    → drop field mid ≡ field_text default_writer shown ++ drop start row
    → new ≡ set mid (field - 1) 44
    → fields_text default_writer (map f others) ++ drop (field - 1) new
    ≡ fields_text default_writer (map f left) ++ drop start row
field_before f left others x shown row mid new start field parted is inside within written set_is =
    let front = fields_text default_writer (map f others) in
    let next : (field - 1) + 1 ≡ field = omega (arith, inside) in
    ap (λ (t : List ℕ). front ++ t)
    (ap (drop (field - 1)) set_is ∙ octet_before mid 44 (field - 1) field next within
    ∙ ap (λ (t : List ℕ). 44 ∷ t) written
    ∙ ap (λ (t : List ℕ). 44 ∷ (field_text default_writer t ++ drop start row)) is)
    ∙ sym (append_assoc front (44 ∷ field_text default_writer (f x)) (drop start row))
    ∙ ap (λ (t : List ℕ). t ++ drop start row) (sym (fields_more f others x))
    ∙ ap (λ xs. fields_text default_writer (map f xs) ++ drop start row)
    (sym parted)

-- no field is left
pub none_before : {A : Type 0} (f : A → List ℕ) (left : List A) (t u : List ℕ) → length left < 1
    → fields_text default_writer (map f left) ++ t ≡ u → t ≡ u
unfolding fields_text
none_before f [] t u none is = is
none_before f (x ∷ left) t u none is = absurd (omega (arith, none))

-- a room that is not empty
pub some_room : (n : ℕ) → (n == 0) ≡ false → 0 < n
some_room n some = grind (arith, nat_tests)

-- the first field before the others and the end
pub row_before : {A : Type 0} (f : A → List ℕ) (xs : List A) (x : A)
    (shown row ended mid new : List ℕ) (end start begin : ℕ) → 1 ≤ length xs → x ≡ get_or xs 0 x
    → (length (take (length xs - 1) (drop 1 xs)) == 0) ≡ false → shown ≡ f x
    → end + 1 ≡ length row → ended ≡ set row end 10
    → drop start mid
    ≡ fields_text default_writer (map f (take (length xs - 1) (drop 1 xs))) ++ drop end ended
    → drop begin new ≡ field_text default_writer shown ++ drop start mid
    → drop begin new ≡ row_text default_writer (map f xs)
row_before f xs x shown row ended mid new end start begin some first more is last set_is others
    written =
    let tail = fields_text default_writer (map f (take (length xs - 1) (drop 1 xs))) in
    let head = field_text default_writer shown in
    written
    ∙ ap (λ (t : List ℕ). head ++ t)
    (others
    ∙ ap (λ (t : List ℕ). tail ++ t)
    (ap (drop end) set_is ∙ octet_before row 10 end (length row) last (omega arith)
    ∙ ap (λ (t : List ℕ). 10 ∷ t) (drop_all (length row) row (omega arith))))
    ∙ sym (append_assoc head tail (10 ∷ []))
    ∙ row_pieces f xs x [] head (head ++ tail) ((head ++ tail) ++ 10 ∷ []) shown some first more is
    refl refl refl

-- so it is with the first field and the others apart
pub row_first : {A : Type 0} (f : A → List ℕ) (xs : List A) (x : A) (others : List A)
    (row ended mid new : List ℕ) (end start begin : ℕ) → xs ≡ x ∷ others
    → (length others == 0) ≡ false → end + 1 ≡ length row → ended ≡ set row end 10
    → drop start mid ≡ fields_text default_writer (map f others) ++ drop end ended
    → drop begin new ≡ field_text default_writer (f x) ++ drop start mid
    → drop begin new ≡ row_text default_writer (map f xs)
row_first f xs x others row ended mid new end start begin is more last set_is fields written =
    let tail = tail_all (x ∷ others) in
    row_before f (x ∷ others) x (f x) row ended mid new end start begin (omega arith) refl
    (ap (λ ys. length ys == 0) tail ∙ more) refl last set_is
    (fields ∙ ap (λ ys. fields_text default_writer (map f ys) ++ drop end ended) (sym tail)) written
    ∙ ap (λ ys. row_text default_writer (map f ys)) (sym is)

-- Turns without a chosen field: the contract of `PlainFields::has_no_more`.
use Rattle.std.proofs.Common.{◌≡◌, ℕ, zero, suc, ◌&&◌, not, Bool, true, false, List, [], ◌∷◌, ◌++◌}
use Rattle.std.proofs.Common.{drop, refl, sym, ap, subst, ◌∙◌}
use Rattle.std.specs.Bool.{OnTrue}
use Rattle.std.proofs.lemmas.List.Folds.{list_all-append}
use Rattle.bufr_bits.specs.Ends.{BitPlace, left}
use Rattle.bufr_expand.specs.declared.even_turns.CommonField.{CommonField}
use Rattle.bufr_expand.specs.declared.walk.Walk.{Walk}
use Rattle.bufr_expand.specs.Asked.{TellsNone}
use Rattle.bufr_expand.specs.Courses.{Course}
use Rattle.bufr_expand.specs.EvenTurns.{repeated}
use Rattle.bufr_expand.specs.Walks as walks
use Rattle.bufr_fields.specs.declared.field.Field.{Field}
use Rattle.bufr_data.specs.declared.plain.laid_turns.LaidTurns.{LaidTurns}
use Rattle.bufr_data.specs.Handed.{NoneAsked, fields_then}
use Rattle.bufr_data.specs.Plain.LaidTurns.{fields_left, none_among}
use Rattle.bufr_data.specs.Plain.Layouts.{laid_then}
use Rattle.bufr_data.proofs.AskedFacts.{none_read}

-- a search told so
pub told_so : (told so : Bool) → told ≡ so → OnTrue told (so ≡ true)
told_so true so e = sym e
told_so false so e = tt

pub both_true : (a b : Bool) → (a && b) ≡ true → (a ≡ true) × (b ≡ true)
both_true true b is = (refl, is)
both_true false b is = absurd cc

pub not_true : (a : Bool) → not a ≡ true → a ≡ false
not_true true is = absurd cc
not_true false is = refl

-- the rest of a turn
none_rest : (P : ℕ → Bool) (n : ℕ) (fields : List CommonField) → none_among P fields ≡ true
    → none_among P (drop n fields) ≡ true
none_rest P zero fields none = none
none_rest P (suc n) [] none = refl
none_rest P (suc n) (f ∷ fields) none =
    none_rest P n fields (both_true (not (P f.fxy)) (none_among P fields) none).1

-- fields after others
none_joined : (P : ℕ → Bool) (xs ys : List CommonField) → none_among P xs ≡ true
    → none_among P ys ≡ true → none_among P (xs ++ ys) ≡ true
none_joined P xs ys one two =
    list_all-append (λ f. not (P f.fxy)) xs ys ∙ ap (λ b. b && none_among P ys) one ∙ two

-- all turns
none_repeated : (P : ℕ → Bool) (n : ℕ) (fields : List CommonField) → none_among P fields ≡ true
    → none_among P (repeated n fields) ≡ true
unfolding repeated
none_repeated P zero fields none = refl
none_repeated P (suc n) fields none =
    none_joined P fields (repeated n fields) none (none_repeated P n fields none)

-- a course that asks for such fields first
tells_laid : (P : ℕ → Bool) (fields : List CommonField) (later : Course) → none_among P fields ≡ true
    → TellsNone P later → TellsNone P (laid_then fields later)
unfolding TellsNone laid_then
tells_laid P [] later none tells = tells
tells_laid P (f ∷ fields) later none tells =
    let both = both_true (not (P f.fxy)) (none_among P fields) none in
    (not_true (P f.fxy) both.0, λ number. tells_laid P fields later both.1 tells)

-- no chosen field is in the turns, nor after them
pub none_in_turns : (P : ℕ → Bool) (laid : LaidTurns) (w : Walk) (r : BitPlace) (all : List Field)
    (told : Bool) → fields_then (walks.left w) (fields_left laid) r ≡ all
    → none_among P laid.turn.items ≡ true → OnTrue told (TellsNone P (walks.left w))
    → OnTrue told (NoneAsked P all)
none_in_turns P laid w r all true seen none tells =
    let left_none = none_joined P (drop laid.next laid.turn.items) (repeated laid.turns laid.turn.items)
    (none_rest P laid.next laid.turn.items none) (none_repeated P laid.turns laid.turn.items none) in
    subst (NoneAsked P) seen
    (none_read P 1 1 (laid_then (fields_left laid) (walks.left w)) (left r)
    (tells_laid P (fields_left laid) (walks.left w) left_none tells))
none_in_turns P laid w r all false seen none tells = tt

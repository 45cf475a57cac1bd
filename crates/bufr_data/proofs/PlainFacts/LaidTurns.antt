-- The fields left of turns that a walk has passed.
use Rattle.std.proofs.Common.{◌≡◌, ℕ, zero, suc, ◌+◌, ◌-◌, ◌≤◌, List, [], ◌∷◌, ◌++◌, Option, Some, None}
use Rattle.std.specs.Prelude.{IfOk}
use Rattle.std.proofs.Common.{IsOk, Result, length, drop, refl, sym, ap, subst, ◌∙◌, arith}
use Rattle.std.specs.List.{slice_get}
use Rattle.std.proofs.lemmas.List.{drop_all}
use Rattle.std.proofs.lemmas.Option.{get_or_from_slice_get, slice_get_within}
use Rattle.bufr_bits.specs.Ends as ends_of
use Rattle.bufr_bits.specs.Ends.{BitPlace}
use Rattle.bufr_expand.specs.declared.even_turns.CommonField.{CommonField}
use Rattle.bufr_expand.specs.declared.even_turns.EvenTurns.{EvenTurns}
use Rattle.bufr_expand.specs.declared.walk.Walk.{Walk}
use Rattle.bufr_expand.specs.EvenTurns.{repeated, PassesTurns}
use Rattle.bufr_expand.specs.Walks as walks
use Rattle.bufr_fields.specs.declared.field.Field.{Field}
use Rattle.bufr_fields.specs.Steady.{IsReady}
use Rattle.bufr_data.specs.declared.plain.fields.Due.{Due}
use Rattle.bufr_data.specs.declared.plain.fields.Due.TheVariants.{Step}
use Rattle.bufr_data.specs.declared.plain.laid_turns.LaidTurns.{LaidTurns}
use Rattle.bufr_data.specs.Handed.{HandsOut, fields_then, StandThen, fields_from, StandFrom}
use Rattle.bufr_data.specs.Handed.{fields_ahead, StandAhead}
use Rattle.bufr_data.specs.Plain.{fields_at}
use Rattle.bufr_data.specs.Plain.LaidTurns.{fields_left}
use Rattle.bufr_data.specs.Plain.Layouts.{laid_then}
use Rattle.bufr_data.specs.Plain.Starts.{fields_of}
use Rattle.bufr_data.proofs.ListFacts.{left_is}
use Rattle.bufr_data.proofs.PlainFacts.Layouts.{read_as_laid}

-- the rest of a turn, and the turns after it
abbrev pub rest_of : List CommonField → ℕ → ℕ → List CommonField
rest_of turn next turns = drop next turn ++ repeated turns turn

pub field_first : (turn : List CommonField) (next turns : ℕ) (f : CommonField)
    → slice_get turn next ≡ Some f → rest_of turn next turns ≡ f ∷ rest_of turn (next + 1) turns
field_first turn next turns f is =
    ap (λ fs. fs ++ repeated turns turn)
    (left_is turn next f (slice_get_within turn next f is)
    (sym (get_or_from_slice_get turn next f f is)))

no_turns : (n : ℕ) → repeated {A = CommonField} n [] ≡ []
unfolding repeated
no_turns zero = refl
no_turns (suc n) = no_turns n

pub turn_begins : (turn : List CommonField) (next turns : ℕ) → length turn ≤ next
    → (turns ≡ 0 → ⊥) → rest_of turn 0 (turns - 1) ≡ rest_of turn next turns
unfolding repeated
turn_begins turn next zero none some = absurd (some refl)
turn_begins turn next (suc n) none some =
    let less : suc n - 1 ≡ n = omega arith in
    rw less (ap (λ fs. fs ++ (turn ++ repeated n turn)) (sym (drop_all next turn none)))

pub none_at_end : (turn : List CommonField) (next turns : ℕ) → length turn ≤ next
    → turns ≡ 0 → rest_of turn next turns ≡ []
unfolding repeated
none_at_end turn next zero none is =
    ap (λ fs. fs ++ []) (drop_all next turn none)
none_at_end turn next (suc n) none is = absurd (omega (arith, is))

pub none_in_turns : (turn : List CommonField) (turns : ℕ) → length turn ≤ 0
    → rest_of turn 0 turns ≡ []
none_in_turns [] turns none = no_turns turns
none_in_turns (f ∷ turn) turns none = absurd (omega (arith, none))

pub all_left : (turn : List CommonField) (turns : ℕ)
    → rest_of turn (length turn) turns ≡ repeated turns turn
all_left turn turns = ap (λ fs. fs ++ repeated turns turn) (drop_all (length turn) turn (omega arith))

-- no field is left of them: those that the walk finds come first
pub walk_then : (walk : Walk) (fields : List CommonField) (reader : BitPlace) → fields ≡ []
    → (fields_then (walks.left walk) fields reader ≡ fields_ahead Step walk reader)
    × (StandThen (walks.left walk) fields reader → IsOk (fields_at 1 1 (walks.left walk) (ends_of.left reader)))
unfolding laid_then
walk_then walk [] reader is = (refl, λ stand. stand)
walk_then walk (f ∷ fields) reader is = absurd cc

-- the fields of turns that the walk passes at once
pub turns_laid : (old new : Walk) (found : EvenTurns) (fields : List CommonField) (reader : BitPlace)
    → StandAhead Step old reader → PassesTurns old found new
    → fields ≡ repeated found.turns found.fields.items
    → IsReady new × StandThen (walks.left new) fields reader
    × (fields_then (walks.left new) fields reader ≡ fields_ahead Step old reader)
turns_laid old new found fields reader stand passes is =
    let same : fields_at 1 1 (laid_then fields (walks.left new)) (ends_of.left reader)
    ≡ fields_at 1 1 (walks.left old) (ends_of.left reader) =
    ap (λ fs. fields_at 1 1 (laid_then fs (walks.left new)) (ends_of.left reader)) is
    ∙ read_as_laid (walks.items_met old) 1 (walks.left old) (walks.left new)
    (repeated found.turns found.fields.items) (ends_of.left reader) stand.0.steady
    passes.no_count passes.asked in (
      record { answered = passes.answered; steady = passes.steady },
      subst IsOk (sym same) stand.1,
      ap fields_of same,
    )

-- ---- what comes first, by whether there are such turns

module _ (kept : Option LaidTurns) (due : Due) (walk : Walk) (reader : BitPlace) where
  pub seen_laid : (laid : LaidTurns) (all : List Field) → kept ≡ Some laid
      → fields_from kept due walk reader ≡ all
      → fields_then (walks.left walk) (fields_left laid) reader ≡ all
  seen_laid laid all is seen = subst (λ k. fields_from k due walk reader ≡ all) is seen

  pub stands_laid : (laid : LaidTurns) → kept ≡ Some laid → StandFrom kept due walk reader
      → (due ≡ Step) × IsReady walk × StandThen (walks.left walk) (fields_left laid) reader
  stands_laid laid is stand = subst (λ k. StandFrom k due walk reader) is stand

  pub seen_none : (all : List Field) → kept ≡ None → fields_from kept due walk reader ≡ all
      → fields_ahead due walk reader ≡ all
  seen_none all is seen = subst (λ k. fields_from k due walk reader ≡ all) is seen

  pub stands_none : kept ≡ None → StandFrom kept due walk reader → StandAhead due walk reader
  stands_none is stand = subst (λ k. StandFrom k due walk reader) is stand

  -- the turns are read
  pub turns_left : (laid : LaidTurns) → kept ≡ Some laid → StandFrom kept due walk reader
      → fields_left laid ≡ []
      → StandAhead due walk reader × (fields_ahead due walk reader ≡ fields_from kept due walk reader)
  turns_left laid is stand none =
      let s = stands_laid laid is stand in
      let w = walk_then walk (fields_left laid) reader none in
      subst (λ (d : Due). StandAhead d walk reader
      × (fields_ahead d walk reader ≡ fields_from kept d walk reader)) (sym s.0) (
        (
          s.1,
          w.1 s.2,
        ),
        sym w.0 ∙ sym (ap (λ k. fields_from k Step walk reader) is),
      )

pub handed_as : {E : Type 0} (answer : Result (Option Field) E) (one other old new : List Field)
    → one ≡ other → old ≡ new → IfOk answer (λ found. HandsOut one found old)
    → IfOk answer (λ found. HandsOut other found new)
handed_as answer one other old new front back handed =
    subst (λ fs. IfOk answer (λ found. HandsOut fs found new)) front
    (subst (λ fs. IfOk answer (λ found. HandsOut one found fs)) back handed)

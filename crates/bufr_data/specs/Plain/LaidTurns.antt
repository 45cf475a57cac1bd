-- The fields left of turns that a walk has passed (FM 94 BUFR, regulation 94.5.4).
use Rattle.std.specs.Prelude.{ℕ, Bool, List, ◌++◌, drop, not}
use Rattle.std.specs.List.{list_all}
use Rattle.bufr_expand.specs.declared.even_turns.CommonField.{CommonField}
use Rattle.bufr_expand.specs.EvenTurns.{repeated}
use Rattle.bufr_data.specs.declared.plain.laid_turns.LaidTurns.{LaidTurns}

-- the rest of one turn, and the turns after it
abbrev pub fields_left : LaidTurns → List CommonField
fields_left laid = drop laid.next laid.turn.items ++ repeated laid.turns laid.turn.items

-- none of these fields is chosen
abbrev pub none_among : (ℕ → Bool) → List CommonField → Bool
none_among asks fields = list_all (λ f. not (asks f.fxy)) fields

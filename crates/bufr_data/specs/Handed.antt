-- Fields handed out one at a time, in the order of the data: the fields left are a list.
use Rattle.std.specs.Prelude.{◌≡◌, ℕ, Bool, true, false, List, [], ◌∷◌, ◌++◌, map, Option, Some}
use Rattle.std.specs.Prelude.{None, IsOk, ◌<◌, ◌≤◌, ◌+◌, length}
use Rattle.std.specs.List.{AllByRecursion}
use Rattle.bufr_bits.specs.Ends.{BitPlace, left}
use Rattle.bufr_expand.specs.Courses as courses
use Rattle.bufr_expand.specs.declared.walk.Walk.{Walk}
use Rattle.bufr_expand.specs.Walks as walks
use Rattle.bufr_fields.specs.declared.field.Field.{Field}
use Rattle.bufr_data.specs.declared.compressed.index.ColumnStart.{ColumnStart}
use Rattle.bufr_data.specs.declared.plain.fields.Due.{Due}
use Rattle.bufr_data.specs.declared.plain.fields.Due.TheVariants.{Step, Text, Nothing}
use Rattle.bufr_expand.specs.declared.even_turns.CommonField.{CommonField}
use Rattle.bufr_data.specs.Compressed.{field_of}
use Rattle.bufr_data.specs.Compressed.Indexed.{AllOpen, column_from}
use Rattle.bufr_data.specs.Plain.{fields_at}
use Rattle.bufr_data.specs.declared.plain.laid_turns.LaidTurns.{LaidTurns}
use Rattle.bufr_data.specs.Plain.LaidTurns.{fields_left}
use Rattle.bufr_data.specs.Plain.Layouts.{laid_then}
use Rattle.bufr_data.specs.Plain.Starts.{fields_of}
use Rattle.bufr_fields.specs.Steady.{IsReady}

-- hands out the first member of a list, or none if the list is empty
abbrev pub HandsOut : {A : Type 0} → List A → Option A → List A → Type 0
HandsOut old (Some x) new = old ≡ x ∷ new
HandsOut old None new = (old ≡ []) × (new ≡ [])

-- none of the fields is chosen
abbrev pub NoneAsked : (ℕ → Bool) → List Field → Type 0
NoneAsked asks fields = AllByRecursion (λ f. asks f.fxy ≡ false) fields

-- hands out the first chosen field and skips those before it; if none is chosen, no field is left
abbrev pub HandsOutAsked : (ℕ → Bool) → List Field → Option Field → List Field → Type 0
HandsOutAsked asks old (Some f) new = (passed : List Field) × NoneAsked asks passed
    × (asks f.fxy ≡ true) × (old ≡ passed ++ f ∷ new)
HandsOutAsked asks old None new = NoneAsked asks old × (new ≡ [])

-- skips the first field, which is not chosen
abbrev pub PassesFirst : (ℕ → Bool) → List Field → List Field → Type 0
PassesFirst asks old new = (f : Field) × (asks f.fxy ≡ false) × (old ≡ f ∷ new)

-- skips some fields, none of them chosen
abbrev pub PassesUnasked : (ℕ → Bool) → List Field → List Field → Type 0
PassesUnasked asks old new =
    (passed : List Field) × NoneAsked asks passed × (old ≡ passed ++ new)

-- the first field, if any, is chosen
abbrev pub FirstIsAsked : (ℕ → Bool) → List Field → Type 0
FirstIsAsked asks [] = Unit {0}
FirstIsAsked asks (f ∷ fields) = asks f.fxy ≡ true

-- a field, and then what a walk has left
abbrev pub text_first : CommonField → Walk → courses.Course
text_first f walk = courses.asks 0 f.fxy f.spec (λ number. walks.left walk)

-- the fields in the bits left: those that the walk finds, after a text that it has passed
abbrev pub fields_ahead : Due → Walk → BitPlace → List Field
fields_ahead Step walk reader = fields_of (fields_at 1 1 (walks.left walk) (left reader))
fields_ahead (Text f) walk reader =
    fields_of (fields_at 1 1 (text_first f walk) (left reader))
fields_ahead Nothing walk reader = []

-- unless nothing comes next, the walk can go on, and the bits left hold all fields
abbrev pub StandAhead : Due → Walk → BitPlace → Type 0
StandAhead Step walk reader =
    IsReady walk × IsOk (fields_at 1 1 (walks.left walk) (left reader))
StandAhead (Text f) walk reader =
    IsReady walk × IsOk (fields_at 1 1 (text_first f walk) (left reader))
StandAhead Nothing walk reader = Unit {0}

-- a step hands out the next field
pub record StepsTo (field : Field) (due : Due) (walk : Walk) (reader : BitPlace) (later : Due)
    (after : Walk) (rest : BitPlace) : Type 0 where
  pub ahead : StandAhead later after rest
  pub is : fields_ahead due walk reader ≡ field ∷ fields_ahead later after rest

-- a text or nothing comes next
abbrev pub IsNoStep : Due → Type 0
IsNoStep Step = ⊥
IsNoStep (Text f) = Unit {0}
IsNoStep Nothing = Unit {0}

-- a step hands out nothing: all fields are left, and what comes next is a text or nothing
pub record StepsToNone (due : Due) (walk : Walk) (reader : BitPlace) (later : Due) (after : Walk)
    (rest : BitPlace) : Type 0 where
  pub ahead : StandAhead later after rest
  pub same : fields_ahead later after rest ≡ fields_ahead due walk reader
  pub next : IsNoStep later

-- these fields in the bits left, and those of a later course
abbrev pub fields_then : courses.Course → List CommonField → BitPlace → List Field
fields_then later fields reader = fields_of (fields_at 1 1 (laid_then fields later) (left reader))

-- the bits left hold all these fields, and those of a later course
abbrev pub StandThen : courses.Course → List CommonField → BitPlace → Type 0
StandThen later fields reader = IsOk (fields_at 1 1 (laid_then fields later) (left reader))

-- the fields in the bits left: those of turns that the walk has passed, and those that it finds
abbrev pub fields_from : Option LaidTurns → Due → Walk → BitPlace → List Field
fields_from None due walk reader = fields_ahead due walk reader
fields_from (Some laid) due walk reader = fields_then (walks.left walk) (fields_left laid) reader

-- the bits left hold all fields; the walk comes after the turns that it has passed
abbrev pub StandFrom : Option LaidTurns → Due → Walk → BitPlace → Type 0
StandFrom None due walk reader = StandAhead due walk reader
StandFrom (Some laid) due walk reader =
    (due ≡ Step) × IsReady walk × StandThen (walks.left walk) (fields_left laid) reader

-- the fields of a layout in the bits left
abbrev pub fields_laid : List CommonField → BitPlace → List Field
fields_laid fields reader = fields_then (courses.ends 0) fields reader

-- a reader `bits` bits further on
abbrev pub moved_on : BitPlace → ℕ → BitPlace
moved_on reader bits = record reader { place = reader.place + bits }

-- the bits left hold all fields of the layout
abbrev pub StandLaid : List CommonField → BitPlace → Type 0
StandLaid fields reader = StandThen (courses.ends 0) fields reader

-- fields of a layout are skipped, none of them chosen, with all their bits, and the others are
-- there
pub record PassesLaid (asks : ℕ → Bool) (old new : List CommonField) (reader : BitPlace) (bits : ℕ)
    : Type 0 where
  pub within : bits ≤ length (left reader)
  pub there : StandLaid new (moved_on reader bits)
  pub passed : PassesUnasked asks (fields_laid old reader) (fields_laid new (moved_on reader bits))

-- the values at an index of the columns at these places, as fields
abbrev pub fields_there : List ℕ → ℕ → ℕ → List ColumnStart → List Field
fields_there octets n index places = map (field_of index) (map (column_from octets n) places)

-- every place has a column of n subsets, and the index is below n
abbrev pub StandThere : List ℕ → ℕ → ℕ → List ColumnStart → Type 0
StandThere octets n index places = AllOpen octets n places × (index < n)

-- Layouts: the fields of every plain subset of a tree, up to the first that a count decides (FM 94
-- BUFR, regulations 94.5.4 and 94.5.5).
use Rattle.std.specs.Prelude.{◌≡◌, ℕ, ◌+◌, ◌≤◌, Bool, true, List, [], ◌∷◌, map, Option, Some}
use Rattle.std.specs.Prelude.{None, Ok}
use Rattle.bufr_expand.specs.declared.walk.Step.TheVariants as steps
use Rattle.bufr_expand.specs.declared.walk.Walk.{Walk}
use Rattle.bufr_expand.specs.Walks.{left, Goes}
use Rattle.bufr_expand.specs.Courses.{Course, ends, asks, course}
use Rattle.bufr_expand.specs.Trees.{Tree}
use Rattle.bufr_expand.specs.Asked.{TellsNone}
use Rattle.bufr_expand.specs.Unrolling.{After, Allows}
use Rattle.bufr_expand.specs.Limits.{most_items}
use Rattle.bufr_expand.specs.EvenTurns.{told, HaveNoCount}
use Rattle.bufr_expand.specs.declared.even_turns.CommonField.{CommonField}
use Rattle.bufr_data.specs.declared.plain.layout.Layout.{Layout}
use Rattle.bufr_data.specs.declared.plain.field_layout.FieldLayout.{FieldLayout}
use Rattle.bufr_data.specs.Chosen.{is_listed, placed_from}
use Rattle.bufr_data.specs.declared.plain.field_layout.FieldLayout.TheVariants.{Unserved, Served, Laid, Unlaid}

-- the course that asks for these fields, whatever their numbers are, and then goes on
unfoldable pub laid_then : List CommonField → Course → Course
laid_then [] later = later
laid_then (f ∷ fields) later = asks 0 f.fxy f.spec (λ number. laid_then fields later)

-- the course that asks for these fields alone
abbrev pub laid_course : List CommonField → Course
laid_course fields = laid_then fields (ends 0)

-- a course asks for these fields first, and for none of the chosen ones after them
pub record BeginsWithLaid (c : Course) (fields : List CommonField) (list : List ℕ) : Type 0 where
  pub later : Course
  pub first : After c (map told fields) later
  pub no_more : TellsNone (is_listed list) later

-- every subset of this tree begins with these fields, none a count, and has no chosen field after
-- them; the chosen fields have their places. If they are all fields, the course asks for exactly
-- them, with these items, if the message has room
pub record IsLaid (tree : Tree) (layout : Layout) : Type 0 where
  pub no_count : HaveNoCount layout.fields
  pub begins : BeginsWithLaid (course tree 0) layout.fields layout.asked
  pub whole : layout.is_whole ≡ true → (used : ℕ) → used + layout.items ≤ most_items
      → Allows (course tree used) (map told layout.fields) (used + layout.items)
  pub placed : layout.places ≡ placed_from layout.asked 0 layout.fields

-- the layout of these fields and items, with the places of the fields that were asked for
pub record HasPlaces (asked : List ℕ) (fields : List CommonField) (whole : Bool) (items : ℕ)
    (layout : Layout) : Type 0 where
  pub same_asked : layout.asked ≡ asked
  pub same_fields : layout.fields ≡ fields
  pub same_whole : layout.is_whole ≡ whole
  pub same_items : layout.items ≡ items
  pub placed : layout.places ≡ placed_from layout.asked 0 layout.fields

-- a known layout is the layout of the tree's subsets
abbrev pub IsFieldLayout : Tree → FieldLayout → Type 0
IsFieldLayout tree Unserved = Unit {0}
IsFieldLayout tree Served = Unit {0}
IsFieldLayout tree (Laid layout) = IsLaid tree layout.value
IsFieldLayout tree Unlaid = Unit {0}

-- a walk returned this field, which is no count, or its end
abbrev pub TellsNext : Walk → Option CommonField → Walk → Type 0
TellsNext old (Some f) new = Goes (left old) (Ok (steps.Field f.fxy f.spec)) new
TellsNext old None new = Goes (left old) (Ok steps.End) new

-- Runs: nodes without counts. They ask for equal fields whatever the data are, so each turn of a
-- replication has equal bits and items (FM 94 BUFR, regulations 94.5.4 and 94.5.5).
use Rattle.std.specs.Prelude.{◌≡◌, ℕ, ◌+◌, ◌*◌, ◌%◌, ◌<◌, ◌≤◌, false, List, [], ◌∷◌, ◌++◌}
use Rattle.std.specs.Prelude.{length, take, ◌-◌, Option, Some}
use Rattle.std.proofs.Common.{sym, subst}
use Rattle.bufr_tables.specs.declared.element.Kind.TheVariants as kinds
use Rattle.bufr_tables.specs.Elements.{same_kind}
use Rattle.bufr_expand.specs.declared.operators.Operators.{Operators}
use Rattle.bufr_expand.specs.declared.operators.Spec.{Spec}
use Rattle.bufr_expand.specs.declared.run.Run.{Run}
use Rattle.bufr_expand.specs.declared.walk_state.Open.{Open}
use Rattle.bufr_expand.specs.declared.walk_state.State.TheVariants.{Going}
use Rattle.bufr_expand.specs.declared.walk.Walk.{Walk}
use Rattle.bufr_expand.specs.Limits.{most_items, most_number_bits}
use Rattle.bufr_expand.specs.Courses.{Course, ends, stops, asks, Then, turns, course_then}
use Rattle.bufr_expand.specs.Steady.{IsSteady}
use Rattle.bufr_expand.specs.Trees.{Tree}
use Rattle.bufr_expand.specs.Unrolling.{NumberedField, After}
use Rattle.bufr_expand.specs.Walks.{left, going, waits, items_met}

-- ---- from one course to another

-- a field whose bits are its width, whatever the data are: no count, a text in whole octets, or a
-- number of at most 63 bits
pub record HasWidth (spec : Spec) : Type 0 where
  pub no_count : same_kind spec.kind kinds.Count ≡ false
  pub whole_octets : spec.kind ≡ kinds.Text → spec.width % 8 ≡ 0
  pub few_bits : (spec.kind ≡ kinds.Text → ⊥) → spec.width ≤ most_number_bits

-- the widths of such fields add up to `bits`
unfoldable pub AddUp : List NumberedField → ℕ → Type 0
AddUp [] bits = bits ≡ 0
AddUp (field ∷ fields) bits =
    (others : ℕ) × HasWidth field.spec × AddUp fields others × (bits ≡ field.spec.width + others)

-- a course asks for the fields of a run, none a count, and leaves a later course
pub record Leads (course : Course) (run : Run) (later : Course) : Type 0 where
  pub fields : List NumberedField
  pub asked : After course fields later
  pub fields_are : length fields ≡ run.fields
  pub bits_are : AddUp fields run.bits

-- ---- runs of nodes

-- the run of no nodes
abbrev pub no_run : Run
no_run = record { fields = 0; items = 0; bits = 0 }

-- the run of a field of this width
abbrev pub field_run : ℕ → Run
field_run bits = record { fields = 1; items = 1; bits = bits }

-- a run after another
abbrev pub joined_runs : Run → Run → Run
joined_runs first others = record {
  fields = first.fields + others.fields;
  items = first.items + others.items;
  bits = first.bits + others.bits;
}

-- `times` turns of a body, each of them one more item
abbrev pub turned_run : ℕ → Run → Run
turned_run times body = record {
  fields = times * body.fields;
  items = times * (1 + body.items);
  bits = times * body.bits;
}

-- the node of a replication, an item but no field, and then its turns
abbrev pub behind_item : Run → Run
behind_item turns =
    record { fields = turns.fields; items = 1 + turns.items; bits = turns.bits }

-- the run of a field that has a spec and is no count
abbrev pub IsFieldRun : Option Spec → Run → Type 0
IsFieldRun found run = (spec : Spec) × (found ≡ Some spec)
    × (same_kind spec.kind kinds.Count ≡ false)
    × (run ≡ record { fields = 1; items = 1; bits = spec.width })

-- the first nodes of a tree are a run under operators, and `rest` follows: within the limit of
-- items, their course leads to the course of `rest`
pub record BeginsRun (nodes : Tree) (operators : Operators) (run : Run) (rest : Tree) : Type 0 where
  pub few : run.fields ≤ run.items
  pub leads : (used : ℕ) (after : Then) → used + run.items ≤ most_items
      → Leads (course_then nodes operators used after) run
      (course_then rest operators (used + run.items) after)

-- turns of nodes are a run under operators, and their course leads to what comes after
pub record TurnsRun (times : ℕ) (nodes : Tree) (operators : Operators) (run : Run) : Type 0 where
  pub few : run.fields ≤ run.items
  pub each_counts : times ≤ run.items
  pub leads : (used : ℕ) (after : Then) → used + run.items ≤ most_items
      → Leads (turns times (course_then nodes) operators used after) run
      (after operators (used + run.items))

-- ---- walks

-- a walk has passed a run with at least one item, within the limit of items, and can go on
pub record PassesRun (old : Walk) (run : Run) (new : Walk) : Type 0 where
  pub leads : Leads (left old) run (left new)
  pub answered : waits new ≡ false
  pub steady : IsSteady (items_met new) (left new)
  pub few : run.fields ≤ run.items
  pub some_item : 0 < run.items
  pub items_are : items_met new ≡ items_met old + run.items
  pub within : items_met new ≤ most_items

-- all nodes at hand are passed, and this replication is the innermost open one
pub record IsInnermost (w : Walk) (turn : Open) : Type 0 where
  pub goes : w.state ≡ Going
  pub passed : w.stop ≤ w.place
  pub loops_are : w.loops.items ≡ take (length w.loops.items - 1) w.loops.items ++ turn ∷ []

-- a walk has left a replication after all turns, with these items
pub record HasLeft (old : Walk) (turn : Open) (items : ℕ) (new : Walk) : Type 0 where
  pub course : left new ≡ going old.nodes.now turn.to turn.stop
      (take (length old.loops.items - 1) old.loops.items) old.operators (old.items + items)
  pub answered : waits new ≡ false
  pub items_are : items_met new ≡ old.items + items

-- ---- a law for proofs about walks

-- fields asked for in two parts are asked for in a row
pub after_joined : (c d e : Course) (xs ys : List NumberedField) → After c xs d → After d ys e
    → After c (xs ++ ys) e
unfolding After
after_joined c d e [] ys h g = subst (λ x. After x ys e) (sym h) g
after_joined (ends n) d e (x ∷ xs) ys h g = absurd h
after_joined (stops n fault) d e (x ∷ xs) ys h g = absurd h
after_joined (asks met fxy spec more) d e (x ∷ xs) ys h g =
    (h.0, h.1, after_joined (more x.number) d e xs ys h.2 g)

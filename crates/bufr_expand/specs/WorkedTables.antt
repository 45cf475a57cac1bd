-- Tables of worked values: lists of descriptors, their fields, and specs under operators.
use Rattle.std.specs.Prelude.{◌≡◌, ℕ, zero, suc, ◌+◌, List, [], ◌∷◌, map, length, Option, Some}
use Rattle.std.specs.Prelude.{None, ℤ, pos}
use Rattle.std.specs.Prelude.{negsuc, Result, Ok, Err}
use Rattle.bufr_base.specs.Answers.{result_map}
use Rattle.bufr_tables.specs.declared.element.Element.{Element}
use Rattle.bufr_tables.specs.declared.element.Kind.{Kind}
use Rattle.bufr_tables.specs.declared.element.Kind.TheVariants as kinds
use Rattle.bufr_tables.specs.Descriptors.{descriptor}
use Rattle.bufr_tables.specs.Entries.{Entries}
use Rattle.bufr_expand.specs.declared.node.Node.{Node}
use Rattle.bufr_expand.specs.declared.node.Node.TheVariants as nodes
use Rattle.bufr_expand.specs.declared.node.TemplateFault.{TemplateFault}
use Rattle.bufr_expand.specs.declared.node.TemplateFault.TheVariants.{UnsupportedOperator}
use Rattle.bufr_expand.specs.declared.node.TemplateFault.TheVariants.{BadReplication, BadFactor}
use Rattle.bufr_expand.specs.declared.operators.Spec.{Spec}
use Rattle.bufr_expand.specs.declared.run.Run.{Run}
use Rattle.bufr_expand.specs.declared.walk.WalkFault.TheVariants.{TooLarge, EffectiveRange}
use Rattle.bufr_expand.specs.Courses.{Course, ends, stops, asks, course}
use Rattle.bufr_expand.specs.Expansion.{Expansion, expansion, expand_within}
use Rattle.bufr_expand.specs.Limits.{most_items, most_nodes, most_lists}
use Rattle.bufr_expand.specs.Limits.{most_sequence_levels, most_replication_levels}
use Rattle.bufr_expand.specs.OperatorsInForce.{none_in_force, effective}
use Rattle.bufr_expand.specs.Samples.{sample, row, number_row, temperature_row}
use Rattle.bufr_expand.specs.Samples.{operator, in_force, latitude_under, call_sign_under}
use Rattle.bufr_expand.specs.Samples.{quantity, text}
use Rattle.bufr_expand.specs.Templates.{template}

-- each row of a table pairs an argument with its result
abbrev pub Becomes : {X Y : Type 0} → (X → Y) → List (X × Y) → Type 0
Becomes f rows = map (λ row. f row.0) rows ≡ map (λ row. row.1) rows

-- ---- descriptors

-- 012101, temperature
abbrev pub temperature : ℕ
temperature = descriptor 0 12 101

-- 001001, WMO block number
abbrev pub block : ℕ
block = descriptor 0 1 1

-- 001011, a ship's call sign
abbrev pub call_sign : ℕ
call_sign = descriptor 0 1 11

-- 002001, type of station
abbrev pub code : ℕ
code = descriptor 0 2 1

-- 031001, delayed descriptor replication factor
abbrev pub factor : ℕ
factor = descriptor 0 31 1

-- 001250, which the sample tables lack
abbrev pub local : ℕ
local = descriptor 0 1 250

-- the node of the temperature
abbrev pub temperature_node : Node
temperature_node = nodes.Element temperature temperature_row

-- the node of the block number
abbrev pub block_node : Node
block_node = nodes.Element block (number_row 7)

-- one field that no operator changes
abbrev pub untouched_alone : ℕ → Element → Expansion
untouched_alone d row = Ok (nodes.Untouched d row ∷ [])

-- ---- operators

-- 2 XX YYY alone
abbrev pub alone : ℕ → ℕ → Expansion
alone x y = expansion sample (descriptor 2 x y ∷ [])

-- X of each operator that is left out: all but 1, 2, 5, 6, 7 and 8
abbrev pub left_out : List ℕ
left_out =
    0 ∷ 3 ∷ 4 ∷ 9 ∷ 10 ∷ 11 ∷ 12 ∷ 13 ∷ 14 ∷ 15 ∷ 16 ∷ 17 ∷ 18 ∷ 19 ∷ 20 ∷ 21 ∷ 22 ∷ 23 ∷ 24 ∷ 25
    ∷ 26 ∷ 27 ∷ 28 ∷ 29 ∷ 30 ∷ 31 ∷ 32 ∷ 33 ∷ 34 ∷ 35 ∷ 36 ∷ 37 ∷ 38 ∷ 39 ∷ 40 ∷ 41 ∷ 42 ∷ 43 ∷ 44
    ∷ 45 ∷ 46 ∷ 47 ∷ 48 ∷ 49 ∷ 50 ∷ 51 ∷ 52 ∷ 53 ∷ 54 ∷ 55 ∷ 56 ∷ 57 ∷ 58 ∷ 59 ∷ 60 ∷ 61 ∷ 62 ∷ 63
    ∷ []

-- X3
abbrev pub unsupported : ℕ → ℕ → Expansion
unsupported x y = Err (UnsupportedOperator (descriptor 2 x y))

-- the node of an operator that stays in force
abbrev pub operator_alone : ℕ → ℕ → Expansion
operator_alone x y = Ok (nodes.Operator (descriptor 2 x y) ∷ [])

-- 206 YYY and a descriptor after it
abbrev pub behind_206 : ℕ × ℕ → Expansion
behind_206 given = expansion sample (descriptor 2 6 given.0 ∷ given.1 ∷ [])

-- ---- replications and factors

-- X4
abbrev pub bad_replication : ℕ → ℕ → Expansion
bad_replication x y = Err (BadReplication (descriptor 1 x y))

-- factors and their neighbours, each with a row that a factor can have
abbrev pub with_neighbours : Entries
with_neighbours = record {
  elements =
      (descriptor 0 1 1, number_row 7) ∷ (descriptor 0 12 101, temperature_row)
      ∷ (descriptor 0 30 0, number_row 8) ∷ (descriptor 0 30 1, number_row 8)
      ∷ (descriptor 0 30 255, number_row 8) ∷ (descriptor 0 31 0, number_row 1)
      ∷ (descriptor 0 31 1, number_row 8) ∷ (descriptor 0 31 2, number_row 16)
      ∷ (descriptor 0 31 3, number_row 8) ∷ (descriptor 0 31 11, number_row 8)
      ∷ (descriptor 0 31 12, number_row 16) ∷ (descriptor 0 31 255, number_row 8)
      ∷ (descriptor 0 32 0, number_row 8) ∷ [];
  sequences = (descriptor 3 31 1, descriptor 0 31 1 ∷ []) ∷ [];
}

-- a temperature repeated by a factor
abbrev pub by_factor : Entries → ℕ → Expansion
by_factor tables factor = expansion tables (descriptor 1 1 0 ∷ factor ∷ temperature ∷ [])

-- its nodes, if the factor is one
abbrev pub delayed : ℕ → Element → Expansion
delayed factor row = Ok (nodes.Delayed factor row 1 ∷ temperature_node ∷ [])

-- X5
abbrev pub bad_factor : ℕ → Expansion
bad_factor factor = Err (BadFactor factor)

-- ---- levels

-- n levels of replications around a list
unfoldable pub nested : ℕ → List ℕ → List ℕ
nested zero list = list
nested (suc n) list = descriptor 1 (suc n) 2 ∷ nested n list

-- their nodes, the innermost with a body of one node
unfoldable pub nested_nodes : ℕ → Node → List Node
nested_nodes zero node = node ∷ []
nested_nodes (suc n) node = nodes.Repeated 2 (suc n) ∷ nested_nodes n node

-- sequences from d on, each with the next alone in it, and the last with a list
unfoldable pub chained : ℕ → ℕ → List ℕ → List (ℕ × List ℕ)
chained zero d list = (d, list) ∷ []
chained (suc n) d list = (d, (d + 1) ∷ []) ∷ chained n (d + 1) list

-- 301201 to 301217
abbrev pub chain : List ℕ → Entries
chain list = record {
  elements = (block, number_row 7) ∷ (temperature, temperature_row) ∷ [];
  sequences = chained most_sequence_levels (descriptor 3 1 201) list;
}

-- a list after a number of nodes, in no sequence and no replication
abbrev pub behind_nodes : ℕ × List ℕ → Expansion
behind_nodes given =
    expand_within most_lists sample most_sequence_levels most_replication_levels given.0 given.1

-- a list after the most nodes, with levels of sequences and replications still allowed
abbrev pub behind_all_nodes : ℕ × ℕ × List ℕ → Expansion
behind_all_nodes given = expand_within most_lists sample given.0 given.1 most_nodes given.2

-- ---- fields

-- a spec
abbrev pub spec : Kind → ℤ → ℤ → ℕ → Spec
spec kind scale reference width =
    record { kind = kind; scale = scale; reference = reference; width = width }

-- the fields of a course and its end, if each count has this number
unfoldable pub walked : ℕ → Course → List (ℕ × Spec) × Course
walked number (ends met) = ([], ends met)
walked number (stops met fault) = ([], stops met fault)
walked number (asks met fxy spec more) =
    let later = walked number (more number) in ((fxy, spec) ∷ later.0, later.1)

-- the fields of a list of descriptors after `used` items, and its end
abbrev pub walk : Entries → ℕ → ℕ → List ℕ → Result (List (ℕ × Spec) × Course) TemplateFault
walk tables used number list =
    result_map (λ tree. walked number (course tree used)) (template tables list)

-- the fields of a list by the sample tables, if each count has the number beside the list
abbrev pub counting : ℕ → ℕ × List ℕ → Result (List (ℕ × Spec) × Course) TemplateFault
counting used given = walk sample used given.0 given.1

-- the number of fields of a list after `used` items, and its end
abbrev pub ending : Entries → ℕ → List ℕ → ℕ → Result (ℕ × Course) TemplateFault
ending tables number list used =
    result_map (λ all. (length all.0, all.1)) (walk tables used number list)

-- a table in which all rows have one result
abbrev pub rows_of : {X Y : Type 0} → List X → Y → List (X × Y)
rows_of given result = map (λ x. (x, result)) given

-- the temperature, the latitude and the call sign with rows outside the limits, one part each: 64
-- bits, a scale of 128, and a text of 12 bits
abbrev pub without_specs : Entries
without_specs = record {
  elements =
      (block, row kinds.Quantity (pos 128) (pos 0) 8)
      ∷ (call_sign, row kinds.Text (pos 0) (pos 0) 12)
      ∷ (temperature, row kinds.Quantity (pos 2) (pos 0) 64) ∷ [];
  sequences = [];
}

-- V1 at the first field, which is item `met`
abbrev pub refused : ℕ → ℕ → Result (List (ℕ × Spec) × Course) TemplateFault
refused met fxy = Ok ([], stops met (EffectiveRange fxy))

-- V6, with the most items of a message
abbrev pub full : Course
full = stops most_items TooLarge

-- the field of the factor 031001
abbrev pub count : ℕ × Spec
count = (factor, spec kinds.Count (pos 0) (pos 0) 8)

-- the field of the temperature, by its scale and width
abbrev pub kelvin : ℕ → ℕ → ℕ × Spec
kelvin scale width = (temperature, spec kinds.Quantity (pos scale) (pos 0) width)

-- the field of the block number, by its width
abbrev pub blocks : ℕ → ℕ × Spec
blocks width = (block, spec kinds.Quantity (pos 0) (pos 0) width)

-- a run of fields, items and bits
abbrev pub run : ℕ → ℕ → ℕ → Run
run fields items bits = record { fields = fields; items = items; bits = bits }

-- ---- specs under operators

-- 201 with two bits more
abbrev pub wider : ℕ
wider = operator 1 130

-- 202 with three digits more
abbrev pub finer : ℕ
finer = operator 2 131

-- 207 with Y = 1
abbrev pub increased : ℕ
increased = operator 7 1

-- 208 with four characters
abbrev pub shorter : ℕ
shorter = operator 8 4

-- the latitude and the call sign under operators
abbrev pub latitude_and_call_sign : List ℕ → Option Spec × Option Spec
latitude_and_call_sign operators = (latitude_under operators, call_sign_under operators)

-- a latitude of this scale, of the reference value -1 - `below` and of this width, and a call sign
-- of `bits` bits
abbrev pub both : ℕ → ℕ → ℕ → ℕ → Option Spec × Option Spec
both scale below width bits = (quantity (pos scale) (negsuc below) width, text bits)

-- an element under 201, 202, 207 and 208, one at a time
abbrev pub under_each : ℕ → Element → List (Option Spec)
under_each fxy row =
    map (λ operator. effective fxy row (in_force (operator ∷ [])))
    (wider ∷ finer ∷ increased ∷ shorter ∷ [])

-- a number of a kind as its row has it: scale 3, reference value -5 and six bits
abbrev pub as_row : Kind → Option Spec
as_row kind = Some (spec kind (pos 3) (negsuc 4) 6)

-- an element under no operator
abbrev pub under_none : ℕ → Element → Option Spec
under_none fxy row = effective fxy row none_in_force

-- rows of a kind at each limit, in width, scale and reference value
abbrev pub at_limits : Kind → List Element
at_limits kind =
    row kind (pos 0) (pos 0) 1 ∷ row kind (pos 0) (pos 0) 63 ∷ row kind (pos 127) (pos 0) 8
    ∷ row kind (negsuc 126) (pos 0) 8 ∷ row kind (pos 0) (pos 4611686018427387904) 8
    ∷ row kind (pos 0) (negsuc 4611686018427387903) 8 ∷ row kind (pos 3) (negsuc 4) 6 ∷ []

-- rows of a kind above each limit
abbrev pub beyond_limits : Kind → List Element
beyond_limits kind =
    row kind (pos 0) (pos 0) 0 ∷ row kind (pos 0) (pos 0) 64 ∷ row kind (pos 128) (pos 0) 8
    ∷ row kind (negsuc 127) (pos 0) 8 ∷ row kind (pos 0) (pos 4611686018427387905) 8
    ∷ row kind (pos 0) (negsuc 4611686018427387904) 8 ∷ []

-- the spec of a row as it is
abbrev pub some_spec : Element → Option Spec
some_spec row = Some (spec row.kind row.scale row.reference row.width)

-- no spec
abbrev pub no_spec : Element → Option Spec
no_spec row = None

-- a row of one bit with a reference value, under 207 YYY and 201 with eight bits less
abbrev pub increased_reference : ℕ × ℤ → Option Spec
increased_reference given =
    effective temperature (row kinds.Quantity (pos 0) given.1 1)
    (in_force (operator 1 120 ∷ operator 7 given.0 ∷ []))

-- The nodes of a list of descriptors in depth-first order, or its first fault (FM 94 BUFR,
-- regulations 94.5.3 to 94.5.5; Table C).
use Rattle.std.specs.Prelude.{ℕ, zero, suc, ◌+◌, ◌*◌, ◌==◌, ◌&&◌, ◌||◌, not, Bool, List, [], ◌∷◌}
use Rattle.std.specs.Prelude.{◌++◌, length, take, Option, Some, None, Result, Ok, Err, pos, nat_lt}
use Rattle.std.specs.Prelude.{nat_le, if◌then◌else◌}
use Rattle.bufr_base.specs.Answers.{◌>>=◌, result_map}
use Rattle.bufr_tables.specs.declared.element.Element.{Element}
use Rattle.bufr_tables.specs.declared.element.Kind.TheVariants as kinds
use Rattle.bufr_tables.specs.Descriptors.{f_of, x_of, y_of, descriptor}
use Rattle.bufr_tables.specs.Entries.{Entries, element, sequence}
use Rattle.bufr_tables.specs.Elements.{same_kind, same_integer}
use Rattle.bufr_expand.specs.Limits.{most_nodes, most_number_bits, most_factor_bits}
use Rattle.bufr_expand.specs.Limits.{most_sequence_levels, most_replication_levels, most_lists}
use Rattle.bufr_expand.specs.declared.node.Node.{Node}
use Rattle.bufr_expand.specs.declared.node.Node.TheVariants as nodes
use Rattle.bufr_expand.specs.declared.node.Repetitions.{Repetitions}
use Rattle.bufr_expand.specs.declared.node.Repetitions.TheVariants as repetitions
use Rattle.bufr_expand.specs.declared.node.TemplateFault.{TemplateFault}
use Rattle.bufr_expand.specs.declared.node.TemplateFault.TheVariants.{UnknownElement}
use Rattle.bufr_expand.specs.declared.node.TemplateFault.TheVariants.{UnknownSequence}
use Rattle.bufr_expand.specs.declared.node.TemplateFault.TheVariants.{UnsupportedOperator}
use Rattle.bufr_expand.specs.declared.node.TemplateFault.TheVariants.{BadReplication, BadFactor}
use Rattle.bufr_expand.specs.declared.node.TemplateFault.TheVariants.{BadOperand, Dangling206}
use Rattle.bufr_expand.specs.declared.node.TemplateFault.TheVariants.{TooDeep, TooManyNodes}

-- the nodes of a list, or its first fault
abbrev pub Expansion : Type 0
Expansion = Result (List Node) TemplateFault

-- ---- the meaning of a descriptor

-- one node, the list of a sequence, or a replication of a list
pub data Part : Type 0 where
  single : Node → Part
  inner : List ℕ → Part
  replication : Repetitions → List ℕ → Part

-- a part, and the number of descriptors that it takes after the first
pub record FirstPart : Type 0 where
  pub part : Part
  pub taken : ℕ

-- a part, or one of X1 to X7
abbrev pub Finding : Type 0
Finding = Result FirstPart TemplateFault

-- a part that takes `taken` descriptors after the first
abbrev pub found : Part → ℕ → Finding
found part taken = Ok (record { part = part; taken = taken })

-- an element of Table B is one node
abbrev pub element_found : ℕ → Option Element → Finding
element_found d None = Err (UnknownElement d)
element_found d (Some e) = found (single (nodes.Element d e)) 0

-- a sequence is its list in Table D (94.5.3)
abbrev pub sequence_found : ℕ → Option (List ℕ) → Finding
sequence_found d None = Err (UnknownSequence d)
sequence_found d (Some list) = found (inner list) 0

-- the body of a replication is the next X descriptors of the same list (94.5.4)
abbrev pub repeated_found : ℕ → List ℕ → Finding
repeated_found d behind =
    if nat_lt (length behind) (x_of d) then Err (BadReplication d)
    else found (replication (repetitions.Times (y_of d)) (take (x_of d) behind)) (x_of d)

-- whether a row of Table B can be a factor's: a number of 1 to 16 bits without scale and reference
-- value
abbrev pub is_factor_row : Element → Bool
is_factor_row e = not (same_kind e.kind kinds.Text) && same_integer e.scale (pos 0)
    && same_integer e.reference (pos 0) && nat_le 1 e.width && nat_le e.width most_factor_bits

-- the row of a delayed replication factor: 031000, 031001 or 031002 (Table B, class 31)
abbrev pub factor_row : Entries → ℕ → Option Element
factor_row tables d =
    if nat_le (descriptor 0 31 0) d && nat_le d (descriptor 0 31 2) then element tables d else None

-- after a factor the body is the next X descriptors: X does not count the factor (94.5.4.2)
abbrev pub factor_found : ℕ → ℕ → List ℕ → Option Element → Finding
factor_found d factor behind None = Err (BadFactor factor)
factor_found d factor behind (Some e) =
    if not (is_factor_row e) then Err (BadFactor factor)
    else if nat_lt (length behind) (x_of d) then Err (BadReplication d)
    else found (replication (repetitions.Factor factor e) (take (x_of d) behind)) (x_of d + 1)

-- a replication by the next descriptor, its factor (94.5.4.2)
abbrev pub delayed_found : Entries → ℕ → List ℕ → Finding
delayed_found tables d [] = Err (BadReplication d)
delayed_found tables d (factor ∷ behind) = factor_found d factor behind (factor_row tables factor)

-- a replication; with Y = 0 the next descriptor is the factor (94.5.4)
abbrev pub replication_found : Entries → ℕ → List ℕ → Finding
replication_found tables d behind =
    if x_of d == 0 then Err (BadReplication d)
    else if y_of d == 0 then delayed_found tables d behind
    else repeated_found d behind

-- a text of y characters (Table C, 205)
abbrev pub text_of_characters : ℕ → Element
text_of_characters y = record { kind = kinds.Text; scale = pos 0; reference = pos 0; width = 8 * y }

-- a number of y bits that no table describes
abbrev pub local_number : ℕ → Element
local_number y = record { kind = kinds.Quantity; scale = pos 0; reference = pos 0; width = y }

-- 206 YYY before an element without a row of YYY bits: a number of at most 63 bits
abbrev pub number_found : ℕ → ℕ → Finding
number_found d local =
    if nat_lt most_number_bits (y_of d) then Err (BadOperand d)
    else found (single (nodes.Untouched local (local_number (y_of d)))) 1

-- the element after 206 YYY has its row if that is YYY bits wide, else it is a plain number (Table
-- C, 206)
abbrev pub local_found : ℕ → ℕ → Option Element → Finding
local_found d local None = number_found d local
local_found d local (Some e) =
    if e.width == y_of d then found (single (nodes.Untouched local e)) 1 else number_found d local

-- 206 YYY and the element after it
abbrev pub width_found : Entries → ℕ → List ℕ → Finding
width_found tables d [] = Err (Dangling206 d)
width_found tables d (local ∷ behind) =
    if f_of local == 0 then local_found d local (element tables local) else Err (Dangling206 d)

-- whether an operator stays in force (Table C: 201, 202, 207 and 208)
abbrev pub stays_in_force : ℕ → Bool
stays_in_force x = x == 1 || x == 2 || x == 7 || x == 8

-- 205 YYY: YYY characters (Table C)
abbrev pub text_found : ℕ → Finding
text_found d = found (single (nodes.Untouched d (text_of_characters (y_of d)))) 0

-- 205 and 206 have an operand other than 0
abbrev pub with_operand : ℕ → Finding → Finding
with_operand d finding = if y_of d == 0 then Err (BadOperand d) else finding

-- an operator, by its X (Table C)
abbrev pub operator_found : Entries → ℕ → List ℕ → Finding
operator_found tables d behind =
    if stays_in_force (x_of d) then found (single (nodes.Operator d)) 0
    else if x_of d == 5 then with_operand d (text_found d)
    else if x_of d == 6 then with_operand d (width_found tables d behind)
    else Err (UnsupportedOperator d)

-- a descriptor by its F (section 3: 0 an element, 1 a replication, 2 an operator, 3 a sequence)
abbrev pub found_by : ℕ → Entries → ℕ → List ℕ → Finding
found_by zero tables d behind = element_found d (element tables d)
found_by (suc zero) tables d behind = replication_found tables d behind
found_by (suc (suc zero)) tables d behind = operator_found tables d behind
found_by (suc (suc (suc f))) tables d behind = sequence_found d (sequence tables d)

-- the meaning of a descriptor, given those after it in the same list
abbrev pub found_at : Entries → ℕ → List ℕ → Finding
found_at tables d behind = found_by (f_of d) tables d behind

-- ---- the nodes of a part

-- the expansion of a sequence's list or a body, given the levels of sequences and of replications
-- still allowed, and the number of nodes before
abbrev pub Deeper : Type 0
Deeper = ℕ → ℕ → ℕ → List ℕ → Expansion

-- the node of a replication, with the size of its body
abbrev pub replication_node : Repetitions → ℕ → Node
replication_node (repetitions.Times times) size = nodes.Repeated times size
replication_node (repetitions.Factor d e) size = nodes.Delayed d e size

-- one node, if there is room for it
abbrev pub single_nodes : ℕ → Node → Expansion
single_nodes used node = if nat_lt used most_nodes then Ok (node ∷ []) else Err TooManyNodes

-- a replication is one node, with the nodes of its body once after it
abbrev pub replication_nodes : Deeper → ℕ → ℕ → ℕ → Repetitions → List ℕ → Expansion
replication_nodes deeper s r used repetitions body =
    if nat_lt used most_nodes
    then (deeper s r (used + 1) body >>= λ ns. Ok (replication_node repetitions (length ns) ∷ ns))
    else Err TooManyNodes

-- the nodes of a part, given the levels still allowed and the number of nodes before
abbrev pub part_nodes : Deeper → ℕ → ℕ → ℕ → Part → Expansion
part_nodes deeper s r used (single node) = single_nodes used node
part_nodes deeper zero r used (inner list) = Err TooDeep
part_nodes deeper (suc s) r used (inner list) = deeper s r used list
part_nodes deeper s zero used (replication repetitions body) = Err TooDeep
part_nodes deeper s (suc r) used (replication repetitions body) =
    replication_nodes deeper s r used repetitions body

-- the nodes of one list; the part before takes its first `skip` descriptors
unfoldable pub expand_list : Entries → Deeper → ℕ → ℕ → ℕ → ℕ → List ℕ → Expansion
expand_list tables deeper s r skip used [] = Ok []
expand_list tables deeper s r (suc skip) used (d ∷ behind) =
    expand_list tables deeper s r skip used behind
expand_list tables deeper s r zero used (d ∷ behind) = do
  next ← found_at tables d behind
  first ← part_nodes deeper s r used next.part
  rest ← expand_list tables deeper s r next.taken (used + length first) behind
  Ok (first ++ rest)

-- a list with at most `levels` levels in it, its own included
unfoldable pub expand_within : ℕ → Entries → Deeper
expand_within zero tables s r used list = Err TooDeep
expand_within (suc levels) tables s r used list =
    expand_list tables (expand_within levels tables) s r 0 used list

-- the expansion of a template's list, within the levels of sequences and of replications
abbrev pub expansion : Entries → List ℕ → Expansion
expansion tables list =
    expand_within most_lists tables most_sequence_levels most_replication_levels 0 list

-- the nodes of an expansion appended to others
abbrev pub onto : List Node → Expansion → Expansion
onto before expanded = result_map (λ ns. before ++ ns) expanded

-- the nodes of a list's first part appended to others, and the number of descriptors that it takes
abbrev pub first_onto : Deeper → ℕ → ℕ → List Node → Finding → Result (List Node × ℕ) TemplateFault
first_onto deeper s r before finding = do
  next ← finding
  after ← onto before (part_nodes deeper s r (length before) next.part)
  Ok (after, next.taken)

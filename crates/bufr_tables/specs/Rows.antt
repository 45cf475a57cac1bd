-- The rows of Tables B and D (FM 94 BUFR, Tables B and D, as the WMO publishes them in columns),
-- and how they add up.
use Rattle.std.specs.Prelude.{ℕ, ◌==◌, Bool, List, [], ◌∷◌, ◌++◌, length, map, take, get_or, codes}
use Rattle.std.specs.Prelude.{bytes_eq, Option, Some, None, is_some, option_map, option_and_then}
use Rattle.std.specs.Prelude.{Result, Ok, Err, if◌then◌else◌}
use Rattle.std.specs.Char.{to_ascii_lowercase}
use Rattle.std.specs.Ordering.{nat_cmp}
use Rattle.std.specs.BTreeMap.{insert_entry}
use Rattle.bufr_tables.specs.declared.element.Element.{Element}
use Rattle.bufr_tables.specs.declared.element.Kind.{Kind}
use Rattle.bufr_tables.specs.declared.element.Kind.TheVariants as kinds
use Rattle.bufr_tables.specs.declared.table_faults.TableFault.{TableFault}
use Rattle.bufr_tables.specs.declared.table_faults.TableFault.TheVariants.{SplitSequence}
use Rattle.bufr_tables.specs.Descriptors.{of_text}
use Rattle.bufr_tables.specs.Entries.{at}
use Rattle.bufr_tables.specs.Numbers.{signed_of, unsigned_of, descriptor_of}

-- whether a text begins with another
abbrev pub begins_with : List ℕ → List ℕ → Bool
begins_with front text = bytes_eq (take (length front) text) front

-- the kind of an element by its unit in lower case; a common code table is a code table
abbrev pub kind_in_lower : List ℕ → Kind
kind_in_lower unit =
    if bytes_eq unit (codes "ccitt ia5") then kinds.Text
    else if bytes_eq unit (codes "code table") then kinds.Code
    else if bytes_eq unit (codes "flag table") then kinds.Flag
    else if begins_with (codes "common code table") unit then kinds.Code
    else kinds.Quantity

-- the kind of an element by its unit, in either case (Table B)
abbrev pub kind_of : List ℕ → Kind
kind_of unit = kind_in_lower (map to_ascii_lowercase unit)

-- cell i of a row; empty past the end
abbrev pub cell : List (List ℕ) → ℕ → List ℕ
cell cells i = get_or cells i []

-- a row of Table B by its cells FXY, unit, scale, reference value and data width: its descriptor
-- and its element
unfoldable pub element_row : List (List ℕ) → Option (ℕ × Element)
element_row cells =
    option_and_then (λ d. option_and_then (λ s. option_and_then (λ r. option_map
    (λ w. (d, record { kind = kind_of (cell cells 1); scale = s; reference = r; width = w }))
    (unsigned_of 32 (cell cells 4))) (signed_of 64 (cell cells 3))) (signed_of 32 (cell cells 2)))
    (descriptor_of 0 (cell cells 0))

-- a row of Table D by its cells FXY1 and FXY2: a sequence and one of its descriptors
unfoldable pub member_row : List (List ℕ) → Option (ℕ × ℕ)
member_row cells =
    option_and_then (λ d. option_map (λ m. (d, m)) (of_text (cell cells 1)))
    (descriptor_of 3 (cell cells 0))

-- the finished sequences, and the one whose rows are being read
pub record Sequences : Type 0 where
  pub ended : List (ℕ × List ℕ)
  pub open_one : Option (ℕ × List ℕ)

-- no sequences yet
abbrev pub no_sequences : Sequences
no_sequences = record { ended = []; open_one = None }

-- all sequences, the unfinished one included
abbrev pub all_sequences : Sequences → List (ℕ × List ℕ)
all_sequences s = sequences_with s.ended s.open_one
  where
    sequences_with : List (ℕ × List ℕ) → Option (ℕ × List ℕ) → List (ℕ × List ℕ)
    sequences_with ended None = ended
    sequences_with ended (Some o) = insert_entry nat_cmp ended o.0 o.1

-- starts a sequence with its first row, unless it was finished before
abbrev pub begins : List (ℕ × List ℕ) → ℕ → ℕ → Result Sequences TableFault
begins ended d m =
    if is_some (at d ended) then Err (SplitSequence d)
    else Ok (record { ended = ended; open_one = Some (d, m ∷ []) })

-- adds a row to the sequences, given the one whose rows are being read
abbrev pub member_joins : Sequences → ℕ → ℕ → Option (ℕ × List ℕ)
    → Result Sequences TableFault
member_joins so_far d m None = begins so_far.ended d m
member_joins so_far d m (Some o) =
    if o.0 == d then Ok (record { ended = so_far.ended; open_one = Some (d, o.1 ++ m ∷ []) })
    else begins (insert_entry nat_cmp so_far.ended o.0 o.1) d m

-- adds a row to the sequences
abbrev pub with_member : Sequences → ℕ × ℕ → Result Sequences TableFault
with_member so_far (d, m) = member_joins so_far d m so_far.open_one

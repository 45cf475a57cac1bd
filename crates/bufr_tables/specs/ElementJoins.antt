-- Adding rows to Table B (FM 94 BUFR, Table B).
use Rattle.std.specs.Prelude.{ℕ, List, Option, Some, None, Result, Ok, Err, if◌then◌else◌}
use Rattle.std.specs.Ordering.{nat_cmp}
use Rattle.std.specs.BTreeMap.{insert_entry}
use Rattle.bufr_tables.specs.declared.element.Element.{Element}
use Rattle.bufr_tables.specs.declared.table_faults.TableFault.{TableFault}
use Rattle.bufr_tables.specs.declared.table_faults.TableFault.TheVariants.{Conflict}
use Rattle.bufr_tables.specs.Elements.{same_element}
use Rattle.bufr_tables.specs.Entries.{at}

-- adds a row to rows that have `old` at its descriptor: an equal row changes nothing, a different
-- one is a conflict
abbrev pub element_joins : List (ℕ × Element) → ℕ → Element → Option Element
    → Result (List (ℕ × Element)) TableFault
element_joins rows d e None = Ok (insert_entry nat_cmp rows d e)
element_joins rows d e (Some old) = if same_element old e then Ok rows else Err (Conflict d)

-- adds a row to the rows before it
abbrev pub with_element : List (ℕ × Element) → ℕ × Element
    → Result (List (ℕ × Element)) TableFault
with_element rows (d, e) = element_joins rows d e (at d rows)

-- Maps are equal exactly if their entries are.
use Rattle.std.specs.Cmp.{unsigned_Decides}
use Rattle.std.proofs.lemmas.Map.Lookups.{btree_map_eq-Decides}
use Rattle.bufr_tables.proofs.TableFacts.{element_eq-Decides}
use Rattle.bufr_tables.proofs.table_b.TableB.same.Goals as goal

pub returns : goal.returns
returns c =
    rw (← c.self.view_is, ← c.other.view_is)
    (btree_map_eq-Decides unsigned_Decides element_eq-Decides c.self.inside.rows c.other.inside.rows
    c.eq.result c.eq.ensures)

use Rattle.std.specs.Cmp.{unsigned_Decides}
use Rattle.std.proofs.lemmas.Map.Lookups.{btree_map_eq-Decides}
use Rattle.std.proofs.lemmas.Slice.Eq.{bytes_eq-Decides}
use Rattle.bufr_tables.proofs.table_d.TableD.same.Goals as goal

pub returns : goal.returns
returns c =
    rw (← c.self.view_is, ← c.other.view_is)
    (btree_map_eq-Decides unsigned_Decides bytes_eq-Decides c.self.inside.rows c.other.inside.rows
    c.eq.result c.eq.ensures)

use Rattle.std.proofs.Common.{◌≡◌, ◌+◌, ◌++◌, take, drop}
use Rattle.bufr_expand.specs.Courses.{course}
use Rattle.bufr_fields.specs.Forms.{items_of_all}
use Rattle.bufr_data.specs.Plain.{plain_subsets}
use Rattle.bufr_data.proofs.plain.write.write_each.Given as goal

-- the items from the next subset on are those of all, and the bits of the subsets before it are put
abbrev pub invariant-loop-index : goal.invariant-loop-index
invariant-loop-index l = record {
  so_far : items_of_all (course l.fn.template) 1 0 l.subsets
      ≡ items_of_all (course l.fn.template) (l.index + 1) l.used (drop l.index l.subsets);
  put : l.sink ≡ l.fn.sink ++ plain_subsets (take l.index l.subsets);
}

-- Files that nobody has read: for `files_of`, and so for `run_command` of bufr_tool.
use Rattle.std.proofs.Common.{◌≡◌, false, List, [], ◌∷◌, ◌++◌, map}
use Rattle.std.specs.List.{AllByRecursion}
use Rattle.bufr_bits.specs.Devices.{Reading}
use Rattle.bufr_io.specs.declared.lazy_input.LazyInput.{LazyInput}
use Rattle.bufr_io.specs.Engines.{IsFresh}

-- the file works, and nobody has read it
pub record Unread {A B C : Type 0} (r : LazyInput A B C) : Type 0 where
  pub failed : r.failed ≡ false
  pub reads : r.reads ≡ 0
  pub met_end : r.met_end ≡ false

pub unread_more : {A B C : Type 0} (files : List (LazyInput A B C)) (r : LazyInput A B C)
    → AllByRecursion Unread files → Unread r → AllByRecursion Unread (files ++ r ∷ [])
unread_more [] r all here = (here, tt)
unread_more (x ∷ files) r all here = (all.0, unread_more files r all.1 here)

pub fresh_all : {A B C : Type 0} (reading : LazyInput A B C → Reading)
    (files : List (LazyInput A B C)) → ((r : LazyInput A B C) → Unread r → IsFresh (reading r))
    → AllByRecursion Unread files → AllByRecursion IsFresh (map reading files)
fresh_all reading [] is all = tt
fresh_all reading (r ∷ files) is all = (is r all.0, fresh_all reading files is all.1)

-- Reports added one by one: for `add_all` and `add_message` of archives and builders.
use Rattle.std.proofs.Common.{◌≡◌, ℕ, ◌+◌, ◌<◌, ◌≤◌, Bool, true, false, cond, Option, None, List}
use Rattle.std.proofs.Common.{[], ◌∷◌, ◌++◌, length, take, get_or, refl, ap, ◌∙◌, arith}
use mir.Val.{bool_byte}
use Rattle.bufr_entries.specs.declared.entry.Entry.{Entry}
use Rattle.bufr_entries.specs.Entries.{kept}
use Rattle.bufr_gather.specs.Archives.{ArchiveView, taken_in, entries_of}
use Rattle.bufr_gather.specs.TakenLaws.{entries_more, taken_more}
use Rattle.bufr_archive.specs.Adding.{count_changes}
use Rattle.bufr_archive.proofs.ChangeCounts.{count_kept, count_more}

-- the entry of each report
abbrev Reports : Type 0
Reports = List (Option Entry)

-- the first i reports are added
pub record SoFar (old new : ArchiveView) (reports : Reports) (i changed : ℕ) : Type 0 where
  pub archive : new ≡ taken_in old (take i reports)
  pub changed_is : changed ≡ count_changes old.entries (entries_of (take i reports))
  pub few : changed ≤ i

byte_is : (b : Bool) → bool_byte b ≡ cond b 1 0
byte_is true = refl
byte_is false = refl

byte_small : (b : Bool) → bool_byte b ≤ 1
byte_small true = omega arith
byte_small false = omega arith

pub one_more : (old new next : ArchiveView) (rs : Reports) (i changed : ℕ) (b : Bool)
    → i < length rs → SoFar old new rs i changed → next ≡ taken_in new (get_or rs i None ∷ [])
    → cond b 1 0 ≡ count_changes new.entries (entries_of (get_or rs i None ∷ []))
    → SoFar old next rs (i + 1) (changed + bool_byte b)
one_more old new next rs i changed b h s is count =
    let one = entries_of (get_or rs i None ∷ []) in
    let before = entries_of (take i rs) in
    let added = entries_more rs i h in
    let held : new.entries ≡ kept (old.entries ++ before) =
    ap (λ (a : ArchiveView). a.entries) s.archive in
    let counted : bool_byte b ≡ count_changes (old.entries ++ before) one =
    byte_is b ∙ count ∙ ap (λ ks. count_changes ks one) held
    ∙ count_kept (old.entries ++ before) one in
    let all : count_changes old.entries (entries_of (take (i + 1) rs))
    ≡ count_changes old.entries before + count_changes (old.entries ++ before) one =
    ap (count_changes old.entries) added ∙ count_more old.entries before one in
    let changed_is = s.changed_is in
    let few = s.few in
    let small = byte_small b in
    record {
      archive = taken_more old new next rs i h s.archive is;
      changed_is = omega arith;
      few = omega arith;
    }

use Rattle.std.proofs.Common.{◌+◌, ◌≤◌, List, length}
use Rattle.bufr_tables.specs.Entries.{Entries}
use Rattle.bufr_entries.specs.declared.entry.Entry.{Entry}
use Rattle.bufr_gather.specs.ArchiveTexts.{AreLeft}
use Rattle.bufr_gather.proofs.TextMergeFacts.{ToldSoFar}
use Rattle.bufr_gather.proofs.archive_text.ArchiveText.origins_with.Given as goal

-- for any entries of the texts, the origins are those of the entries before
abbrev pub invariant-loop : goal.invariant-loop
invariant-loop l =
    (tables : Entries) (es fs : List Entry) → AreLeft tables es l.initial.left
    → AreLeft tables fs l.initial.right → length es + length fs ≤ l.most
    → ToldSoFar tables es fs l.origins.items l.left l.right l.most l.counter

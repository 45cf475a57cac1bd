use Rattle.std.proofs.Common.{◌≡◌, take}
use Rattle.bufr_message.specs.Reports.{reports_of}
use Rattle.bufr_gather.specs.Archives.{taken_in}
use Rattle.bufr_gather.specs.ReportEntries.{spelt_entries}
use Rattle.bufr_gather.proofs.builder.ArchiveBuilder.add_message.Given as goal

-- the reports before this one are added
abbrev pub invariant-loop-index : goal.invariant-loop-index
invariant-loop-index l =
    l.self ≡ taken_in l.initial.self (take l.index (spelt_entries (reports_of l.view.message)))

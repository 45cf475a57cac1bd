-- Reports gathered one after the other: for `ArchiveBuilder::add_message` and what it calls.
use Rattle.std.proofs.Common.{◌≡◌, ℕ, Option, None, Some, List, Result, Ok, Err, [], ◌∷◌, ◌++◌, refl}
use Rattle.std.proofs.Common.{ap, subst, sym, ◌∙◌, ◌≤◌, length, take}
use Rattle.std.specs.Prelude.{option_to_list, OnOk}
use Rattle.bufr_tables.specs.Entries.{Entries}
use Rattle.bufr_sections.specs.declared.message.Decoded.{Decoded}
use Rattle.bufr_message.specs.Messages.{message_of}
use Rattle.bufr_message.specs.Reports.{reports_of, reports_read}
use Rattle.bufr_entries.specs.declared.entry.Entry.{Entry}
use Rattle.bufr_entries.specs.Entries.{kept}
use Rattle.bufr_gather.specs.Archives.{ArchiveView, AddsFirst, taken_in, entries_of}
use Rattle.bufr_gather.specs.ReportEntries.{report_entries, spelt_entries, entries_told}

-- ---- one report: for `ArchiveBuilder::add_one`

one_entry : (y : Option Entry) → option_to_list y ≡ entries_of (y ∷ [])
one_entry None = refl
one_entry (Some e) = refl

puts_one : (tables : Entries) (entries new : List Entry) (old : ArchiveView)
    (x y : Option Entry) → record { tables = tables; entries = kept entries } ≡ old → x ≡ y
    → kept new ≡ kept (kept entries ++ option_to_list x)
    → record { tables = tables; entries = kept new } ≡ taken_in old (y ∷ [])
puts_one tables entries new old x y seen same put =
    subst (λ (a : ArchiveView). record { tables = tables; entries = kept new }
    ≡ taken_in a (y ∷ [])) seen
    (ap (λ (es : List Entry). record { tables = tables; entries = es })
    (put ∙ ap (λ (o : Option Entry). kept (kept entries ++ option_to_list o)) same
    ∙ ap (λ (es : List Entry). kept (kept entries ++ es)) (one_entry y)))

pub puts_where_ok : {T E : Type 0} (answer : Result T E) (tables : Entries)
    (entries new : List Entry) (old : ArchiveView) (x y : Option Entry)
    → record { tables = tables; entries = kept entries } ≡ old → x ≡ y
    → OnOk answer (kept new ≡ kept (kept entries ++ option_to_list x))
    → OnOk answer (record { tables = tables; entries = kept new } ≡ taken_in old (y ∷ []))
puts_where_ok (Ok done) tables entries new old x y seen same put =
    puts_one tables entries new old x y seen same put
puts_where_ok (Err e) tables entries new old x y seen same put = put

-- ---- messages: for `ArchiveBuilder::add_message`

pub builder_adds : (message_reader after : Entries) (entries : List Entry) (old new : ArchiveView)
    (octets : List ℕ) (d : Decoded) → record { tables = message_reader; entries = entries } ≡ old
    → after ≡ message_reader → message_of message_reader octets ≡ Ok d
    → spelt_entries (reports_of d.message) ≡ report_entries message_reader (reports_of d.message)
    → new ≡ taken_in (record { tables = after; entries = entries })
    (spelt_entries (reports_of d.message))
    → (d : Decoded) × (message_of old.tables octets ≡ Ok d)
    × (new ≡ taken_in old (report_entries old.tables (reports_of d.message)))
builder_adds message_reader after entries old new octets d seen same is own added = (
  d,
  subst (λ (a : ArchiveView). message_of a.tables octets ≡ Ok d) seen is,
  added
      ∙ ap (λ (t : Entries). taken_in (record { tables = t; entries = entries })
      (spelt_entries (reports_of d.message))) same
      ∙ ap (taken_in (record { tables = message_reader; entries = entries })) own
      ∙ ap (λ (a : ArchiveView). taken_in a (report_entries a.tables (reports_of d.message))) seen,
)

-- memory runs out after some reports
pub adds_first : (message_reader after : Entries) (entries : List Entry) (old new : ArchiveView)
    (octets : List ℕ) (d : Decoded) (done : ℕ)
    → record { tables = message_reader; entries = entries } ≡ old
    → after ≡ message_reader → message_of message_reader octets ≡ Ok d
    → spelt_entries (reports_of d.message) ≡ report_entries message_reader (reports_of d.message)
    → done ≤ length (spelt_entries (reports_of d.message))
    → new ≡ taken_in (record { tables = after; entries = entries })
    (take done (spelt_entries (reports_of d.message)))
    → AddsFirst old new (entries_told old.tables octets) done
adds_first message_reader after entries old new octets d done seen same is own few added =
    let told : entries_told message_reader octets ≡ spelt_entries (reports_of d.message) =
    ap (λ r. report_entries message_reader (reports_read r)) is ∙ sym own in
    let first : AddsFirst (record { tables = message_reader; entries = entries }) new
    (spelt_entries (reports_of d.message)) done = record {
      few = few;
      archive = added ∙ ap (λ (t : Entries). taken_in (record { tables = t; entries = entries })
          (take done (spelt_entries (reports_of d.message)))) same;
    } in
    subst (λ (a : ArchiveView). AddsFirst a new (entries_told a.tables octets) done) seen
    (subst (λ rs. AddsFirst (record { tables = message_reader; entries = entries }) new rs done)
    (sym told) first)

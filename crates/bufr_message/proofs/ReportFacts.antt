-- A canonical message determines its report: for the laws on canonical messages.
use Rattle.std.proofs.Common.{◌≡◌, ℕ, ◌+◌, ◌/◌, Bool, List, [], ◌∷◌, ◌++◌, length, get_or, Ok, refl}
use Rattle.std.proofs.Common.{sym, ap, ◌∙◌, arith, length-append}
use Rattle.bufr_bits.specs.Bits.{bits}
use Rattle.bufr_data.specs.Plain.{plain}
use Rattle.bufr_sections.specs.declared.layout.Layout.{Layout}
use Rattle.bufr_sections.specs.declared.layout.Layout.TheVariants.{Edition4}
use Rattle.bufr_sections.specs.Sections.{Envelope, Ignored, nothing_ignored, spelling}
use Rattle.bufr_tables.specs.Entries.{Entries}
use Rattle.bufr_message.specs.declared.report.Report.{Report}
use Rattle.bufr_message.specs.Below.{Below}
use Rattle.bufr_message.specs.Messages.{envelope_with, octets_alone, message_of}
use Rattle.bufr_message.specs.Reports.{reports_read, reports_in, alone, IsCanonical}
use Rattle.bufr_message.proofs.LengthFacts.{contents_hold, bare_long}
use Rattle.bufr_message.proofs.MessageFacts.{message_of_spelt}

pub canonical_is_read : Below → (tables : Entries) (r : Report) (octets : List ℕ)
    → IsCanonical tables r octets
    → message_of tables octets ≡ Ok (record { message = alone r; slack_octets = 0 })
canonical_is_read below tables r octets c =
    message_of_spelt below tables octets (alone r) 0 c.spelt.spells

pub one_report : Below → (tables : Entries) (r : Report) (octets : List ℕ)
    → IsCanonical tables r octets → reports_in tables octets ≡ r ∷ []
one_report below tables r octets c = ap reports_read (canonical_is_read below tables r octets c)

pub canonical_tells_apart : Below → (tables : Entries) (r s : Report) (octets : List ℕ)
    → IsCanonical tables r octets → IsCanonical tables s octets → r ≡ s
canonical_tells_apart below tables r s octets c d =
    ap (λ (rs : List Report). get_or rs 0 r)
    (sym (one_report below tables r octets c) ∙ one_report below tables s octets d)

contents_long : (own rest : List Bool) (contents : List ℕ) → bits contents ≡ own ++ rest
    → 0 ≡ length rest / 8 → length contents ≡ (length own + 7) / 8
contents_long own rest contents begins few =
    let whole = contents_hold own rest contents begins in
    omega arith

spelt_bare : (layout : Layout) (i : Ignored) (e : Envelope) (octets : List ℕ) → layout ≡ Edition4
    → i ≡ nothing_ignored → octets ≡ spelling layout e i
    → length octets ≡ length (spelling Edition4 e nothing_ignored)
spelt_bare layout i e octets four nothing is =
    ap length
    (is ∙ ap (λ (l : Layout). spelling l e i) four
    ∙ ap (λ (j : Ignored). spelling Edition4 e j) nothing)

pub canonical_long : (tables : Entries) (r : Report) (octets : List ℕ)
    → IsCanonical tables r octets → length octets ≡ octets_alone r.descriptors r.subset
canonical_long tables r octets c =
    let b = c.spelt in
    let s = b.spells in
    let e = envelope_with (alone r) s.contents in
    let same = spelt_bare s.layout s.ignored e octets b.edition b.nothing s.spelled in
    let long = bare_long e refl refl in
    let contents = contents_long s.data_bits s.rest s.contents s.begins s.after in
    let own = ap length s.holds.2 in
    let bits_of = length-append (plain r.subset.fields) [] in
    omega arith

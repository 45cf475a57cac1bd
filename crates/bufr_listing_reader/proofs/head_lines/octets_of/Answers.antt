-- The number of words decides L1, then the digits decide L2.
use Rattle.std.proofs.Common.{◌≡◌, ◌∙◌, ◌∷◌, [], sym, ap, ℕ, length, true, false}
use Rattle.std.specs.Prelude.{◌==◌}
use Rattle.std.proofs.lemmas.Bool.{eqb-true}
use Rattle.std.proofs.lemmas.List.{nil_from_length}
use Rattle.bufr_listing.specs.declared.fault.ListingFault.TheVariants.{BadValue}
use Rattle.bufr_listing_reader.specs.Lines.{words_of, has_octets}
use Rattle.bufr_listing_reader.specs.Words.{words_left}
use Rattle.bufr_listing_reader.specs.Reading.{octets_by}
use Rattle.bufr_listing_reader.proofs.CallFacts.{titled_words, title_is_word, title_octets}
use Rattle.bufr_listing_reader.proofs.OctetFacts.{octets_are, octets_are_bad, octets_are_not, undecoded_is}
use Rattle.bufr_listing_reader.proofs.head_lines.octets_of.Goals.{After-after_first, In-Some}
use Rattle.bufr_listing_reader.proofs.head_lines.octets_of.Goals as goal

has : (c : After-after_first) → has_octets c.args.line.text.now ≡ true
has c =
    title_octets c.args.line.text.now c.args.title.now true c.requires.titled c.requires.octets

in_words : (c : In-Some) → words_of c.args.line.text.now
    ≡ c.args.title.now ∷ c.in-Some.digits.now ∷ []
in_words c = titled_words c.args.line.text.now c.args.title.now (c.in-Some.digits.now ∷ [])
    c.requires.titled (sym c.in-Some.ensures.some ∙ c.after_first.ensures)

pub returns-in_default : goal.returns-in_default
returns-in_default c =
    let text = c.args.line.text.now in
    let title = c.args.title.now in
    let ws = words_left c.after_first.result in
    rw c.bad_line.ensures (octets_are_not title c.args.line.number text ws
    (title_is_word text title c.requires.titled)
    (has (goal.at.returns-in_default c).After-after_first)
    (titled_words text title ws c.requires.titled c.after_first.ensures) c.in_default.ensures.none)

pub returns-in_default-fault : goal.returns-in_default-fault
returns-in_default-fault c =
    let on = goal.at.returns-in_default-fault c in
    rw c.bad_value.ensures (undecoded_is c.in-Some.digits.now c.in-Err.fault
    (BadValue c.args.line.number) _ c.in_default-fault.not-OutOfMemory
    (λ none. octets_are_bad c.args.title.now c.args.line.number c.args.line.text.now
    c.in-Some.digits.now (has on.After-after_first) (in_words on.In-Some) (ap octets_by none))
    c.in-Err.ensures.err)

pub returns-in-Ok : goal.returns-in-Ok
returns-in-Ok c =
    let on = goal.at.returns-in-Ok c in
    let items = c.in-Ok.octets.items in
    let none : (length items == 0) ≡ true = ap (λ (n : ℕ). n == 0) (sym c.in-Ok.octets.ok.0)
    ∙ sym c.is_empty.ensures ∙ c.if-is_empty.true in
    rw c.bad_value-in-Ok.ensures (octets_are_bad c.args.title.now c.args.line.number
    c.args.line.text.now c.in-Some.digits.now (has on.After-after_first) (in_words on.In-Some)
    (ap octets_by c.in-Ok.ensures.ok ∙ nil_from_length items (eqb-true (length items) 0 none)))

pub returns-in-Ok-2 : goal.returns-in-Ok-2
returns-in-Ok-2 c =
    let on = goal.at.returns-in-Ok-2 c in
    let items = c.in-Ok.octets.items in
    let some : (length items == 0) ≡ false = ap (λ (n : ℕ). n == 0) (sym c.in-Ok.octets.ok.0)
    ∙ sym c.is_empty.ensures ∙ c.if-is_empty.false in
    octets_are c.args.title.now c.args.line.number c.args.line.text.now c.in-Some.digits.now items
    (has on.After-after_first) (in_words on.In-Some) c.in-Ok.ensures.ok some

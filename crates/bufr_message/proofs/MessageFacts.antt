-- Reading returns the message that octets spell: for `MessageReader::read` and the laws on reading.
use Rattle.bufr_base.specs.Answers.{Gives}
use Rattle.bufr_base.specs.declared.failure.Failure.{Failure}
use Rattle.std.proofs.Common.{◌≡◌, ℕ, ◌/◌, Bool, true, List, length, Result, Ok, refl, sym, ap}
use Rattle.std.proofs.Common.{subst, ◌∙◌}
use Rattle.bufr_bits.specs.Bits.{bits}
use Rattle.bufr_tables.specs.Entries.{Entries}
use Rattle.bufr_expand.specs.Templates.{template}
use Rattle.bufr_expand.specs.Flat.{IsTreeOf}
use Rattle.bufr_expand.specs.Trees.{Tree}
use Rattle.bufr_fields.specs.declared.field.Subset.{Subset}
use Rattle.bufr_data.specs.Data.{subsets_in}
use Rattle.bufr_sections.specs.declared.message.Message.{Message}
use Rattle.bufr_sections.specs.declared.layout.Layout.{Layout}
use Rattle.bufr_sections.specs.declared.message.Decoded.{Decoded}
use Rattle.bufr_sections.specs.declared.fault.Refused.{Refused}
use Rattle.bufr_sections.specs.Sections.{Envelope, Ignored, AreOctets, EnvelopeFits, spelling}
use Rattle.bufr_sections.specs.Sections.{envelope_of}
use Rattle.bufr_message.specs.Messages.{envelope_with, Spells, template_or, data_or, message_with}
use Rattle.bufr_message.specs.Messages.{CanBeAlone, can_be_alone, message_in, message_of}
use Rattle.bufr_message.specs.Laws.{MessagesSpeltAreRead}
use Rattle.bufr_base.specs.AnswerLaws.{bind_ok, passed_ok}
use Rattle.bufr_sections.specs.declared.fault.Refused.TheVariants.{Template, Data}
use Rattle.bufr_fields.specs.declared.fault.DataFault.TheVariants.{TooLarge}
use Rattle.bufr_message.specs.Below.{Below}
use Rattle.bufr_message.proofs.CanBeAlone.{alone_is_tested}
use Rattle.bufr_message.proofs.StepFacts.{PassesOn, step_takes}

-- ---- reading returns what octets spell

in_turn : (tables : Entries) (e : Envelope) (tree : Tree) (found : List Subset × List Bool)
    → template tables e.descriptors ≡ Ok tree
    → subsets_in tree e.compressed e.count (bits e.contents) ≡ Ok found
    → can_be_alone e.descriptors found.0 ≡ true
    → message_in tables e
    ≡ Ok (record { message = message_with e found.0; slack_octets = length found.1 / 8 })
unfolding message_in
in_turn tables e tree found built read alone = rw (built, read, alone) refl

pub message_of_spelt : Below → (tables : Entries) (octets : List ℕ) (m : Message) (slack : ℕ)
    → Spells tables m octets slack
    → message_of tables octets ≡ Ok (record { message = m; slack_octets = slack })
unfolding message_of
message_of_spelt below tables octets m slack s =
    let e : Envelope = envelope_with m s.contents in
    let said : envelope_of octets ≡ Ok e =
    ap envelope_of s.spelled ∙ below.says s.layout e s.ignored s.fits in
    let built = (below.builds tables m.descriptors s.tree).1 s.template in
    let found =
    (below.reads s.tree m.compressed (length m.subsets) (bits s.contents) (m.subsets, s.rest)).1
    (s.data_bits, s.holds, refl, s.begins) in
    let alone = (alone_is_tested m.descriptors m.subsets).1 s.alone in
    rw said (in_turn tables e s.tree (m.subsets, s.rest) built found alone)
    ∙ ap (λ n. Ok (record { message = m; slack_octets = n })) (sym s.after)

-- ---- octets spell what reading returns

pub template_passes : PassesOn template_or Template
template_passes = record { value = λ tree. refl; fault = λ why. refl }

pub data_passes : {A : Type 0} → PassesOn {A = A} data_or Data
data_passes = record { value = λ found. refl; fault = λ why. refl }

spells_read : Below
    → (tables : Entries) (octets : List ℕ) (layout : Layout) (e : Envelope) (i : Ignored)
    (tree : Tree) (found : List Subset × List Bool) → octets ≡ spelling layout e i
    → EnvelopeFits layout e i → IsTreeOf tables e.descriptors tree
    → subsets_in tree e.compressed e.count (bits e.contents) ≡ Ok found
    → CanBeAlone e.descriptors found.0
    → Spells tables (message_with e found.0) octets (length found.1 / 8)
spells_read below tables octets layout e i tree found spelt fits has read alone =
    let stands = (below.reads tree e.compressed e.count (bits e.contents) found).0 read in
    let same : e ≡ envelope_with (message_with e found.0) e.contents =
    ap (λ (n : ℕ). record e { count = n }) (sym stands.2) in
    record {
      layout = layout;
      contents = e.contents;
      ignored = i;
      fits = subst (λ (e : Envelope). EnvelopeFits layout e i) same fits;
      spelled = spelt ∙ ap (λ (e : Envelope). spelling layout e i) same;
      tree = tree;
      template = has;
      data_bits = stands.0;
      rest = found.1;
      begins = stands.3;
      holds = stands.1;
      after = refl;
      alone = alone;
    }

pub message_of_takes : Below → (tables : Entries) (octets : List ℕ) (d : Decoded) → AreOctets octets
    → message_of tables octets ≡ Ok d → Spells tables d.message octets d.slack_octets
unfolding message_of message_in
message_of_takes below tables octets d all ok =
    let e = bind_ok (envelope_of octets) (message_in tables) d ok in
    let tree = bind_ok (template_or (template tables e.0.descriptors)) _ d e.2 in
    let expanded = template tables e.0.descriptors in
    let has = (below.builds tables e.0.descriptors tree.0).0
    (step_takes template_passes expanded tree.0 tree.1) in
    let found =
    bind_ok (data_or (subsets_in tree.0 e.0.compressed e.0.count (bits e.0.contents))) _ d tree.2 in
    let held = subsets_in tree.0 e.0.compressed e.0.count (bits e.0.contents) in
    let read = step_takes data_passes held found.0 found.1 in
    let said = below.takes octets e.0 all e.1 in
    let told : Decoded =
    record { message = message_with e.0 found.0.0; slack_octets = length found.0.1 / 8 } in
    let done = passed_ok (can_be_alone e.0.descriptors found.0.0) told (Data TooLarge) d found.2 in
    let alone = (alone_is_tested e.0.descriptors found.0.0).0 done.0 in
    subst (λ (d : Decoded). Spells tables d.message octets d.slack_octets) done.1
    (spells_read below tables octets said.0 e.0 said.1 tree.0 found.0 said.2 said.3 has read alone)

-- ---- results of a call

pub spelt_answered : MessagesSpeltAreRead
    → (tables : Entries) (octets : List ℕ) (r : Result Decoded (Failure Refused))
    → Gives (λ (d : Decoded). d) r (message_of tables octets) → (m : Message) (z : ℕ)
    → Spells tables m octets z
    → Gives (λ (d : Decoded). d) r (Ok (record { message = m; slack_octets = z }))
spelt_answered law tables octets r exact m z s =
    subst (Gives (λ (d : Decoded). d) r) (law tables octets m z s) exact

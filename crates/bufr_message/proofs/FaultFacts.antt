-- Reading refuses octets for the first cause of the sections, the descriptors and the data: for the
-- laws on refusals of octets.
use Rattle.std.proofs.Common.{◌≡◌, ℕ, ◌/◌, Bool, true, false, cond, List, length, Result, Ok, Err}
use Rattle.std.proofs.Common.{refl, ap, subst, ◌∙◌, inl, inr}
use Rattle.std.proofs.lemmas.Bool.{not-true}
use Rattle.std.proofs.lemmas.Bool.Decides.{not_from_Decides, Decides-not}
use Rattle.bufr_bits.specs.Bits.{bits}
use Rattle.bufr_base.specs.Answers.{◌>>=◌}
use Rattle.bufr_tables.specs.Entries.{Entries}
use Rattle.bufr_expand.specs.Templates.{template}
use Rattle.bufr_expand.specs.Flat.{IsTreeOf}
use Rattle.bufr_expand.specs.Trees.{Tree}
use Rattle.bufr_data.specs.Data.{subsets_in}
use Rattle.bufr_sections.specs.declared.message.Decoded.{Decoded}
use Rattle.bufr_sections.specs.declared.fault.Refused.{Refused}
use Rattle.bufr_sections.specs.declared.fault.Refused.TheVariants.{Template, Data}
use Rattle.bufr_sections.specs.Sections.{Envelope, AreOctets, envelope_of}
use Rattle.bufr_message.specs.Messages.{template_or, data_or, message_with, can_be_alone, ended}
use Rattle.bufr_message.specs.Messages.{message_in, message_of}
use Rattle.bufr_fields.specs.declared.fault.DataFault.TheVariants.{TooLarge}
use Rattle.bufr_sections.specs.Causes.{IsFirstRefusal, HasSections, is_of_sections}
use Rattle.bufr_message.specs.Refusals.{IsFirstFault}
use Rattle.bufr_message.specs.Below.{Below}
use Rattle.bufr_base.specs.AnswerLaws.{bind_err}
use Rattle.bufr_message.proofs.MessageFacts.{template_passes, data_passes}
use Rattle.bufr_message.proofs.StepFacts.{step_takes, step_refuses}
use Rattle.bufr_message.proofs.CanBeAlone.{alone_is_tested}

-- ---- a refusal is the first fault

not_passed : {A F : Type 0} (b : Bool) (x : A) (fault other : F)
    → cond b (Ok x) (Err fault) ≡ Err other → (b ≡ false) × (fault ≡ other)
not_passed true x fault other e = absurd cc
not_passed false x fault other e = (refl, cc)

abbrev read : Envelope → Tree → Result Decoded Refused
read e tree = data_or (subsets_in tree e.compressed e.count (bits e.contents)) >>= ended e

section_fault : (tables : Entries) (octets : List ℕ) (fault : Refused) → is_of_sections fault ≡ true
    → IsFirstRefusal octets fault → IsFirstFault tables octets fault
section_fault tables octets (Template why) of first = absurd cc
section_fault tables octets (Data why) of first = absurd cc
section_fault tables octets fault of first = first

data_fault : Below
    → (tables : Entries) (octets : List ℕ) (fault : Refused) (e : Envelope) (tree : Tree)
    → HasSections octets e → IsTreeOf tables e.descriptors tree → read e tree ≡ Err fault
    → IsFirstFault tables octets fault
data_fault below tables octets fault e tree has built refused =
    elim
    (bind_err (data_or (subsets_in tree e.compressed e.count (bits e.contents)))
    (ended e) fault refused) [
      | inl not_so ↦
          let found = subsets_in tree e.compressed e.count (bits e.contents) in
          let d = step_refuses data_passes found fault not_so in
          let first = (below.unread tree e.compressed e.count (bits e.contents) d.0).0 d.1 in
          subst (IsFirstFault tables octets) d.2 (e, tree, has, built, inl first)
      | inr found ↦
          let told : Decoded =
          record { message = message_with e found.0.0; slack_octets = length found.0.1 / 8 } in
          let test =
          not_passed (can_be_alone e.descriptors found.0.0) told (Data TooLarge) fault found.2 in
          let held = subsets_in tree e.compressed e.count (bits e.contents) in
          let read = step_takes data_passes held found.0 found.1 in
          let begins = (below.reads tree e.compressed e.count (bits e.contents) found.0).0 read in
          let none = not_from_Decides _ (alone_is_tested e.descriptors found.0.0) test.0 in
          subst (IsFirstFault tables octets) test.1
          (e, tree, has, built, inr (refl, found.0, begins, none))
    ]

tree_fault : Below → (tables : Entries) (octets : List ℕ) (fault : Refused) (e : Envelope)
    → HasSections octets e → (template_or (template tables e.descriptors) >>= read e) ≡ Err fault
    → IsFirstFault tables octets fault
tree_fault below tables octets fault e has refused =
    elim (bind_err (template_or (template tables e.descriptors)) (read e) fault refused) [
      | inl not_so ↦
          let t = step_refuses template_passes (template tables e.descriptors) fault not_so in
          subst (IsFirstFault tables octets) t.2
          (e, has, (below.refuses tables e.descriptors t.0).0 t.1)
      | inr tree ↦
          let expanded = template tables e.descriptors in
          let built = (below.builds tables e.descriptors tree.0).0
          (step_takes template_passes expanded tree.0 tree.1) in
          data_fault below tables octets fault e tree.0 has built tree.2
    ]

message_fault : Below → (tables : Entries) (octets : List ℕ) (fault : Refused) (e : Envelope)
    → HasSections octets e → message_in tables e ≡ Err fault → IsFirstFault tables octets fault
unfolding message_in
message_fault below tables octets fault e has refused =
    tree_fault below tables octets fault e has refused

pub fault_when_refused : Below → (tables : Entries) (octets : List ℕ) (fault : Refused)
    → AreOctets octets → message_of tables octets ≡ Err fault → IsFirstFault tables octets fault
unfolding message_of
fault_when_refused below tables octets fault all refused =
    elim (bind_err (envelope_of octets) (message_in tables) fault refused) [
      | inl not_so ↦
          section_fault tables octets fault (below.theirs octets fault not_so)
          (below.first octets fault not_so)
      | inr e ↦ message_fault below tables octets fault e.0 (below.takes octets e.0 all e.1) e.2
    ]

-- ---- the first fault is the refusal

said : Below → (octets : List ℕ) (e : Envelope) → HasSections octets e → envelope_of octets ≡ Ok e
said below octets e has = ap envelope_of has.2 ∙ below.says has.0 e has.1 has.3

sections_answered : Below → (tables : Entries) (octets : List ℕ) (fault : Refused)
    → IsFirstRefusal octets fault → message_of tables octets ≡ Err fault
unfolding message_of
sections_answered below tables octets fault first = rw (below.answered octets fault first) refl

pub refused_when_fault : Below → (tables : Entries) (octets : List ℕ) (fault : Refused)
    → IsFirstFault tables octets fault → message_of tables octets ≡ Err fault
unfolding message_of message_in
refused_when_fault below tables octets (Template why) (e, has, none) =
    rw (said below octets e has, (below.refuses tables e.descriptors why).1 none) refl
refused_when_fault below tables octets (Data why) (e, tree, has, built, inl none) =
    let found = (below.builds tables e.descriptors tree).1 built in
    rw (
      said below octets e has,
      found,
      (below.unread tree e.compressed e.count (bits e.contents) why).1 none,
    ) refl
refused_when_fault below tables octets (Data why)
    (e, tree, has, built, inr (same, begun, begins, none)) =
    let found = (below.builds tables e.descriptors tree).1 built in
    let read = (below.reads tree e.compressed e.count (bits e.contents) begun).1 begins in
    let fails = not-true _ ((Decides-not _ (alone_is_tested e.descriptors begun.0)).1 none) in
    rw (said below octets e has, found, read, fails, same) refl
refused_when_fault below tables octets fault first =
    sections_answered below tables octets fault first

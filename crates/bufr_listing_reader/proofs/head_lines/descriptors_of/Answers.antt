use Rattle.std.proofs.Common.{◌≡◌, ◌∷◌, ◌∙◌, sym, ap, codes, ℕ, Vec, Global, Err, length, true}
use Rattle.std.specs.Prelude.{◌==◌, Option, option_map}
use Rattle.bufr_tables.specs.declared.fxy.Fxy.{Fxy}
use Rattle.bufr_listing.specs.declared.fault.ListingFault.TheVariants.{BadLine}
use Rattle.bufr_listing_reader.specs.Lines.{words_of, first_word, as_printed}
use Rattle.bufr_listing_reader.specs.Words.{words_left}
use Rattle.bufr_listing_reader.specs.Reading.{read_descriptors}
use Rattle.bufr_listing_reader.proofs.FieldFacts.{bytes_same}
use Rattle.bufr_listing_reader.proofs.CallFacts.{titled_words}
use Rattle.bufr_listing_reader.proofs.DescriptorFacts.{untitled_descriptors, descriptors_are_not}
use Rattle.bufr_listing_reader.proofs.DescriptorFacts.{no_descriptor, descriptors_are}
use Rattle.bufr_listing_reader.proofs.head_lines.descriptors_of.Goals.{in_default-via-in-Some+else-not-is_empty}
use Rattle.bufr_listing_reader.proofs.head_lines.descriptors_of.Goals.{in_default-via-in_default}
use Rattle.bufr_listing_reader.proofs.head_lines.descriptors_of.Goals.{After-after_first}
use Rattle.bufr_listing_reader.proofs.head_lines.descriptors_of.Goals as goal

in_words : (c : After-after_first) → words_of c.args.line.text.now
    ≡ codes "descriptors" ∷ words_left c.after_first.result
in_words c =
    let text = c.args.line.text.now in
    titled_words text (codes "descriptors") (words_left c.after_first.result)
    (bytes_same (first_word text) (codes "descriptors") (sym c.begins.ensures
    ∙ c.if-not-begins.false)) c.after_first.ensures

pub returns-then-not-begins-clause-fault : goal.returns-then-not-begins-clause-fault
returns-then-not-begins-clause-fault c = λ tables.
    rw c.bad_line.ensures (untitled_descriptors tables c.args.line.number c.args.line.text.now
    (sym c.begins.ensures ∙ c.if-not-begins.true))

pub returns-in_default-clause-fault : goal.returns-in_default-clause-fault
returns-in_default-clause-fault c = λ tables.
    let n = c.args.line.number in
    let text = c.args.line.text.now in
    let ws = words_left c.after_first.result in
    let e = in_words (goal.at.returns-in_default-clause-fault c).After-after_first in
    let bad : read_descriptors tables n (as_printed text) ≡ Err (BadLine n) =
    elim c.in_default.branch [
      | in_default-via-in-Some+else-not-is_empty w ↦
          let ds = w.in-Some.descriptors.items in
          let found =
          sym c.in_ok-descriptors.ensures
          ∙ ap (λ (o : Option (Vec Fxy Global)). option_map (λ ns. ns.items) o) w.in-Some.is in
          let none : (length ds == 0) ≡ true =
          ap (λ (k : ℕ). k == 0) (sym w.in-Some.descriptors.ok.0) ∙ sym w.is_empty.ensures
          ∙ w.if-not-is_empty.false in
          no_descriptor c.descriptor_texts.ensures tables n text ws ds e found none
      | in_default-via-in_default w ↦
          let found =
          sym c.in_ok-descriptors.ensures
          ∙ ap (λ (o : Option (Vec Fxy Global)). option_map (λ ns. ns.items) o) w.in_default.is in
          descriptors_are_not c.descriptor_texts.ensures tables n text ws e found
    ] in
    rw c.bad_line-in_default.ensures bad

pub returns-in-Some-clause-ok : goal.returns-in-Some-clause-ok
returns-in-Some-clause-ok c = λ tables.
    let e = in_words (goal.at.returns-in-Some-clause-ok c).After-after_first in
    let found =
    sym c.in_ok-descriptors.ensures
    ∙ ap (λ (o : Option (Vec Fxy Global)). option_map (λ ns. ns.items) o) c.in-Some.is in
    let some = ap (λ (n : ℕ). n == 0) (sym c.in-Some.descriptors.ok.0) ∙ sym c.is_empty.ensures
    ∙ c.if-not-is_empty.true in
    descriptors_are c.descriptor_texts.ensures tables c.args.line.number c.args.line.text.now
    (words_left c.after_first.result) c.in-Some.descriptors.items e found some

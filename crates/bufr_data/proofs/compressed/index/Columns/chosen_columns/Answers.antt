use Rattle.std.proofs.Common.{map, sym, ap, ◌∙◌, subst}
use Rattle.std.proofs.lemmas.Slice.Eq.{bytes_eq-Decides}
use Rattle.bufr_base.specs.AnswerLaws.{not_false}
use Rattle.bufr_data.specs.Chosen.{HaveChosen, chosen}
use Rattle.bufr_data.specs.Compressed.{subsets_from}
use Rattle.bufr_data.specs.Compressed.Indexed.{Indexed, column_from}
use Rattle.bufr_data.specs.Handed.{fields_there}
use Rattle.bufr_data.proofs.CompressedFacts.Chosen.{chosen_open, chosen_there}
use Rattle.bufr_data.proofs.CompressedFacts.Shown.{have_chosen}
use Rattle.bufr_data.proofs.compressed.index.Columns.chosen_columns.Goals as goal

pub invariant_of-result : goal.invariant_of-result
invariant_of-result c =
    let s = c.self.inside in
    rw (c.as_slice-2.ensures.value, c.self.invariant.1)
    (chosen_open s.chosen.asked s.octets.now s.subsets s.places.items c.self.invariant.0)

pub returns : goal.returns
returns c =
    let s = c.self.inside in
    let columns = map (column_from s.octets.now s.subsets) in
    let same =
    sym c.as_slice.ensures
    ∙ (bytes_eq-Decides _ _).0 (not_false _ (sym c.ne.ensures ∙ c.if-ne.false)) in
    subst
    (λ (x : Indexed). HaveChosen c.args.asked.now (subsets_from 0 x.subsets x.columns)
    (record { subsets = s.subsets; columns = columns c.as_slice-2.result.now }))
    c.self.view_is
    (have_chosen c.args.asked.now (columns c.as_slice-2.result.now) (columns s.places.items) s.subsets
    (λ i. ap (fields_there s.octets.now s.subsets i) (c.as_slice-2.ensures.value ∙ c.self.invariant.1)
    ∙ chosen_there s.chosen.asked s.octets.now s.subsets i s.places.items
    ∙ ap (λ list. chosen list (fields_there s.octets.now s.subsets i s.places.items)) same))

use Rattle.std.proofs.Common.{map, sym, ap, ◌∙◌, arith}
use Rattle.std.proofs.lemmas.Slice.Eq.{bytes_eq-Decides}
use Rattle.bufr_base.specs.AnswerLaws.{not_false}
use Rattle.bufr_data.specs.Chosen.{chosen}
use Rattle.bufr_data.specs.Compressed.{field_of}
use Rattle.bufr_data.specs.Compressed.Indexed.{Indexed}
use Rattle.bufr_data.specs.Handed.{fields_there}
use Rattle.bufr_data.proofs.CompressedFacts.Chosen.{chosen_open, chosen_there}
use Rattle.bufr_data.proofs.compressed.index.Columns.chosen.Goals as goal

pub invariant_of-result : goal.invariant_of-result
invariant_of-result c =
    let s = c.self.inside in
    let many = ap (λ (i : Indexed). i.subsets) (sym c.self.view_is) in (
      rw (c.as_slice-2.ensures.value, c.self.invariant.1)
          (chosen_open s.chosen.asked s.octets.now s.subsets s.places.items c.self.invariant.0),
      omega (arith, c.requires, many),
    )

pub returns : goal.returns
returns c =
    let s = c.self.inside in
    let same =
    sym c.as_slice.ensures
    ∙ (bytes_eq-Decides _ _).0 (not_false _ (sym c.ne.ensures ∙ c.if-ne.false)) in
    ap (fields_there s.octets.now s.subsets c.args.index)
    (c.as_slice-2.ensures.value ∙ c.self.invariant.1)
    ∙ chosen_there s.chosen.asked s.octets.now s.subsets c.args.index s.places.items
    ∙ ap (λ list. chosen list (fields_there s.octets.now s.subsets c.args.index s.places.items)) same
    ∙ ap (λ (i : Indexed). chosen c.args.asked.now (map (field_of c.args.index) i.columns))
    c.self.view_is

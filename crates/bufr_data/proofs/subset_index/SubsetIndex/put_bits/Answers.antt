-- The bits from a start to its end are those of its subset, and so are the values of columns.
use Rattle.std.proofs.Common.{◌≡◌, ◌++◌, ◌∙◌, ap, map, sym, Ok, refl, arith}
use Rattle.bufr_data.specs.Compressed.{subset_of}
use Rattle.bufr_data.specs.Plain.Starts.{subset_from}
use Rattle.bufr_data.specs.Shown.{shown}
use Rattle.bufr_data.proofs.CompressedFacts.Shown.{many_shown, one_shown}
use Rattle.bufr_data.proofs.PlainFacts.Copied.{ok_then}
use Rattle.bufr_data.proofs.PlainFacts.Shown.{begins_there, start_shown}
use Rattle.bufr_data.proofs.PlainFacts.Starts.{bits_between}
use Rattle.bufr_data.proofs.subset_index.SubsetIndex.put_bits.Goals as goal

pub overflow_cast-index : goal.overflow_cast-index
overflow_cast-index c =
    let many =
    many_shown c.self.inside.data_index c.in-Compressed.columns c.args.self.now c.self.view_is
    c.in-Compressed.is in
    omega (arith, c.requires, many, c.count-count.ensures, c.count-count.type_inv)

pub put-requires : goal.put-requires
put-requires c =
    let many =
    many_shown c.self.inside.data_index c.in-Compressed.columns c.args.self.now c.self.view_is
    c.in-Compressed.is in
    omega (arith, c.requires, many)

pub returns-in-Compressed-clause-put : goal.returns-in-Compressed-clause-put
returns-in-Compressed-clause-put c =
    let many =
    many_shown c.self.inside.data_index c.in-Compressed.columns c.args.self.now c.self.view_is
    c.in-Compressed.is in
    rw (one_shown {E = Unit {0}} c.self.inside.data_index c.in-Compressed.columns c.args.self.now
    c.args.index (Ok (subset_of c.in-Compressed.columns.columns c.args.index))
    c.self.view_is c.in-Compressed.is (omega (arith, c.requires, many)) refl)
    c.put.ensures.put

pub copy_bits-requires-clause-onward : goal.copy_bits-requires-clause-onward
copy_bits-requires-clause-onward c =
    (bits_between _ _ _
    (begins_there _ _ _ c.args.index _ c.subsets.invariant.0 c.at-start.ensures)).0

pub copy_bits-requires-clause-inside : goal.copy_bits-requires-clause-inside
copy_bits-requires-clause-inside c =
    (begins_there _ _ _ c.args.index _ c.subsets.invariant.0 c.at-start.ensures).2

pub returns-in-Plain-clause-put : goal.returns-in-Plain-clause-put
returns-in-Plain-clause-put c =
    let begins =
    begins_there _ _ _ c.args.index _ c.subsets.invariant.0 c.at-start.ensures in
    let shows : map (subset_from c.subsets.inside.octets.now c.subsets.inside.template)
    c.subsets.inside.starts ≡ c.args.self.now =
    c.subsets.view_is ∙ sym (ap shown c.in-Plain.is) ∙ c.self.view_is in
    rw (start_shown c.subsets.inside.octets.now c.subsets.inside.template
    c.subsets.inside.starts c.args.self.now c.args.index c.at-start.result shows
    c.at-start.ensures)
    (ok_then c.copy_bits.result
    (λ put. put ∙ ap (λ xs. c.args.sink.now ++ xs) (bits_between _ _ _ begins).1)
    c.copy_bits.ensures.put)

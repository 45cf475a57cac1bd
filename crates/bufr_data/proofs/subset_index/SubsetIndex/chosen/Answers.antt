use Rattle.std.proofs.Common.{Ok, refl, arith}
use Rattle.bufr_data.specs.Compressed.{subset_of}
use Rattle.bufr_data.proofs.CompressedFacts.Shown.{many_shown, one_shown}
use Rattle.bufr_data.proofs.subset_index.SubsetIndex.chosen.Goals as goal

pub overflow_cast-index : goal.overflow_cast-index
overflow_cast-index c =
    let many =
    many_shown c.self.inside.data_index c.in-Compressed.columns c.args.self.now c.self.view_is
    c.in-Compressed.is in
    omega (arith, c.requires, many, c.count-count.ensures, c.count-count.type_inv)

pub chosen-requires-in-Compressed : goal.chosen-requires-in-Compressed
chosen-requires-in-Compressed c =
    let many =
    many_shown c.self.inside.data_index c.in-Compressed.columns c.args.self.now c.self.view_is
    c.in-Compressed.is in
    omega (arith, c.requires, many)

pub returns-in_ok-fields-in-Compressed : goal.returns-in_ok-fields-in-Compressed
returns-in_ok-fields-in-Compressed c =
    let many =
    many_shown c.self.inside.data_index c.in-Compressed.columns c.args.self.now c.self.view_is
    c.in-Compressed.is in
    rw (one_shown {E = Unit {0}} c.self.inside.data_index c.in-Compressed.columns c.args.self.now
    c.args.index (Ok (subset_of c.in-Compressed.columns.columns c.args.index))
    c.self.view_is c.in-Compressed.is (omega (arith, c.requires, many)) refl)
    c.in_ok-fields-in-Compressed.ensures

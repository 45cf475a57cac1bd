use Rattle.std.proofs.Common.{Ok, arith}
use Rattle.bufr_data.proofs.CompressedFacts.Shown.{many_shown, one_shown}
use Rattle.bufr_data.proofs.subset_index.SubsetIndex.fields.Goals as goal

pub overflow_cast-index : goal.overflow_cast-index
overflow_cast-index c =
    let many =
    many_shown c.self.inside.data_index c.in-Compressed.columns c.args.self.now c.self.view_is
    c.in-Compressed.is in
    omega (arith, c.requires, many, c.count-count.ensures, c.count-count.type_inv)

pub fields-requires-in-Compressed : goal.fields-requires-in-Compressed
fields-requires-in-Compressed c =
    let many =
    many_shown c.self.inside.data_index c.in-Compressed.columns c.args.self.now c.self.view_is
    c.in-Compressed.is in
    omega (arith, c.requires, many)

pub returns-in-Compressed : goal.returns-in-Compressed
returns-in-Compressed c =
    let many =
    many_shown c.self.inside.data_index c.in-Compressed.columns c.args.self.now c.self.view_is
    c.in-Compressed.is in
    one_shown {E = Unit {0}} c.self.inside.data_index c.in-Compressed.columns c.args.self.now
    c.args.index (Ok (record { fields = c.fields-in-Compressed.result })) c.self.view_is
    c.in-Compressed.is (omega (arith, c.requires, many))
    (λ t. record { fields = c.fields-in-Compressed.ensures t })

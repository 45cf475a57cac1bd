use Rattle.std.proofs.Common.{◌∙◌, sym, ap}
use Rattle.bufr_bits.specs.Bits.{bits}
use Rattle.bufr_bits.specs.Ends.{left}
use Rattle.bufr_data.specs.Data.{subsets_in}
use Rattle.bufr_message.proofs.OwnBitsFacts.{rooms_read}
use Rattle.bufr_message.proofs.message_view.index_of.Goals as goal

pub returns-in-Ok-clause-stand : goal.returns-in-Ok-clause-stand
returns-in-Ok-clause-stand c =
    let front = ap left c.new-reader.ensures in (
      c.args.template.now,
      c.args.sections.now.count,
      _,
      ap (subsets_in c.args.template.now c.args.sections.now.compressed c.args.sections.now.count) (sym front)
          ∙ c.in-Ok.ensures.exact,
    )

pub returns-in-Ok-clause-room : goal.returns-in-Ok-clause-room
returns-in-Ok-clause-room c =
    let front = ap left c.new-reader.ensures in
    rooms_read c.data_hold_subsets.ensures.read c.args.sections.now.contents.now c.args.sections.now.compressed
    c.in-Ok.subsets (
      c.args.template.now,
      c.args.sections.now.count,
      _,
      ap (subsets_in c.args.template.now c.args.sections.now.compressed c.args.sections.now.count) (sym front)
          ∙ c.in-Ok.ensures.exact,
    )

pub returns-in-Ok-clause-count : goal.returns-in-Ok-clause-count
returns-in-Ok-clause-count c =
    let front = ap left c.new-reader.ensures in
    ((c.data_hold_subsets.ensures.read c.args.template.now c.args.sections.now.compressed
    c.args.sections.now.count (bits c.args.sections.now.contents.now) (c.in-Ok.subsets, _)).0
    (ap (subsets_in c.args.template.now c.args.sections.now.compressed c.args.sections.now.count) (sym front)
    ∙ c.in-Ok.ensures.exact)).2

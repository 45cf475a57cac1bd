use Rattle.std.proofs.Common.{◌∙◌, length, ap, sym}
use Rattle.bufr_data.proofs.compressed.value.filled.Goals.{then-are_ones, else-are_ones}
use Rattle.bufr_data.proofs.CompressedFacts.Values.{filled_is}
use Rattle.bufr_data.proofs.compressed.value.filled.Goals as goal

pub returns : goal.returns
returns c =
    elim c.if-are_ones.branch [
      | then-are_ones w ↦
          let len = sym c.as_slice.ensures.len ∙ ap length c.as_slice.ensures.value in
          let ones = rw c.as_slice.ensures.value at w.if-are_ones.ensures in
          rw (c.from_vec.ensures, c.in_ok-resize.ensures.items)
          (rw len (filled_is _ _ _ _ (sym ones) w.filler-is c.requires))
      | else-are_ones w ↦
          let len = sym c.as_slice.ensures.len ∙ ap length c.as_slice.ensures.value in
          let ones = rw c.as_slice.ensures.value at w.if-are_ones.ensures in
          rw (c.from_vec.ensures, c.in_ok-resize.ensures.items)
          (rw len (filled_is _ _ _ _ (sym ones) w.filler-is c.requires))
    ]

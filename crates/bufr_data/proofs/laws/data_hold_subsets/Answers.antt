-- The laws of plain data and of columns together.
use Rattle.bufr_data.proofs.CauseFacts.{laws_from}
use Rattle.bufr_data.proofs.DataFacts.{reads_exactly, refuses_exactly, writes_exactly}
use Rattle.bufr_data.proofs.DataFacts.{misfits_exactly, bare_are_data, plain_are_bare}
use Rattle.bufr_data.proofs.CompressedFacts.Writable.{packed_can_be_bare, narrow_can_be_packed}
use Rattle.bufr_data.proofs.laws.data_hold_subsets.Goals as goal

pub returns : goal.returns
returns c =
    let ends = c.courses_are_unrollings.ensures in
    let begins = c.courses_begin_unrollings.ensures in
    let laws = laws_from ends.unrolled ends.allowed begins.asked begins.lacking begins.too_large
    begins.goes_on in
    record {
      read = reads_exactly laws;
      refused = refuses_exactly laws;
      written = writes_exactly laws;
      misfit = misfits_exactly laws;
      bare = bare_are_data laws;
      plain = plain_are_bare;
      packable = packed_can_be_bare;
      narrow = narrow_can_be_packed;
    }

-- The fault of `add_listed` is the fault of all.
use Rattle.bufr_engines.specs.Encoding.{EncodesListing}
use Rattle.bufr_io.specs.PassingLaws.{passed}
use Rattle.bufr_engines.proofs.encode.octets_of.Goals as goal

pub returns-in_err-count : goal.returns-in_err-count
returns-in_err-count c =
    passed (λ r. EncodesListing c.args.tables.now c.args.compressed c.args.text.now r)
    c.from_residual.result c.in_err-count.field-0.0 c.from_residual.ensures.1
    c.in_err-count.ensures

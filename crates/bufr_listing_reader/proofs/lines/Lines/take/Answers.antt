use Rattle.std.proofs.Common.{◌∙◌, ◌+◌, sym, ap, Err}
use Rattle.bufr_listing.specs.declared.fault.ListingFault.TheVariants.{BadLine}
use Rattle.bufr_listing_reader.specs.Cursors.{left, left_by, past, past_by, next_of}
use Rattle.bufr_listing_reader.proofs.lines.Lines.take.Goals as goal

pub returns-in-None-clause-taken : goal.returns-in-None-clause-taken
unfolding left past
returns-in-None-clause-taken c =
    (λ i. next_of (past_by (c.in-None.is i) c.args.self.now.found c.args.self.now.rest.now)
    (left_by (c.in-None.is i) c.args.self.now.found c.args.self.now.rest.now))
    ∙ ap (λ n. Err (BadLine (n + 1))) (sym c.from.ensures)

-- The message has the fault of its first part that fails.
use Rattle.std.proofs.lemmas.Result.{err_from_is_err_and}
use Rattle.bufr_listing_reader.proofs.MessageSteps.{at_section2, at_flags, at_descriptors, at_subsets}
use Rattle.bufr_listing_reader.proofs.MessageSteps.{step_fails, head_fails, subsets_fail, message_is}
use Rattle.bufr_listing_reader.proofs.messages.read_message.Goals as goal

pub returns-in_err-head-clause-read : goal.returns-in_err-head-clause-read
returns-in_err-head-clause-read c =
    let p = err_from_is_err_and c.from_residual.result c.from_residual.ensures.1 in
    rw (p.1, p.2) (head_fails _ _ _ _ c.in_err-head.ensures.read)

pub returns-in_err-section2-clause-read : goal.returns-in_err-section2-clause-read
returns-in_err-section2-clause-read c =
    let p = err_from_is_err_and c.from_residual-in_err-section2.result
    c.from_residual-in_err-section2.ensures.1 in
    rw (p.1, p.2)
    (step_fails _ _ _ _ (at_section2 _ _ _ _ _ c.in_ok-head.ensures.read)
    c.in_err-section2.ensures.read)

pub returns-in_err-flags-clause-read : goal.returns-in_err-flags-clause-read
returns-in_err-flags-clause-read c =
    let p = err_from_is_err_and c.from_residual-in_err-flags.result
    c.from_residual-in_err-flags.ensures.1 in
    let flags =
    rw (c.in_ok-section2.ensures.past, c.in_ok-head.ensures.past) at c.in_err-flags.ensures.read in
    rw (p.1, p.2)
    (step_fails _ _ _ _ (at_flags _ _ _ _ _ _ _ c.in_ok-head.ensures.read
    c.in_ok-section2.ensures.read) flags)

pub returns-in_err-descriptors-clause-read : goal.returns-in_err-descriptors-clause-read
returns-in_err-descriptors-clause-read c =
    let p = err_from_is_err_and c.from_residual-in_err-descriptors.result
    c.from_residual-in_err-descriptors.ensures.1 in
    let flags =
    rw (c.in_ok-section2.ensures.past, c.in_ok-head.ensures.past) at c.in_ok-flags.ensures.read in
    let list =
    rw (c.in_ok-flags.ensures.past, c.in_ok-section2.ensures.past, c.in_ok-head.ensures.past)
    at c.in_err-descriptors.ensures.read in
    rw (p.1, p.2) (step_fails _ _ _ _ (at_descriptors _ _ _ _ _ _ _ _ _ c.in_ok-head.ensures.read
    c.in_ok-section2.ensures.read flags) list)

pub returns-in_err-subsets-clause-read : goal.returns-in_err-subsets-clause-read
returns-in_err-subsets-clause-read c =
    let p = err_from_is_err_and c.from_residual-in_err-subsets.result
    c.from_residual-in_err-subsets.ensures.1 in
    let flags =
    rw (c.in_ok-section2.ensures.past, c.in_ok-head.ensures.past) at c.in_ok-flags.ensures.read in
    let list =
    rw (c.in_ok-flags.ensures.past, c.in_ok-section2.ensures.past, c.in_ok-head.ensures.past)
    at c.in_ok-descriptors.ensures.read in
    let subsets =
    rw (
      c.in_ok-descriptors.ensures.past,
      c.in_ok-flags.ensures.past,
      c.in_ok-section2.ensures.past,
      c.in_ok-head.ensures.past,
    ) at c.in_err-subsets.ensures.read in
    rw (p.1, p.2) (subsets_fail _ _ _ _ _ _ _ _ _ (at_subsets _ _ _ _ _ _ _ _ _ _ _
    c.in_ok-head.ensures.read c.in_ok-section2.ensures.read flags list) subsets)

pub returns-clause-read : goal.returns-clause-read
returns-clause-read c =
    let flags =
    rw (c.in_ok-section2.ensures.past, c.in_ok-head.ensures.past) at c.in_ok-flags.ensures.read in
    let list =
    rw (c.in_ok-flags.ensures.past, c.in_ok-section2.ensures.past, c.in_ok-head.ensures.past)
    at c.in_ok-descriptors.ensures.read in
    let subsets =
    rw (
      c.in_ok-descriptors.ensures.past,
      c.in_ok-flags.ensures.past,
      c.in_ok-section2.ensures.past,
      c.in_ok-head.ensures.past,
    ) at c.in_ok-subsets.ensures.read in
    rw (c.from_vec.ensures, c.from_vec-2.ensures)
    (message_is _ _ _ _ _ _ _ _ _ _ (at_subsets _ _ _ _ _ _ _ _ _ _ _ c.in_ok-head.ensures.read
    c.in_ok-section2.ensures.read flags list) subsets)

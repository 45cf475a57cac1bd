use Rattle.std.proofs.Common.{◌∙◌, sym}
use Rattle.std.proofs.lemmas.Result.{err_from_is_err_and}
use Rattle.bufr_listing_reader.proofs.LoopFacts.{one_subset, subset_shorter, subset_word_fails}
use Rattle.bufr_listing_reader.proofs.LoopFacts.{subset_fields_fail, subsets_end}
use Rattle.bufr_listing_reader.proofs.subsets.read_subsets.Goals as goal

pub returns-in_err-read_word-clause-read : goal.returns-in_err-read_word-clause-read
returns-in_err-read_word-clause-read c =
    let p = err_from_is_err_and c.from_residual.result c.from_residual.ensures.1 in
    let word = rw c.loop-alloc.invariant.last at c.in_err-read_word.ensures.read in
    rw (p.1, p.2) (subset_word_fails _ _ _ _ _ _ _ c.loop-alloc.invariant.so_far
    (sym c.ends.ensures ∙ c.loop-alloc-test.true) word)

pub returns-in_err-fields-clause-read : goal.returns-in_err-fields-clause-read
returns-in_err-fields-clause-read c =
    let p = err_from_is_err_and c.from_residual-in_err-fields.result
    c.from_residual-in_err-fields.ensures.1 in
    let word = rw c.loop-alloc.invariant.last at c.in_ok-read_word.ensures.read in
    let fields =
    rw (c.in_ok-read_word.ensures.past, c.loop-alloc.invariant.last)
    at c.in_err-fields.ensures.read in
    rw (p.1, p.2) (subset_fields_fail _ _ _ _ _ _ _ _ c.loop-alloc.invariant.so_far
    (sym c.ends.ensures ∙ c.loop-alloc-test.true) word fields)

pub loop-alloc-smaller : goal.loop-alloc-smaller
loop-alloc-smaller c =
    let word = rw c.loop-alloc.invariant.last at c.in_ok-read_word.ensures.read in
    let fields =
    rw (c.in_ok-read_word.ensures.past, c.loop-alloc.invariant.last)
    at c.in_ok-fields.ensures.read in
    subset_shorter _ _ _ _ _ word fields

pub loop-alloc-preserved : goal.loop-alloc-preserved
loop-alloc-preserved c =
    let word = rw c.loop-alloc.invariant.last at c.in_ok-read_word.ensures.read in
    let fields =
    rw (c.in_ok-read_word.ensures.past, c.loop-alloc.invariant.last)
    at c.in_ok-fields.ensures.read in
    record {
      last = c.in_ok-fields.ensures.past ∙ c.in_ok-read_word.ensures.past
          ∙ c.loop-alloc.invariant.last;
      so_far =
          one_subset _ _ _ _ _ (record { fields = c.in_ok-fields.fields }) _ _ _ _ _
          c.in_ok-push.ensures.items c.loop-alloc.invariant.so_far
          (sym c.ends.ensures ∙ c.loop-alloc-test.true) word fields;
    }

pub returns-clause-read : goal.returns-clause-read
returns-clause-read c =
    rw c.pass.ensures.lines (subsets_end _ _ _ _ _ _ c.loop-alloc.invariant.so_far
    (sym c.ends.ensures ∙ c.loop-alloc-test.false))

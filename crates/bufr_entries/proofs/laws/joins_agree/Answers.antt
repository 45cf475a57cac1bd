-- Each clause is a lemma of `Orders`.
use Rattle.bufr_entries.specs.Orders.{kept-same, kept-early, kept-swap, kept-join, kept-twice}
use Rattle.bufr_entries.proofs.laws.joins_agree.Goals as goal

pub returns : goal.returns
returns c =
    record {
      same = kept-same;
      early = kept-early;
      commutes = kept-swap;
      associates =
          kept-join;
      idempotent = kept-twice;
    }

-- Each clause is a lemma of `Orders` or `ChangeLaws`.
use Rattle.bufr_entries.specs.Orders.{kept-are, kept-only}
use Rattle.bufr_entries.specs.ChangeLaws.{kept-changed, kept-unchanged}
use Rattle.bufr_entries.proofs.laws.kept_is_the_best.Goals as goal

pub returns : goal.returns
returns c =
    record {
      best = kept-are;
      only = kept-only;
      tells =
          λ es e. (kept-changed es e, kept-unchanged es e);
    }

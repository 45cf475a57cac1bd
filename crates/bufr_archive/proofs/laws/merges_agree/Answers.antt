-- By the laws of what is kept.
use Rattle.std.proofs.Common.{◌++◌, ap, ◌∙◌}
use Rattle.bufr_entries.specs.Entries.{kept}
use Rattle.bufr_entries.specs.Orders.{kept-swap, kept-join, kept-twice, kept-kept}
use Rattle.bufr_archive.proofs.laws.merges_agree.Goals as goal

pub returns : goal.returns
returns c = record {
  commutes = λ a b h.
      ap (λ t. record a { tables = t; entries = kept (a.entries ++ b.entries) }) h
      ∙ ap (λ es. record b { entries = es }) (kept-swap a.entries b.entries);
  associates = λ a b c.
      ap (λ es. record a { entries = es }) (kept-join a.entries b.entries c.entries);
  idempotent = λ a h. ap (λ es. record a { entries = es }) (kept-twice a.entries ∙ h);
  kept = λ a b. kept-kept (a.entries ++ b.entries);
}

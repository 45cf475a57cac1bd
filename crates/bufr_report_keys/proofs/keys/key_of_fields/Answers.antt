-- The first values make the key.
use Rattle.std.proofs.Common.{ap, ◌∙◌}
use Rattle.bufr_report_keys.specs.FirstValues.{all_noted, key_of}
use Rattle.bufr_report_keys.proofs.FirstFacts.{are_noted, key_said}
use Rattle.bufr_report_keys.proofs.keys.key_of_fields.Goals as goal

pub returns : goal.returns
returns c =
    c.key_of.ensures
    ∙ ap (key_of c.args.head.now)
    (c.in_ok-note_handed.ensures ∙ ap (all_noted c.args.fields) c.none-values.ensures
    ∙ are_noted c.args.fields)
    ∙ key_said c.args.fields c.args.head.now

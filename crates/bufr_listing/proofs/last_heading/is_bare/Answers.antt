use Rattle.std.proofs.Common.{◌∙◌, ap, sym}
use Rattle.std.specs.Prelude.{not}
use Rattle.bufr_sections.specs.SectionsRead.{message_lent}
use Rattle.bufr_listing.proofs.KeptHeadingFacts.{bare_lines}
use Rattle.bufr_listing.proofs.last_heading.is_bare.Goals as goal

pub returns : goal.returns
returns c subsets none =
    bare_lines (message_lent c.args.sections.now subsets)
    (sym c.is_empty.ensures ∙ c.if-not-is_empty.false) (c.is_none.ensures ∙ ap not none)

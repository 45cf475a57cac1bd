-- The sources of the cells make the rows of the message.
use Rattle.std.proofs.Common.{◌∙◌, sym}
use Rattle.bufr_select_rows.proofs.SourceFacts.{have_rows, none_opens}
use Rattle.bufr_select_rows.proofs.picker.find_columns.Goals as goal

pub returns-in_ok-find_sources-in-Some : goal.returns-in_ok-find_sources-in-Some
returns-in_ok-find_sources-in-Some c =
    have_rows c.args.asked.now c.listed.result.now c.args.each c.args.cells.now
    c.find_sources.new.sources.items c.args.found.now.message.subsets c.in-Some.columns
    (none_opens c.args.each (sym c.is_some.ensures ∙ c.if-is_some.false)) c.listed.ensures
    c.requires.covers.0 c.in-Some.ensures c.in_ok-find_sources-in-Some.ensures

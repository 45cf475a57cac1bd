-- `elements-are` and `are-elements` are the two directions.
use Rattle.bufr_tables.specs.TableFiles.{records_of}
use Rattle.bufr_tables.proofs.ElementFacts.{elements-are, are-elements}
use Rattle.bufr_tables.proofs.laws.element_files.Goals as goal

pub returns : goal.returns
returns c text elements =
    (elements-are (records_of text) elements, are-elements (records_of text) elements)

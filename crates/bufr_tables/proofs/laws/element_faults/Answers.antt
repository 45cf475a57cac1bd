-- `element-fault` and `fault-element` are the two directions.
use Rattle.bufr_tables.specs.TableFiles.{records_of}
use Rattle.bufr_tables.proofs.ElementFacts.{element-fault, fault-element}
use Rattle.bufr_tables.proofs.laws.element_faults.Goals as goal

pub returns : goal.returns
returns c text fault =
    (element-fault (records_of text) fault, fault-element (records_of text) fault)

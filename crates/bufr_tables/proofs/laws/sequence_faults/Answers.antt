-- `sequence-fault` and `fault-sequence` are the two directions.
use Rattle.bufr_tables.specs.TableFiles.{records_of}
use Rattle.bufr_tables.proofs.SequenceFacts.{sequence-fault, fault-sequence}
use Rattle.bufr_tables.proofs.laws.sequence_faults.Goals as goal

pub returns : goal.returns
returns c text fault =
    (sequence-fault (records_of text) fault, fault-sequence (records_of text) fault)

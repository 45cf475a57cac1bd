-- `sequences-are` and `are-sequences` are the two directions.
use Rattle.bufr_tables.specs.TableFiles.{records_of}
use Rattle.bufr_tables.proofs.SequenceFacts.{sequences-are, are-sequences}
use Rattle.bufr_tables.proofs.laws.sequence_files.Goals as goal

pub returns : goal.returns
returns c text sequences =
    (sequences-are (records_of text) sequences, are-sequences (records_of text) sequences)

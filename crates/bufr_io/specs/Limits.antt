-- The limits on the reads of an input, each a constant of the code.
use Rattle.std.specs.Prelude.{ℕ}
use Rattle.bufr_io.specs.declared.input.TheConstants.{LONGEST_PIECE, MOST_READS}

-- the octets that one read asks for at the most
abbrev pub longest_piece : ℕ
longest_piece = LONGEST_PIECE

-- the reads of one input that an engine can be told to make at the most
abbrev pub most_reads : ℕ
most_reads = MOST_READS

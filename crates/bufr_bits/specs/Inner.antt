-- The reader in a source and the writer in a sink.
use Rattle.bufr_bits.specs.declared.device.FromRead.{FromRead}
use Rattle.bufr_bits.specs.declared.device.IntoWrite.{IntoWrite}

-- the reader of a source
abbrev pub reader_of : {R : Type 0} → FromRead R → R
reader_of source = source.reader

-- the writer of a sink
abbrev pub writer_of : {W : Type 0} → IntoWrite W → W
writer_of sink = sink.writer

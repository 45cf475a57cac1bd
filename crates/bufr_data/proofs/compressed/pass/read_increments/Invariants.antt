use Rattle.std.proofs.Common.{◌≡◌, ◌≤◌, ◌<◌, ◌-◌, ◌*◌, ◌^◌, length, drop}
use Rattle.bufr_bits.specs.Ends.{left}
use Rattle.bufr_data.proofs.CompressedFacts.Increments.{RaisedSoFar}
use Rattle.bufr_data.proofs.compressed.pass.read_increments.Given as goal

-- the first j increments are read, with the first number and whether all are equal, and the others
-- are there
abbrev pub invariant-loop-j : goal.invariant-loop-j
invariant-loop-j l = record {
  octets : l.reader.octets ≡ l.fn.reader.octets;
  onward : l.fn.reader.place ≤ l.reader.place;
  enough : (l.n - l.j) * l.k ≤ length (left l.reader);
  moved : left l.reader ≡ drop (l.j * l.k) (left l.fn.reader);
  fits : 0 < l.j → l.first < 2 ^ l.width;
  so_far : RaisedSoFar l.i l.width l.minimum l.k l.n l.j (left l.fn.reader)
      (left l.reader) l.first l.equal;
}

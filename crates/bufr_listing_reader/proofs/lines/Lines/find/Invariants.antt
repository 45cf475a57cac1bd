use Rattle.std.proofs.Common.{◌≡◌, ◌+◌, length}
use Rattle.std.specs.Str.Lines.{lines}
use Rattle.std.specs.Prelude.{None}
use Rattle.bufr_listing_reader.specs.Lines.{counting_from}
use Rattle.bufr_listing_reader.proofs.lines.Lines.find.Given as goal

-- the lines that count, and the number of the last, are those of the text left
abbrev pub invariant-loop-line : goal.invariant-loop-line
invariant-loop-line l = record {
  next : l.self.next ≡ None;
  counted : counting_from (l.self.found + 1) (lines l.self.rest.now)
      ≡ counting_from (l.fn.self.found + 1) (lines l.fn.self.rest.now);
  last : l.self.found + length (lines l.self.rest.now)
      ≡ l.fn.self.found + length (lines l.fn.self.rest.now);
}

abbrev pub decreases-loop-line : goal.decreases-loop-line
decreases-loop-line l = length l.self.rest.now

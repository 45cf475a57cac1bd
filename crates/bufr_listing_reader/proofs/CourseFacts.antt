-- A course asks only for fields that decimals can print, with a scale from -600 to 600: for the
-- laws of listings.
use Rattle.std.proofs.Common.{◌≡◌, ℕ, ◌<◌, ◌≤◌, true, ℤ, pos, negsuc, arith}
use Rattle.std.specs.Int.RustNames.{unsigned_abs}
use Rattle.std.proofs.lemmas.Bool.{le-leb, lt-ltb}
use Rattle.bufr_expand.specs.declared.operators.Spec.{Spec}
use Rattle.bufr_expand.specs.OperatorsInForce.{is_within}
use Rattle.bufr_expand.specs.Effects.{IsInRange}
use Rattle.bufr_expand.specs.Steady.{EachAsked}
use Rattle.bufr_expand.specs.Trees.{Tree}
use Rattle.bufr_expand.specs.Courses.{Course, ends, stops, asks, course}
use Rattle.bufr_listing_reader.proofs.LowerLaws.{FieldsAreInRange}
use Rattle.bufr_listing_reader.proofs.FieldFacts.{IsPrintable}

within_from_abs : (limit : ℕ) (z : ℤ) → unsigned_abs z ≤ limit → is_within limit z ≡ true
within_from_abs limit (pos n) h = le-leb n limit h
within_from_abs limit (negsuc n) h = let k : n < limit = omega arith in lt-ltb n limit k

printable : (spec : Spec) → IsInRange spec → IsPrintable spec
printable spec h = record {
  scale = within_from_abs 600 spec.scale (omega (arith, h.scale_within));
  reference = omega (arith, h.reference_within);
}

-- a course asks only for printable fields
unfoldable pub AsksPrintable : Course → Type 0
AsksPrintable (ends n) = Unit {0}
AsksPrintable (stops n fault) = Unit {0}
AsksPrintable (asks met d spec more) = IsPrintable spec × ((n : ℕ) → AsksPrintable (more n))

asks_printable : (c : Course) → EachAsked IsInRange c → AsksPrintable c
unfolding AsksPrintable EachAsked
asks_printable (ends n) h = tt
asks_printable (stops n fault) h = tt
asks_printable (asks met d spec more) h = (printable spec h.0, λ n. asks_printable (more n) (h.1 n))

pub course_printable : FieldsAreInRange → (t : Tree) (used : ℕ) → AsksPrintable (course t used)
course_printable range t used = asks_printable (course t used) (range t used)

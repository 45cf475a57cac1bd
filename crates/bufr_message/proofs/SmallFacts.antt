-- A subset has few fields, and each is small: for the law `subsets_are_small`.
use Rattle.std.proofs.Common.{ℕ, ◌+◌, ◌≤◌, List, [], ◌∷◌, length, map}
use Rattle.std.proofs.Common.{sym, subst, arith}
use Rattle.std.specs.List.{AllByRecursion}
use Rattle.std.proofs.Math.Nat.{pow-le-pow_right}
use Rattle.std.proofs.lemmas.List.{length-map}
use Rattle.bufr_tables.specs.Entries.{Entries}
use Rattle.bufr_expand.specs.declared.operators.Spec.{Spec}
use Rattle.bufr_expand.specs.Courses.{Course, ends, stops, asks, course}
use Rattle.bufr_expand.specs.Effects.{CanBeAsked}
use Rattle.bufr_expand.specs.Flat.{IsTreeOf}
use Rattle.bufr_expand.specs.Limits.{most_items}
use Rattle.bufr_expand.specs.Steady.{IsSteady, EachAsked}
use Rattle.bufr_expand.specs.Trees.{Tree}
use Rattle.bufr_expand.specs.Unrolling.{NumberedField, After}
use Rattle.bufr_fields.specs.declared.field.Raw.{Raw}
use Rattle.bufr_fields.specs.declared.field.Field.{Field}
use Rattle.bufr_fields.specs.declared.field.Subset.{Subset}
use Rattle.bufr_fields.specs.CourseLaws.{AreAllowed, Formed}
use Rattle.bufr_fields.specs.Fits.{HasForm, of_text, of_number, told_of}
use Rattle.bufr_fields.specs.Forms.{number_of}
use Rattle.bufr_message.specs.SmallSubsets.{IsSmall, IsSmallField, HasSmallFields, SubsetsAreSmall}
use Rattle.bufr_message.proofs.AloneFacts.{StandsAlone, each_alone}

-- each field that a course asks for adds an item, up to the limit
fields_few : (c : Course) (used : ℕ) (fields : List NumberedField) (later : Course) → used ≤ most_items
    → IsSteady used c → After c fields later → used + length fields ≤ most_items
unfolding IsSteady After
fields_few c used [] later le steady after = omega (arith, le)
fields_few (ends n) used (f ∷ fields) later le steady after = absurd after
fields_few (stops n w) used (f ∷ fields) later le steady after = absurd after
fields_few (asks met d spec more) used (f ∷ fields) later le steady after =
    let rest = fields_few (more f.number) met fields later steady.1 (steady.3 f.number) after.2 in
    omega (arith, rest, steady.0)

raw_small : (spec : Spec) (raw : Raw) → CanBeAsked spec → HasForm spec raw → IsSmall raw
raw_small spec raw can (of_text octets kind long small) =
    let few = (can.octets kind).few_octets in
    omega (arith, few, long)
raw_small spec raw can (of_number n other few below) =
    let most = pow-le-pow_right {n = 2} (omega arith) {i = spec.width} {j = 64} few in
    omega (arith, most, below)

fields_small : (c : Course) (fields : List Field) (later : Course) → EachAsked CanBeAsked c
    → After c (map told_of fields) later → Formed fields → AllByRecursion IsSmallField fields
unfolding After EachAsked
fields_small c [] later can after formed = tt
fields_small (ends n) (f ∷ fields) later can after formed = absurd after
fields_small (stops n w) (f ∷ fields) later can after formed = absurd after
fields_small (asks met d spec more) (f ∷ fields) later can after formed =
    let own = subst CanBeAsked (sym after.1) can.0 in (
      record { raw = raw_small f.spec f.raw own formed.0; range = own.in_range },
      fields_small (more (number_of f.raw)) fields later (can.1 (number_of f.raw)) after.2 formed.1,
    )

-- the laws of the crate below on courses
pub record OfCourses : Type 0 where
  pub steady : (tree : Tree) (used : ℕ) → IsSteady used (course tree used)
  pub within_limits : (tables : Entries) (list : List ℕ) (tree : Tree) (used : ℕ)
      → IsTreeOf tables list tree → EachAsked CanBeAsked (course tree used)
  pub allowed : AreAllowed

subset_small : OfCourses → (tables : Entries) (list : List ℕ) (tree : Tree) (most : ℕ)
    → IsTreeOf tables list tree → (s : Subset) → StandsAlone tree most s → HasSmallFields s
subset_small laws tables list tree most is s alone =
    let fits = alone.fits in
    let after = laws.allowed tree 0 (map told_of s.fields) alone.items
    (fits.operators, alone.items, fits.unrolled, omega arith, alone.few) in
    let few = fields_few (course tree 0) 0 (map told_of s.fields) (ends alone.items) (omega arith)
    (laws.steady tree 0) after in
    record {
      few = omega (arith, few, length-map s.fields told_of);
      small = fields_small (course tree 0) s.fields (ends alone.items)
          (laws.within_limits tables list tree 0 is) after fits.formed;
    }

each_small : OfCourses → (tables : Entries) (list : List ℕ) (tree : Tree) (most : ℕ)
    → IsTreeOf tables list tree → (subsets : List Subset)
    → AllByRecursion (StandsAlone tree most) subsets → AllByRecursion HasSmallFields subsets
each_small laws tables list tree most is [] alone = tt
each_small laws tables list tree most is (s ∷ subsets) (first, others) = (
  subset_small laws tables list tree most is s first,
  each_small laws tables list tree most is subsets others,
)

pub subsets_small : OfCourses → SubsetsAreSmall
subsets_small laws tables m octets slack spells = record {
  few = spells.fits.count;
  small = each_small laws tables m.descriptors spells.tree (length spells.data_bits)
      spells.template m.subsets
      (each_alone spells.tree m.compressed m.subsets spells.data_bits spells.holds);
}

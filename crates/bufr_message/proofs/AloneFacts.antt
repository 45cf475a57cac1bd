-- Each subset of a message's data has plain data of its own, which are no longer: for the law
-- `reports_have_canonical_messages`.
use Rattle.std.proofs.Common.{◌≡◌, ℕ, zero, suc, ◌+◌, ◌≤◌, Bool, true, false, List, [], ◌∷◌, ◌++◌}
use Rattle.std.proofs.Common.{length, map, sym, ap, subst, ◌∙◌, arith, length-append}
use Rattle.std.specs.List.{AllByRecursion, flat_map}
use Rattle.bufr_bits.specs.Bits.{bin, bits}
use Rattle.bufr_bits.specs.BitLaws.{length-bin}
use Rattle.bufr_bits.specs.OctetLaws.{length-bits}
use Rattle.bufr_expand.specs.declared.operators.Spec.{Spec}
use Rattle.bufr_expand.specs.Limits.{most_items}
use Rattle.bufr_expand.specs.Trees.{Tree}
use Rattle.bufr_fields.specs.declared.field.Raw.{Raw}
use Rattle.bufr_fields.specs.declared.field.Raw.TheVariants.{Number, Text}
use Rattle.bufr_fields.specs.declared.field.Field.{Field}
use Rattle.bufr_fields.specs.declared.field.Subset.{Subset}
use Rattle.bufr_data.specs.Plain.{raw_bits, plain, plain_subsets}
use Rattle.bufr_fields.specs.Fits.{HasForm, of_text, of_number, Fits, AllFit, FitsAlone}
use Rattle.bufr_data.specs.Compressed.{IsColumn, equal, numbers, texts, Column, AreColumns, field_of}
use Rattle.bufr_data.specs.Compressed.{subset_of, subsets_from}
use Rattle.bufr_data.specs.Data.{IsDataOf}

-- ---- one value and its column

same_room : (spec : Spec) (a b : Raw) → HasForm spec a → HasForm spec b
    → length (raw_bits spec.width a) ≡ length (raw_bits spec.width b)
same_room spec a b (of_text xs kind long small) (of_text ys kind2 long2 small2) =
    omega (arith, length-bits xs, length-bits ys)
same_room spec a b (of_text xs kind long small) (of_number n other few least) = absurd (other kind)
same_room spec a b (of_number n other few least) (of_text ys kind long small) = absurd (other kind)
same_room spec a b (of_number n other few least) (of_number k other2 few2 least2) =
    length-bin spec.width n ∙ sym (length-bin spec.width k)

column_is_long : (spec : Spec) (values : List Raw) (column : List Bool) (v : Raw)
    → IsColumn spec values column → HasForm spec v → length (raw_bits spec.width v) ≤ length column
column_is_long spec values column v (equal minimum form same is) has =
    let room = same_room spec v minimum has form in
    let all = ap length is in
    omega (arith, length-append (raw_bits spec.width minimum) (bin 6 0))
column_is_long spec values column v (numbers minimum k increments form some few each is) has =
    let room = same_room spec v (Number minimum) has form in
    let all = ap length is in
    omega (
      arith,
      length-append (bin spec.width minimum ++ bin 6 k) (flat_map (bin k) increments),
      length-append (bin spec.width minimum) (bin 6 k),
    )
column_is_long spec values column v (texts ignored k own form some few wide each is) has =
    let room = same_room spec v (Text ignored) has form in
    let all = ap length is in
    omega (
      arith,
      length-append (bits ignored ++ bin 6 k) (flat_map bits own),
      length-append (bits ignored) (bin 6 k),
    )

-- ---- a subset and its columns

-- each value has the form of its field
abbrev FieldsHaveForm : List Field → Type 0
FieldsHaveForm fields = AllByRecursion (λ f. HasForm f.spec f.raw) fields

columns_are_long : (n k : ℕ) (columns : List Column) (front : List Bool)
    → AreColumns n columns front → FieldsHaveForm (map (field_of k) columns)
    → length (plain (map (field_of k) columns)) ≤ length front
columns_are_long n k [] front are forms = omega arith
columns_are_long n k (c ∷ cs) front (column, others, is, many, held, one_count, more)
    (form, forms) =
    let first = column_is_long c.spec c.values column (field_of k c).raw held form in
    let rest = columns_are_long n k cs others more forms in
    let all = ap length is in
    omega (
      arith,
      length-append column others,
      length-append (raw_bits c.spec.width (field_of k c).raw) (plain (map (field_of k) cs)),
    )

-- ---- all subsets

-- a subset fits by itself, and has at most this number of plain bits
pub record StandsAlone (tree : Tree) (most : ℕ) (s : Subset) : Type 0 where
  pub items : ℕ
  pub fits : Fits tree s.fields items
  pub few : items ≤ most_items
  pub short : length (plain_subsets (s ∷ [])) ≤ most

alone_is : (tree : Tree) (most : ℕ) (s : Subset) (items : ℕ) → Fits tree s.fields items
    → items ≤ most_items → length (plain s.fields) ≤ most → StandsAlone tree most s
alone_is tree most s items fits few short =
    record {
      items = items;
      fits = fits;
      few = few;
      short = omega
          (arith, length-append (plain s.fields) []);
    }

packed_alone : (tree : Tree) (n : ℕ) (columns : List Column) (front : List Bool)
    → AreColumns n columns front → (k count : ℕ)
    → AllByRecursion (FitsAlone tree) (subsets_from k count columns)
    → AllByRecursion (StandsAlone tree (length front)) (subsets_from k count columns)
packed_alone tree n columns front are k zero fit = tt
packed_alone tree n columns front are k (suc count) ((total, (items, fits, sum, few)), others) = (
  alone_is tree (length front) (subset_of columns k) items fits (omega arith)
      (columns_are_long n k columns front are fits.formed),
  packed_alone tree n columns front are (k + 1) count others,
)

plain_alone : (tree : Tree) (most : ℕ) (subsets : List Subset) (items : ℕ)
    → AllFit tree subsets items → items ≤ most_items → length (plain_subsets subsets) ≤ most
    → AllByRecursion (StandsAlone tree most) subsets
plain_alone tree most [] items fit few short = tt
plain_alone tree most (s ∷ ss) items (own, others, fits, more, sum) few short =
    let both = length-append (plain s.fields) (plain_subsets ss) in (
      alone_is tree most s own fits (omega arith) (omega arith),
      plain_alone tree most ss others more (omega arith) (omega arith),
    )

pub each_alone : (tree : Tree) (compressed : Bool) (subsets : List Subset) (data_bits : List Bool)
    → IsDataOf tree compressed subsets data_bits
    → AllByRecursion (StandsAlone tree (length data_bits)) subsets
each_alone tree false subsets data_bits (items, (own, fit, sum, few), are) =
    plain_alone tree (length data_bits) subsets own fit (omega arith)
    (let all = ap length are in omega arith)
each_alone tree true [] data_bits (fit, none) = tt
each_alone tree true (s ∷ subsets) data_bits (fit, (columns, is, few, are)) =
    subst (AllByRecursion (StandsAlone tree (length data_bits))) (sym is)
    (packed_alone tree (length (s ∷ subsets)) columns data_bits are 0 (length (s ∷ subsets))
    (subst (AllByRecursion (FitsAlone tree)) is fit))

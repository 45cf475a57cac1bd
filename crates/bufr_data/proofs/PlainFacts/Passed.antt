-- Passing a subset without building its fields.
use Rattle.std.proofs.Common.{◌≡◌, ℕ, ◌*◌, ◌/◌, ◌<◌, ◌≤◌, Bool, true, false, List}
use Rattle.std.proofs.Common.{◌++◌, length, take, drop, Some, None, Result, Ok, Err, refl, sym, ap}
use Rattle.std.proofs.Common.{◌∙◌, arith, subst}
use Rattle.std.specs.Prelude.{option_map, IsOk, nat_le, nat_lt, if◌then◌else◌}
use Rattle.std.proofs.lemmas.Bool.{le-ltb, lt-ltb, le-leb, leb-true, ltb-false}
use Rattle.bufr_bits.specs.Bits.{number, number_at}
use Rattle.bufr_tables.specs.declared.element.Kind.TheVariants as kinds
use Rattle.bufr_tables.specs.Elements.{same_kind}
use Rattle.bufr_expand.specs.declared.operators.Spec.{Spec}
use Rattle.bufr_fields.specs.declared.field.Raw.TheVariants.{Number}
use Rattle.bufr_fields.specs.declared.fault.DataFault.{DataFault}
use Rattle.bufr_fields.specs.declared.fault.DataFault.TheVariants as faults
use Rattle.bufr_expand.specs.Courses.{Course}
use Rattle.bufr_fields.specs.declared.field.Field.{Field}
use Rattle.bufr_data.specs.Plain.{SubsetRead, raw_at, field_number_at, fields_at}
use Rattle.bufr_data.specs.Plain.Reads.{raw_or_ends, behind_fields}
use Rattle.bufr_data.specs.Plain.Starts.{PassesRaw, PassesOn}
use Rattle.bufr_fields.specs.FormLaws.{same_kind_is}
use Rattle.bufr_data.proofs.KindFacts.{other_kind}
use Rattle.bufr_data.proofs.PlainFacts.Reads.{behind_both}
use Rattle.bufr_data.proofs.CompressedFacts.Passed.{number_raw, minimum_there, octets_none, text_raw}

-- a spec of no text
abbrev IsOther : Spec → Type 0
IsOther spec = spec.kind ≡ kinds.Text → ⊥

-- a count is no text
pub other_than_text : (spec : Spec) → same_kind spec.kind kinds.Count ≡ true → IsOther spec
other_than_text spec count text = absurd (let same = same_kind_is spec.kind kinds.Count count in cc)

eight_times : (b w : ℕ) → b ≡ 8 * w → b ≡ w * 8
eight_times b w e = omega (arith, e)

pub text_passes : (i : ℕ) (spec : Spec) (front rest : List Bool) (b w : ℕ) → spec.kind ≡ kinds.Text
    → b ≡ 8 * w → w ≡ spec.width / 8 → b ≤ length front → rest ≡ drop b front
    → PassesRaw i spec front rest
text_passes i spec front rest b w is times eighth enough behind =
    let size : b ≡ spec.width / 8 * 8 = eight_times b w times ∙ ap (λ n. n * 8) eighth in
    (_, ap (raw_or_ends 1 i) (minimum_there spec front rest b is size enough behind))

pub text_ends : (i : ℕ) (spec : Spec) (front : List Bool) (b w : ℕ) → spec.kind ≡ kinds.Text
    → b ≡ 8 * w → w ≡ spec.width / 8 → length front < b
    → raw_or_ends 1 i (raw_at spec front) ≡ Err (faults.DataEnds 1 i)
text_ends i spec front b w is times eighth short =
    let size : b ≡ spec.width / 8 * 8 = eight_times b w times ∙ ap (λ n. n * 8) eighth in
    let less : length front < spec.width / 8 * 8 = omega (arith, size, short) in
    rw (text_raw spec front is, octets_none (spec.width / 8) front less) refl

there : (width : ℕ) (front : List Bool) → width ≤ 64
    → field_number_at width front ≡ number_at width front
there width front few = rw (le-leb width 64 few) refl

pub number_found : (width : ℕ) (front : List Bool) → width ≤ length front
    → number_at width front ≡ Some (number (take width front), drop width front)
unfolding number_at
number_found width front long = rw (le-ltb (length front) width long) refl

pub number_missing : (width : ℕ) (front : List Bool) → length front < width
    → number_at width front ≡ None
unfolding number_at
number_missing width front short = rw (lt-ltb (length front) width short) refl

raw_number : (spec : Spec) (front : List Bool) → same_kind spec.kind kinds.Text ≡ false
    → spec.width ≤ 64
    → raw_at spec front ≡ option_map (λ x. (Number x.0, x.1)) (number_at spec.width front)
raw_number spec front other few =
    number_raw spec.kind spec.width front other
    ∙ ap (option_map (λ x. (Number x.0, x.1))) (there spec.width front few)

pub number_taken : (i : ℕ) (spec : Spec) (front rest : List Bool) (n : ℕ)
    → same_kind spec.kind kinds.Text ≡ false → spec.width ≤ 64
    → number_at spec.width front ≡ Some (n, rest)
    → raw_or_ends 1 i (raw_at spec front) ≡ Ok (Number n, rest)
number_taken i spec front rest n other few found =
    ap (raw_or_ends 1 i)
    (raw_number spec front other few ∙ ap (option_map (λ x. (Number x.0, x.1))) found)

pub number_short : (i : ℕ) (spec : Spec) (front : List Bool)
    → same_kind spec.kind kinds.Text ≡ false → spec.width ≤ 64 → number_at spec.width front ≡ None
    → raw_or_ends 1 i (raw_at spec front) ≡ Err (faults.DataEnds 1 i)
number_short i spec front other few none =
    ap (raw_or_ends 1 i)
    (raw_number spec front other few ∙ ap (option_map (λ x. (Number x.0, x.1))) none)

pub number_passes : (i : ℕ) (spec : Spec) (front rest : List Bool) (b : ℕ) → IsOther spec
    → spec.width ≤ 64 → b ≡ spec.width → b ≤ length front → rest ≡ drop b front
    → PassesRaw i spec front rest
number_passes i spec front rest b other few size enough behind =
    let long : spec.width ≤ length front = omega (arith, size, enough) in
    let same : drop spec.width front ≡ rest = sym (behind ∙ ap (λ w. drop w front) size) in (
      _,
      number_taken i spec front rest (number (take spec.width front))
          (other_kind spec.kind kinds.Text other) few
          (number_found spec.width front long
          ∙ ap (λ xs. Some (number (take spec.width front), xs)) same),
    )

pub number_ends : (i : ℕ) (spec : Spec) (front : List Bool) (b : ℕ) → IsOther spec → spec.width ≤ 64
    → b ≡ spec.width → length front < b
    → raw_or_ends 1 i (raw_at spec front) ≡ Err (faults.DataEnds 1 i)
number_ends i spec front b other few size short =
    let less : length front < spec.width = omega (arith, size, short) in
    number_short i spec front (other_kind spec.kind kinds.Text other) few
    (number_missing spec.width front less)

pub more_passed : (whole : Result SubsetRead DataFault) (i next : ℕ) (c later : Course)
    (front rest : List Bool) (items : ℕ)
    → (fields : List Field) × (whole ≡ behind_fields fields (fields_at 1 i c front))
    → PassesOn i c front (Some next) later items rest
    → (fields : List Field) × (whole ≡ behind_fields fields (fields_at 1 next later rest))
more_passed whole i next c later front rest items so_far step = (
  so_far.0 ++ step.0,
  so_far.1 ∙ ap (behind_fields so_far.0) step.1
      ∙ behind_both so_far.0 step.0 (fields_at 1 next later rest),
)

-- a number of at most 64 bits is there
pub record HasBits (width : ℕ) (front : List Bool) : Type 0 where
  pub narrow : width ≤ 64
  pub enough : width ≤ length front

both_tests : (few short : Bool) (x : ℕ × List Bool)
    → IsOk (raw_or_ends 1 1 (option_map (λ (y : ℕ × List Bool). (Number y.0, y.1))
    (if few then (if short then None else Some x) else None)))
    → (few ≡ true) × (short ≡ false)
both_tests true false x ok = (refl, refl)
both_tests true true x ok = absurd cc
both_tests false short x ok = absurd cc

pub number_has_bits : (spec : Spec) (front : List Bool) → IsOther spec
    → IsOk (raw_or_ends 1 1 (raw_at spec front)) → HasBits spec.width front
unfolding number_at
number_has_bits spec front other ok =
    let raw = number_raw spec.kind spec.width front (other_kind spec.kind kinds.Text other) in
    let tests =
    both_tests (nat_le spec.width 64) (nat_lt (length front) spec.width)
    (number (take spec.width front), drop spec.width front)
    (subst IsOk (ap (raw_or_ends 1 1) raw) ok) in
    record {
      narrow = leb-true spec.width 64 tests.0;
      enough = ltb-false (length front) spec.width tests.1;
    }

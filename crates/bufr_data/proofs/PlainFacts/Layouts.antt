-- The fields of a layout are those that the course of each subset asks for first.
use Rattle.std.proofs.Common.{◌≡◌, ℕ, ◌+◌, ◌≤◌, Bool, true, false, List, [], ◌∷◌, ◌++◌, Option, Some, None}
use Rattle.std.proofs.Common.{Result, Ok, Err, map, length, drop, refl, sym, ap, subst, ◌∙◌, arith}
use Rattle.std.specs.Prelude.{IsOk}
use Rattle.std.proofs.lemmas.List.{drop-drop, length-drop}
use Rattle.bufr_base.specs.Answers.{◌>>=◌}
use Rattle.bufr_tables.specs.declared.element.Kind.TheVariants as kinds
use Rattle.bufr_tables.specs.Elements.{same_kind}
use Rattle.bufr_expand.specs.declared.operators.Spec.{Spec}
use Rattle.bufr_expand.specs.declared.walk.Step.TheVariants as steps
use Rattle.bufr_expand.specs.declared.walk.Walk.{Walk}
use Rattle.bufr_expand.specs.Courses.{Course, ends, stops, asks, course}
use Rattle.bufr_expand.specs.Trees.{Tree}
use Rattle.bufr_expand.specs.Asked.{TellsNone}
use Rattle.bufr_expand.specs.Unrolling.{NumberedField, After}
use Rattle.bufr_expand.specs.Limits.{most_items}
use Rattle.bufr_expand.specs.Runs.{after_joined}
use Rattle.bufr_expand.specs.Steady.{IsSteady, course_steady}
use Rattle.bufr_expand.specs.Walks.{left, items_met, Goes}
use Rattle.bufr_fields.specs.declared.field.Raw.{Raw}
use Rattle.bufr_fields.specs.declared.field.Field.{Field}
use Rattle.bufr_fields.specs.declared.fault.DataFault.{DataFault}
use Rattle.bufr_data.specs.declared.plain.index.SubsetStart.{SubsetStart}
use Rattle.bufr_expand.specs.declared.even_turns.CommonField.{CommonField}
use Rattle.bufr_data.specs.declared.plain.layout.Layout.{Layout}
use Rattle.bufr_data.specs.Plain.{SubsetRead, raw_at, field_then, fields_at}
use Rattle.bufr_fields.specs.Forms.{number_of}
use Rattle.bufr_data.specs.Chosen.{is_listed}
use Rattle.bufr_data.specs.Plain.Layouts.{laid_then, laid_course}
use Rattle.bufr_expand.specs.EvenTurns.{told, HaveNoCount}
use Rattle.bufr_data.specs.Plain.Layouts.{HasPlaces, IsLaid}
use Rattle.bufr_bits.specs.Bits.{bits}
use Rattle.bufr_bits.specs.Ends as ends_of
use Rattle.bufr_bits.specs.Ends.{BitPlace}
use Rattle.bufr_data.specs.Handed.{fields_laid, StandLaid, FirstIsAsked, PassesLaid, moved_on}
use Rattle.bufr_data.specs.Handed.{StandThen, PassesFirst, fields_then}
use Rattle.bufr_data.specs.Plain.Reads.{raw_or_ends, behind_fields}
use Rattle.bufr_data.specs.Plain.Starts.{PassesRaw, fields_of, subset_at, BeginsAtStart}
use Rattle.bufr_fields.specs.CourseLaws.{AreUnrolled, AreAllowed}
use Rattle.bufr_fields.specs.StepLaws.{asks_field, ends_there}
use Rattle.bufr_data.proofs.AskedFacts.{one_passed, asked_from}
use Rattle.bufr_data.proofs.ListFacts.{all_grown, map_grown}
use Rattle.bufr_data.proofs.PlainFacts.Handed.{Handed, field_handed, asked_there}
use Rattle.bufr_data.proofs.PlainFacts.Reads.{asked_field, found_is}

-- the fields laid out are those that the course asks for, none a count, up to the walk's place
pub record LaidSoFar (c : Course) (fields : List CommonField) (later : Course) : Type 0 where
  pub behind : After c (map told fields) later
  pub no_count : HaveNoCount fields

pub none_laid : (c later : Course) → later ≡ c → LaidSoFar c [] later
unfolding After
none_laid c later is = record { behind = sym is; no_count = tt }

one_asked : (met : ℕ) (f : CommonField) (more : ℕ → Course)
    → After (asks met f.fxy f.spec more) (told f ∷ []) (more 0)
unfolding After
one_asked met f more = (refl, refl, refl)

pub one_laid : (c : Course) (old new : Walk) (fields grown : List CommonField) (f : CommonField)
    → grown ≡ fields ++ f ∷ [] → Goes (left old) (Ok (steps.Field f.fxy f.spec)) new
    → LaidSoFar c fields (left old) → LaidSoFar c grown (left new)
one_laid c old new fields grown f is goes so_far =
    let a = asks_field (left old) f.fxy f.spec new goes in
    let P : Course → Course → Type 0 = λ x y. After x (told f ∷ []) y in
    let asked : P (left old) (a.more 0) =
    subst (λ x. P x (a.more 0)) (sym a.is) (one_asked a.met f a.more) in
    record {
      behind =
          subst (λ (fs : List NumberedField). After c fs (left new))
          (sym (map_grown told fields grown f is))
          (after_joined c (left old) (left new) (map told fields) (told f ∷ [])
          so_far.behind (subst (P (left old)) (sym a.after) asked));
      no_count =
          all_grown (λ f. same_kind f.spec.kind kinds.Count ≡ false) fields grown f is
          so_far.no_count a.kind;
    }

none_at_end : (P : ℕ → Bool) (n : ℕ) → TellsNone P (ends n)
unfolding TellsNone
none_at_end P n = tt

pub all_laid : (tree : Tree) (old new : Walk) (list : List ℕ) (fields : List CommonField)
    (items : ℕ) (layout : Layout) → AreUnrolled → AreAllowed
    → Goes (left old) (Ok steps.End) new → items ≡ items_met new
    → LaidSoFar (course tree 0) fields (left old) → HasPlaces list fields true items layout
    → IsLaid tree layout
all_laid tree old new list laid items layout unrolled allowed goes met so_far has =
    let fields = map told layout.fields in
    let here =
    subst (λ fs. LaidSoFar (course tree 0) fs (left old)) (sym has.same_fields) so_far in
    let end : left old ≡ ends layout.items =
    ends_there (left old) new goes ∙ ap ends (sym met ∙ sym has.same_items) in
    let first = subst (After (course tree 0) fields) end here.behind in
    let u = unrolled tree 0 fields layout.items (omega arith) first in
    record {
      no_count = here.no_count;
      begins = record {
        later = ends layout.items;
        first = first;
        no_more = none_at_end (is_listed layout.asked) layout.items;
      };
      whole = λ is used room.
          let sum : used + layout.items ≡ used + u.1 = omega (arith, u.3) in
          allowed tree used fields (used + layout.items) (u.0, u.1, u.2, sum, room);
      placed = has.placed;
    }

-- the fields up to the last chosen one
pub front_laid : (tree : Tree) (w : Walk) (list : List ℕ) (fields : List CommonField) (items : ℕ)
    (layout : Layout) → LaidSoFar (course tree 0) fields (left w)
    → TellsNone (is_listed list) (left w) → HasPlaces list fields false items layout
    → IsLaid tree layout
front_laid tree w list fields items layout so_far none has =
    let here = subst (λ fs. LaidSoFar (course tree 0) fs (left w)) (sym has.same_fields) so_far in
    record {
      no_count = here.no_count;
      begins = record {
        later = left w;
        first = here.behind;
        no_more = subst (λ ds. TellsNone (is_listed ds) (left w)) (sym has.same_asked) none;
      };
      whole = λ is. absurd (let e = sym has.same_whole ∙ is in cc);
      placed = has.placed;
    }

-- a reading without its number of items
abbrev pub uncounted : Result SubsetRead DataFault → Result SubsetRead DataFault
uncounted (Ok found) = Ok (record found { items = 0 })
uncounted (Err e) = Err e

-- a field before others
abbrev pub with_front : Field → Result SubsetRead DataFault → Result SubsetRead DataFault
with_front f o = o >>= λ found. Ok (record found { fields = f ∷ found.fields })

in_front : (f : Field) (one other : Result SubsetRead DataFault) → one ≡ uncounted other
    → with_front f one ≡ uncounted (with_front f other)
in_front f one (Ok found) is = ap (with_front f) is
in_front f one (Err e) is = ap (with_front f) is

field_uncounted : (i d : ℕ) (spec : Spec) (one other : ℕ → List Bool → Result SubsetRead DataFault)
    (o : Option (Raw × List Bool))
    → ((n : ℕ) (rest : List Bool) → one n rest ≡ uncounted (other n rest))
    → field_then 1 i d spec one o ≡ uncounted (field_then 1 i d spec other o)
field_uncounted i d spec one other None same = refl
field_uncounted i d spec one other (Some x) same =
    in_front (record { fxy = d; spec = spec; raw = x.0 }) (one (number_of x.0) x.1)
    (other (number_of x.0) x.1) (same (number_of x.0) x.1)

-- the fields alone are those before an end, but for the number of items
alone_uncounted : (met i : ℕ) (fields : List CommonField) (front : List Bool)
    → fields_at 1 i (laid_course fields) front
    ≡ uncounted (fields_at 1 i (laid_then fields (ends met)) front)
unfolding fields_at laid_then
alone_uncounted met i [] front = refl
alone_uncounted met i (f ∷ fields) front =
    field_uncounted i f.fxy f.spec (λ n rest. fields_at 1 (i + 1) (laid_course fields) rest)
    (λ n rest. fields_at 1 (i + 1) (laid_then fields (ends met)) rest) (raw_at f.spec front)
    (λ n rest. alone_uncounted met (i + 1) fields rest)

field_same : (i d : ℕ) (spec : Spec) (one other : ℕ → List Bool → Result SubsetRead DataFault)
    (o : Option (Raw × List Bool)) → ((n : ℕ) (rest : List Bool) → one n rest ≡ other n rest)
    → field_then 1 i d spec one o ≡ field_then 1 i d spec other o
field_same i d spec one other None same = refl
field_same i d spec one other (Some x) same =
    ap (with_front (record { fxy = d; spec = spec; raw = x.0 })) (same (number_of x.0) x.1)

-- a course is read like the fields that it asks for first, and what it asks for later
pub read_as_laid : (used i : ℕ) (c later : Course) (fields : List CommonField) (front : List Bool)
    → IsSteady used c → HaveNoCount fields → After c (map told fields) later
    → fields_at 1 i (laid_then fields later) front ≡ fields_at 1 i c front
unfolding After IsSteady fields_at laid_then
read_as_laid used i c later [] front steady none asked =
    ap (λ x. fields_at 1 i x front) (sym asked)
read_as_laid used i (ends n) later (f ∷ fields) front steady none asked = absurd asked
read_as_laid used i (stops n fault) later (f ∷ fields) front steady none asked = absurd asked
read_as_laid used i (asks m d spec more) later (f ∷ fields) front steady none asked =
    let kind : same_kind spec.kind kinds.Count ≡ false =
    subst (λ (s : Spec). same_kind s.kind kinds.Count ≡ false) asked.1 none.0 in
    (λ t. fields_at 1 i (asks 0 (asked.0 t) (asked.1 t) (λ number. laid_then fields later)) front)
    ∙ field_same i d spec (λ n rest. fields_at 1 (i + 1) (laid_then fields later) rest)
    (λ n rest. fields_at 1 (i + 1) (more n) rest) (raw_at spec front)
    (λ n rest.
    read_as_laid m (i + 1) (more 0) later fields rest (steady.3 0) none.1 asked.2
    ∙ ap (λ c. fields_at 1 (i + 1) c rest) (sym (steady.2 kind n)))

fields_uncounted : (found : Result SubsetRead DataFault) → fields_of (uncounted found)
    ≡ fields_of found
fields_uncounted (Ok found) = refl
fields_uncounted (Err e) = refl

there_uncounted : (found : Result SubsetRead DataFault) → IsOk found → IsOk (uncounted found)
there_uncounted (Ok found) ok = refl
there_uncounted (Err e) ok = absurd cc

-- the fields of a layout are those of a subset, if it is there
pub record Same (fields : List CommonField) (subset : Result SubsetRead DataFault)
    (front : List Bool) : Type 0 where
  pub there : IsOk (fields_at 1 1 (laid_course fields) front)
  pub are : fields_of (fields_at 1 1 (laid_course fields) front) ≡ fields_of subset

pub laid_fields : (tree : Tree) (layout : Layout) (used : ℕ) (front : List Bool)
    → IsLaid tree layout → layout.is_whole ≡ true → used + layout.items ≤ most_items
    → IsOk (fields_at 1 1 (course tree used) front)
    → Same layout.fields (fields_at 1 1 (course tree used) front) front
laid_fields tree layout used front laid whole room ok =
    let same =
    alone_uncounted (used + layout.items) 1 layout.fields front
    ∙ ap uncounted
    (read_as_laid used 1 (course tree used) (ends (used + layout.items)) layout.fields front
    (course_steady tree used) laid.no_count (laid.whole whole used room)) in
    record {
      there = subst IsOk (sym same) (there_uncounted (fields_at 1 1 (course tree used) front) ok);
      are = ap fields_of same ∙ fields_uncounted (fields_at 1 1 (course tree used) front);
    }

pub laid_here : (octets : List ℕ) (tree : Tree) (s : SubsetStart) (kept one two three : Layout)
    → one ≡ kept → two ≡ kept → three ≡ kept → IsLaid tree kept → one.is_whole ≡ true
    → s.used + two.items ≤ most_items → BeginsAtStart octets tree s
    → Same three.fields (subset_at octets tree s) (drop s.bit (bits octets))
laid_here octets tree s kept one two three same_one same_two same_three laid whole room begins =
    subst (λ (l : Layout). Same l.fields (subset_at octets tree s) (drop s.bit (bits octets)))
    (sym same_three)
    (laid_fields tree kept s.used (drop s.bit (bits octets)) laid
    (ap (λ (l : Layout). l.is_whole) (sym same_one) ∙ whole)
    (subst (λ (l : Layout). s.used + l.items ≤ most_items) same_two room) begins.1)

pub none_left : (fields : List CommonField) (reader : BitPlace) → length fields ≡ 0
    → StandLaid fields reader × (fields_laid fields reader ≡ [])
unfolding fields_at laid_then
none_left [] reader is = (refl, refl)
none_left (f ∷ fields) reader is = absurd (omega (arith, is))

-- the first of some fields, and those after it
pub first_then : (later : Course) (fields others : List CommonField) (f : CommonField)
    (reader rest : BitPlace) (raw : Raw) → fields ≡ f ∷ others → StandThen later fields reader
    → raw_or_ends 1 1 (raw_at f.spec (ends_of.left reader)) ≡ Ok (raw, ends_of.left rest)
    → Handed (record { fxy = f.fxy; spec = f.spec; raw = raw })
    (fields_at 1 1 (laid_then fields later) (ends_of.left reader))
    (fields_at 1 1 (laid_then others later) (ends_of.left rest))
unfolding laid_then
first_then later [] others f reader rest raw is stand read = absurd cc
first_then later (g ∷ fields) others f reader rest raw is stand read =
    let step : fields_at 1 1 (laid_then (f ∷ others) later) (ends_of.left reader)
    ≡ behind_fields (record { fxy = f.fxy; spec = f.spec; raw = raw } ∷ [])
    (fields_at 1 2 (laid_then others later) (ends_of.left rest)) =
    asked_field 1 1 0 f.fxy f.spec (λ n. laid_then others later) (ends_of.left reader)
    (ends_of.left rest) raw (found_is 1 1 _ _ read) in
    field_handed (laid_then (g ∷ fields) later) (laid_then others later) (ends_of.left reader)
    (ends_of.left rest) (record { fxy = f.fxy; spec = f.spec; raw = raw }) stand
    (ap (λ fs. fields_at 1 1 (laid_then fs later) (ends_of.left reader)) is ∙ step)

pub first_handed : (fields others : List CommonField) (f : CommonField) (reader rest : BitPlace)
    (raw : Raw) → fields ≡ f ∷ others → StandLaid fields reader
    → raw_or_ends 1 1 (raw_at f.spec (ends_of.left reader)) ≡ Ok (raw, ends_of.left rest)
    → Handed (record { fxy = f.fxy; spec = f.spec; raw = raw })
    (fields_at 1 1 (laid_course fields) (ends_of.left reader))
    (fields_at 1 1 (laid_course others) (ends_of.left rest))
first_handed fields others f reader rest raw is stand read =
    first_then (ends 0) fields others f reader rest raw is stand read

pub there_then : (later : Course) (fields others : List CommonField) (f : CommonField)
    (reader : BitPlace) → fields ≡ f ∷ others → StandThen later fields reader
    → IsOk (raw_or_ends 1 1 (raw_at f.spec (ends_of.left reader)))
unfolding fields_at laid_then
there_then later fields others f reader is stand =
    asked_there (laid_then (f ∷ others) later) 0 f.fxy f.spec (λ n. laid_then others later)
    (ends_of.left reader) refl (subst (λ fs. StandThen later fs reader) is stand)

pub first_there : (others : List CommonField) (f : CommonField) (reader : BitPlace)
    → StandLaid (f ∷ others) reader → IsOk (raw_or_ends 1 1 (raw_at f.spec (ends_of.left reader)))
first_there others f reader stand = there_then (ends 0) (f ∷ others) others f reader refl stand

pub left_moved : (reader : BitPlace) (gap : ℕ)
    → ends_of.left (moved_on reader gap) ≡ drop gap (ends_of.left reader)
left_moved reader gap = sym (drop-drop gap reader.place (bits reader.octets))

pub unmoved : (reader : BitPlace) → moved_on reader 0 ≡ reader
unmoved reader =
    ap (λ (k : ℕ). record { octets = reader.octets; place = k }) (omega arith)

pub none_passed : (P : ℕ → Bool) (fields : List CommonField) (reader : BitPlace)
    → StandLaid fields reader → PassesLaid P fields fields reader 0
none_passed P fields reader stand =
    let same = sym (unmoved reader) in
    record {
      within = omega arith;
      there = subst (StandLaid fields) same stand;
      passed = ([], tt, ap (fields_laid fields) same);
    }

-- a field that is not chosen is skipped with its bits
pub first_skipped : (P : ℕ → Bool) (later : Course) (fields others : List CommonField)
    (f : CommonField) (reader : BitPlace) (size : ℕ) → fields ≡ f ∷ others
    → StandThen later fields reader → P f.fxy ≡ false
    → ((front : List Bool) → IsOk (raw_or_ends 1 1 (raw_at f.spec front))
    → (size ≤ length front) × PassesRaw 1 f.spec front (drop size front))
    → StandThen later others (moved_on reader size)
    × PassesFirst P (fields_then later fields reader) (fields_then later others (moved_on reader size))
first_skipped P later fields others f reader size is stand unasked takes =
    let taken = takes (ends_of.left reader) (there_then later fields others f reader is stand) in
    let next = moved_on reader size in
    let h =
    first_then later fields others f reader next taken.1.0 is stand
    (taken.1.1 ∙ ap (λ bs. Ok (taken.1.0, bs)) (sym (left_moved reader size))) in
    (h.there, (record { fxy = f.fxy; spec = f.spec; raw = taken.1.0 }, unasked, h.is))

pub one_more_passed : (P : ℕ → Bool) (all fields others : List CommonField) (f : CommonField)
    (reader : BitPlace) (passed size : ℕ) → fields ≡ f ∷ others
    → PassesLaid P all fields reader passed → P f.fxy ≡ false
    → ((front : List Bool) → IsOk (raw_or_ends 1 1 (raw_at f.spec front))
    → (size ≤ length front) × PassesRaw 1 f.spec front (drop size front))
    → PassesLaid P all others reader (passed + size)
one_more_passed P all fields others f reader passed size is so_far unasked takes =
    let at = moved_on reader passed in
    let next = moved_on reader (passed + size) in
    let all_bits = bits reader.octets in
    let stand : StandLaid (f ∷ others) at = subst (λ fs. StandLaid fs at) is so_far.there in
    let taken = takes (ends_of.left at) (first_there others f at stand) in
    let further : reader.place + (passed + size) ≡ reader.place + passed + size = omega arith in
    let behind : ends_of.left next ≡ drop size (ends_of.left at) =
    ap (λ k. drop k all_bits) further
    ∙ sym (drop-drop size (reader.place + passed) all_bits) in
    let h =
    first_handed fields others f at next taken.1.0 is so_far.there
    (taken.1.1 ∙ ap (λ bs. Ok (taken.1.0, bs)) (sym behind)) in
    record {
      within =
          omega (
            arith,
            so_far.within,
            taken.0,
            length-drop reader.place all_bits,
            length-drop (reader.place + passed) all_bits,
          );
      there = h.there;
      passed =
          one_passed P (fields_laid all reader) (fields_laid fields at) (fields_laid others next)
          so_far.passed (_, unasked, h.is);
    }

pub first_asked : (P : ℕ → Bool) (fields others : List CommonField) (f : CommonField)
    (reader : BitPlace) → fields ≡ f ∷ others → P f.fxy ≡ true
    → FirstIsAsked P (fields_laid fields reader)
unfolding fields_at laid_then
first_asked P fields others f reader is asked =
    subst (λ fs. FirstIsAsked P (fields_laid fs reader)) (sym is)
    (asked_from P 1 1 f.fxy f.spec (λ n rest. fields_at 1 2 (laid_course others) rest)
    (raw_at f.spec (ends_of.left reader)) asked)

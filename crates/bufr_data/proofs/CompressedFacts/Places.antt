-- The index keeps a place for each column along the course.
use Rattle.std.proofs.Common.{inl, inr, ◌≡◌, ℕ, zero, suc, ◌+◌, ◌*◌, ◌^◌, ◌<◌, ◌≤◌, Bool, true}
use Rattle.std.proofs.Common.{List, [], ◌∷◌, ◌++◌, length, map, drop, Option, Some, None, Result, Ok}
use Rattle.std.proofs.Common.{Err}
use Rattle.std.proofs.Common.{refl, sym, ap, subst, ◌∙◌, arith, append_assoc, length-append}
use Rattle.std.specs.Prelude.{IsOk, IfSome, nat_lt}
use Rattle.std.specs.List.{flat_map}
use Rattle.std.proofs.lemmas.List.{length-drop}
use Rattle.bufr_bits.specs.Bits.{bin, bits}
use Rattle.bufr_bits.specs.BitLaws.{length-bin}
use Rattle.bufr_base.specs.Answers.{◌>>=◌}
use Rattle.bufr_tables.specs.declared.element.Kind.TheVariants as kinds
use Rattle.bufr_tables.specs.Elements.{same_kind}
use Rattle.bufr_base.specs.AnswerLaws.{guard_ok}
use Rattle.bufr_expand.specs.declared.operators.Spec.{Spec}
use Rattle.bufr_expand.specs.declared.walk.Step.TheVariants as steps
use Rattle.bufr_expand.specs.declared.walk.Walk.{Walk}
use Rattle.bufr_expand.specs.declared.walk.WalkFault.{WalkFault}
use Rattle.bufr_expand.specs.Courses.{Course, asks}
use Rattle.bufr_expand.specs.Walks.{left, items_met, Goes, Counted, IsBelowCount}
use Rattle.bufr_fields.specs.declared.field.Raw.{Raw}
use Rattle.bufr_fields.specs.declared.field.Subset.{Subset}
use Rattle.bufr_fields.specs.declared.fault.DataFault.{DataFault}
use Rattle.bufr_fields.specs.declared.fault.DataFault.TheVariants as faults
use Rattle.bufr_data.specs.declared.compressed.head.ColumnHead.{ColumnHead}
use Rattle.bufr_data.specs.declared.compressed.index.ColumnStart.{ColumnStart}
use Rattle.bufr_data.specs.Plain.{raw_bits, stopped}
use Rattle.bufr_fields.specs.Steady.{IsReady}
use Rattle.bufr_data.specs.Compressed.{Column, subset_of, subsets_from, IsColumn, equal}
use Rattle.bufr_data.specs.Compressed.{numbers as number_column, texts as text_column}
use Rattle.bufr_data.specs.Compressed.Reading.{column_at, agreeing, count_of, ColumnsFound, within_limit}
use Rattle.bufr_data.specs.Compressed.Reading.{column_then, columns_at}
use Rattle.bufr_data.specs.Compressed.Passed.{PassesColumn, PassesFactor, agreed_at}
use Rattle.bufr_data.specs.Compressed.Indexed.{values_of, column_from, behind_columns, HasHead}
use Rattle.bufr_data.specs.Compressed.Indexed.{PassesPlace}
use Rattle.bufr_bits.specs.NumberLaws.{length-fields}
use Rattle.bufr_data.proofs.KindFacts.{kinds_differ}
use Rattle.bufr_data.proofs.ListFacts.{map_grown}
use Rattle.bufr_fields.specs.StepLaws.{Asks, GoesOn, field_goes, count_goes, asks_field, asks_count}
use Rattle.bufr_fields.specs.StepLaws.{ends_there, stops_there}
use Rattle.bufr_data.proofs.CompressedFacts.{column_found, column_again}
use Rattle.bufr_data.proofs.AnswerFacts.{guard_err}
use Rattle.bufr_data.proofs.CompressedFacts.Walks.{agreed_found, agreeing_again}
use Rattle.bufr_fields.specs.Limits.{most_values}

open_place : (octets : List ℕ) (n i bit : ℕ) (d : ℕ) (spec : Spec) (front : List Bool)
    (x : List Raw × List Bool) → column_at n i spec front ≡ Ok x → front ≡ drop bit (bits octets)
    → column_at n 1 spec (drop bit (bits octets)) ≡ Ok x
open_place octets n i bit d spec front x e is =
    let found = column_found n i spec front x e in
    ap (column_at n 1 spec) (sym is ∙ found.3)
    ∙ column_again n 1 spec x.0 found.0 x.1 found.1 found.2

column_bits : (spec : Spec) (values : List Raw) (column : List Bool) → IsColumn spec values column
    → 6 ≤ length column
column_bits spec values column (equal minimum form all is) =
    let size =
    ap length is ∙ length-append (raw_bits spec.width minimum) (bin 6 0) in
    omega (arith, size, length-bin 6 0)
column_bits spec values column (number_column minimum k xs form some few each is) =
    let size =
    ap length is ∙ length-append (bin spec.width minimum ++ bin 6 k) (flat_map (bin k) xs) in
    omega (arith, size, length-append (bin spec.width minimum) (bin 6 k), length-bin 6 k)
column_bits spec values column (text_column ignored k own form some few short each is) =
    let size = ap length is ∙ length-append (bits ignored ++ bin 6 k) (flat_map bits own) in
    omega (arith, size, length-append (bits ignored) (bin 6 k), length-bin 6 k)

place_inside : (octets : List ℕ) (n bit : ℕ) (spec : Spec) (x : List Raw × List Bool)
    → column_at n 1 spec (drop bit (bits octets)) ≡ Ok x → bit ≤ 8 * length octets
place_inside octets n bit spec x e =
    let found = column_found n 1 spec (drop bit (bits octets)) x e in
    let size = ap length found.3 ∙ length-append found.0 x.1 in
    omega (
      arith,
      size,
      column_bits spec x.0 found.0 found.2,
      length-drop bit
          (bits octets),
      length-fields 8 octets,
    )

within_is : {A : Type 0} (n i : ℕ) (r : Result A DataFault)
    → within_limit {A = Unit {0}} n i (Ok tt) ≡ Ok tt → within_limit n i r ≡ r
within_is n i r e = rw (guard_ok (nat_lt most_values (i * n)) _ _ tt e).0 refl

past_is : {A : Type 0} (n i : ℕ) (r : Result A DataFault) (fault : DataFault)
    → within_limit {A = Unit {0}} n i (Ok tt) ≡ Err fault → within_limit n i r ≡ Err fault
past_is n i r fault e =
    elim (guard_err (nat_lt most_values (i * n)) faults.TooLarge fault _ e) [
      | inl past ↦ rw past.0 (ap (λ f. Err f) past.1)
      | inr none ↦ let bad = none.1 in absurd cc
    ]

asked_at : (n i met d : ℕ) (spec : Spec) (more : ℕ → Course) (front : List Bool)
    → columns_at n i (asks met d spec more) front
    ≡ within_limit n i
    (agreed_at n i spec front
    >>= column_then d spec (λ count rest. columns_at n (i + 1) (more count) rest))
unfolding columns_at
asked_at n i met d spec more front = refl

pub stop_refused : (old new : Walk) (n i : ℕ) (front : List Bool) (why : WalkFault)
    (fault : DataFault) → Goes (left old) (Err why) new
    → within_limit {A = ColumnsFound} n i (stopped why) ≡ Err fault
    → columns_at n i (left old) front ≡ Err fault
unfolding columns_at
stop_refused old new n i front why fault g e =
    let s = stops_there (left old) why new g in ap (λ c. columns_at n i c front) s.1 ∙ e

pub end_passes : (old new : Walk) (n i : ℕ) (octets : List ℕ) (front : List Bool)
    → Goes (left old) (Ok steps.End) new
    → PassesPlace n i (left old) octets front None (left new) front
unfolding columns_at
end_passes old new n i octets front g =
    (items_met new, ap (λ c. columns_at n i c front) (ends_there (left old) new g))

pub step_past : (c : Course) (n i d : ℕ) (spec : Spec) (front : List Bool) (fault : DataFault)
    → Asks c d spec → within_limit {A = Unit {0}} n i (Ok tt) ≡ Err fault
    → columns_at n i c front ≡ Err fault
step_past c n i d spec front fault a e =
    ap (λ x. columns_at n i x front) a.is ∙ asked_at n i a.met d spec a.more front
    ∙ past_is n i _ fault e

pub step_refused : (c : Course) (n i d : ℕ) (spec : Spec) (front : List Bool) (fault : DataFault)
    → Asks c d spec → within_limit {A = Unit {0}} n i (Ok tt) ≡ Ok tt
    → agreed_at n i spec front ≡ Err fault → columns_at n i c front ≡ Err fault
step_refused c n i d spec front fault a room e =
    ap (λ x. columns_at n i x front) a.is ∙ asked_at n i a.met d spec a.more front
    ∙ within_is n i _ room
    ∙ ap (λ r. r >>= column_then d spec (λ count rest. columns_at n (i + 1) (a.more count) rest)) e

column_joined : (d : ℕ) (spec : Spec) (values : List Raw) (o : Result ColumnsFound DataFault)
    → (o >>= λ others. Ok (record others
    { columns = record { fxy = d; spec = spec; values = values } ∷ others.columns }))
    ≡ behind_columns (record { fxy = d; spec = spec; values = values } ∷ []) o
column_joined d spec values (Ok found) = refl
column_joined d spec values (Err e) = refl

one_agreed : (c later : Course) (octets : List ℕ) (n i d bit : ℕ) (spec : Spec)
    (head : Option ColumnHead) (front rest : List Bool) (values : List Raw)
    → IfSome head (HasHead octets bit spec) → GoesOn c d spec (count_of values) later
    → within_limit {A = Unit {0}} n i (Ok tt) ≡ Ok tt → agreed_at n i spec front ≡ Ok (values, rest)
    → front ≡ drop bit (bits octets)
    → PassesPlace n i c octets front (Some (record { fxy = d; spec = spec; bit = bit; head = head })) later rest
one_agreed c later octets n i d bit spec head front rest values known on room e is =
    let read = (agreed_found n i spec front (values, rest) e).0 in
    let there : column_at n 1 spec (drop bit (bits octets)) ≡ Ok (values, rest) =
    open_place octets n i bit d spec front (values, rest) read is in
    let place : ColumnStart = record { fxy = d; spec = spec; bit = bit; head = head } in
    let column : ◌≡◌ {A = Column} (record { fxy = d; spec = spec; values = values })
    (column_from octets n place) =
    λ t. record { fxy = d; spec = spec; values = values_of (sym there t) } in (
      (place_inside octets n bit spec (values, rest) there, subst IsOk (sym there) refl, known),
      ap (λ x. columns_at n i x front) on.is ∙ asked_at n i on.met d spec on.more front
          ∙ within_is n i _ room
          ∙ ap (λ r. r >>= column_then d spec
          (λ count rest. columns_at n (i + 1) (on.more count) rest)) e
          ∙ column_joined d spec values (columns_at n (i + 1) (on.more (count_of values)) rest)
          ∙ (λ t. behind_columns (column t ∷ []) (columns_at n (i + 1) (on.after t) rest)),
    )

pub field_passes : (old new : Walk) (octets : List ℕ) (n i d bit : ℕ) (spec : Spec)
    (head : Option ColumnHead) (front rest : List Bool) → IfSome head (HasHead octets bit spec)
    → IsReady old → Goes (left old) (Ok (steps.Field d spec)) new
    → within_limit {A = Unit {0}} n i (Ok tt) ≡ Ok tt → PassesColumn n i spec front rest
    → front ≡ drop bit (bits octets)
    → PassesPlace n i (left old) octets front
    (Some (record { fxy = d; spec = spec; bit = bit; head = head })) (left new) rest
field_passes old new octets n i d bit spec head front rest known ready g room passes is =
    let kind = (asks_field (left old) d spec new g).kind in
    let agree : agreed_at n i spec front ≡ Ok (passes.0, rest) =
    ap (λ r. r >>= agreeing i spec) passes.1
    ∙ agreeing_again i spec (passes.0, rest) (λ count. absurd (kinds_differ _ _ kind count)) in
    one_agreed (left old) (left new) octets n i d bit spec head front rest passes.0 known
    (field_goes old new d spec (count_of passes.0) ready g) room agree is

pub count_passes : (old mid new : Walk) (octets : List ℕ) (n i d bit number : ℕ) (spec : Spec)
    (head : Option ColumnHead) (front rest : List Bool) → IfSome head (HasHead octets bit spec)
    → Goes (left old) (Ok (steps.Count d spec)) mid
    → Counted (left mid) number new → within_limit {A = Unit {0}} n i (Ok tt) ≡ Ok tt
    → PassesFactor n i spec front number rest → front ≡ drop bit (bits octets)
    → PassesPlace n i (left old) octets front
    (Some (record { fxy = d; spec = spec; bit = bit; head = head })) (left new) rest
count_passes old mid new octets n i d bit number spec head front rest known g counted room passes is =
    let on = subst (λ k. GoesOn (left old) d spec k (left new)) (sym passes.2)
    (count_goes old mid new d spec number g counted) in
    one_agreed (left old) (left new) octets n i d bit spec head front rest passes.0 known on room
    passes.1 is

pub count_is_below : (old mid : Walk) (d : ℕ) (spec : Spec) (n : ℕ)
    → Goes (left old) (Ok (steps.Count d spec)) mid → n < 2 ^ spec.width → IsBelowCount (left mid) n
count_is_below old mid d spec n g below =
    let a =
    asks_count (left old) d spec mid g in
    subst (λ (x : Course). IsBelowCount x n) (sym a.waiting) below

pub is_count : (old mid : Walk) (d : ℕ) (spec : Spec)
    → Goes (left old) (Ok (steps.Count d spec)) mid → same_kind spec.kind kinds.Count ≡ true
is_count old mid d spec g = (asks_count (left old) d spec mid g).kind

pub behind_no_column : (o : Result ColumnsFound DataFault) → o ≡ behind_columns [] o
behind_no_column (Ok found) = refl
behind_no_column (Err e) = refl

behind_more : (cs : List Column) (c : Column) (o : Result ColumnsFound DataFault)
    → behind_columns cs (behind_columns (c ∷ []) o) ≡ behind_columns (cs ++ c ∷ []) o
behind_more cs c (Ok found) =
    ap (λ xs. Ok (record found { columns = xs })) (sym (append_assoc cs (c ∷ []) found.columns))
behind_more cs c (Err e) = refl

pub place_kept : (octets : List ℕ) (n i : ℕ) (ps grown : List ColumnStart) (p : ColumnStart)
    (whole : Result ColumnsFound DataFault) (c d : Course) (front rest : List Bool)
    → grown ≡ ps ++ p ∷ [] → i ≡ length ps + 1
    → whole ≡ behind_columns (map (column_from octets n) ps) (columns_at n (length ps + 1) c front)
    → PassesPlace n i c octets front (Some p) d rest
    → whole
    ≡ behind_columns (map (column_from octets n) grown) (columns_at n (length grown + 1) d rest)
place_kept octets n i ps grown p whole c d front rest is index so_far step =
    let len : length grown ≡ length ps + 1 = ap length is ∙ length-append ps (p ∷ []) in
    let next : i + 1 ≡ length grown + 1 = omega (arith, index, len) in
    so_far
    ∙ ap (λ m. behind_columns (map (column_from octets n) ps) (columns_at n m c front)) (sym index)
    ∙ ap (behind_columns (map (column_from octets n) ps)) step.1
    ∙ behind_more (map (column_from octets n) ps) (column_from octets n p)
    (columns_at n (i + 1) d rest)
    ∙ ap (λ cs. behind_columns cs (columns_at n (i + 1) d rest))
    (sym (map_grown (column_from octets n) ps grown p is))
    ∙ ap (λ m. behind_columns (map (column_from octets n) grown) (columns_at n m d rest)) next

from_suc : (k n : ℕ) (columns : List Column)
    → subsets_from k (suc n) columns ≡ subsets_from k n columns ++ subset_of columns (k + n) ∷ []
from_suc k zero columns =
    let same : k ≡ k + 0 = omega arith in ap (λ m. subset_of columns m ∷ []) same
from_suc k (suc n) columns =
    let same : k + 1 + n ≡ k + suc n = omega arith in
    ap (λ ss. subset_of columns k ∷ ss)
    (from_suc (k + 1) n columns
    ∙ ap (λ m. subsets_from (k + 1) n columns ++ subset_of columns m ∷ []) same)

pub one_subset_more : (i j : ℕ) (columns : List Column) (subsets grown : List Subset) (s : Subset)
    → grown ≡ subsets ++ s ∷ [] → subsets ≡ subsets_from 0 i columns → s ≡ subset_of columns j
    → j ≡ i → grown ≡ subsets_from 0 (i + 1) columns
one_subset_more i j columns subsets grown s is so_far one same =
    let next : suc i ≡ i + 1 = omega arith in
    let here : 0 + i ≡ i = omega arith in
    is ∙ (λ t. so_far t ++ (one ∙ ap (subset_of columns) same) t ∷ [])
    ∙ ap (λ m. subsets_from 0 i columns ++ subset_of columns m ∷ []) (sym here)
    ∙ sym (from_suc 0 i columns) ∙ ap (λ m. subsets_from 0 m columns) next

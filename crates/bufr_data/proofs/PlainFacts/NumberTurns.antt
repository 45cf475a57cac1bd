-- Turns of numbers, apart from the fields before and after them.
use Rattle.std.proofs.Common.{◌≡◌, ℕ, zero, suc, ◌+◌, ◌-◌, ◌*◌, ◌==◌, ◌≤◌, Bool, true, false, List, []}
use Rattle.std.proofs.Common.{◌∷◌, ◌++◌, Some, Ok, length, take, drop, not, refl, sym, ap, subst, ◌∙◌}
use Rattle.std.proofs.Common.{arith, append_assoc, append-nil, suc-mul, zero-mul}
use Rattle.std.proofs.lemmas.List.{drop_all, take_all, length-drop, take-append-drop}
use Rattle.bufr_bits.specs.BitLaws.{some_is}
use Rattle.bufr_bits.specs.Bits.{number, number_at}
use Rattle.bufr_bits.specs.Ends as ends_of
use Rattle.bufr_bits.specs.Ends.{BitPlace}
use Rattle.bufr_tables.specs.declared.element.Kind.TheVariants as kinds
use Rattle.bufr_expand.specs.declared.even_turns.CommonField.{CommonField}
use Rattle.bufr_expand.specs.Courses.{Course}
use Rattle.bufr_expand.specs.EvenTurns.{repeated}
use Rattle.bufr_fields.specs.declared.field.Field.{Field}
use Rattle.bufr_fields.specs.declared.field.Raw.TheVariants.{Number}
use Rattle.bufr_data.specs.declared.plain.number_turns.Opening.{Opening}
use Rattle.bufr_data.specs.Handed.{NoneAsked, StandThen, fields_then, moved_on}
use Rattle.bufr_data.specs.Plain.{raw_at}
use Rattle.bufr_data.specs.Plain.LaidTurns.{none_among}
use Rattle.bufr_data.specs.Plain.NumberTurns.{AreNumbers, IsNumber, IsOpening, NoneIs}
use Rattle.bufr_data.specs.Plain.NumberTurns.{numbers_in, turned, turns_in, widths}
use Rattle.bufr_data.specs.Plain.Reads.{raw_or_ends}
use Rattle.bufr_data.specs.Turns.{BeginsWith, OpensTurns, TakesTurns, TurnsLeft, all_numbered, numbered}
use Rattle.bufr_data.proofs.KindFacts.{other_kind}
use Rattle.bufr_data.proofs.ListFacts.{all_joined}
use Rattle.bufr_data.proofs.PlainFacts.LaidTurns.{rest_of}
use Rattle.bufr_data.proofs.PlainFacts.Layouts.{first_then, left_moved, there_then, unmoved}
use Rattle.bufr_data.proofs.PlainFacts.Passed.{number_found, number_has_bits, number_taken}
use Rattle.bufr_data.proofs.PlainFacts.UnaskedTurns.{both_true, not_true}

pub moved_twice : (reader : BitPlace) (a b : ℕ)
    → moved_on (moved_on reader a) b ≡ moved_on reader (a + b)
moved_twice reader a b =
    ap (λ (k : ℕ). record { octets = reader.octets; place = k }) (omega arith)

-- ---- fields that are numbers, and those after them

pub record Split (later : Course) (fs gs : List CommonField) (reader : BitPlace) : Type 0 where
  pub within : widths fs ≤ length (ends_of.left reader)
  pub ahead : StandThen later gs (moved_on reader (widths fs))
  pub are : fields_then later (fs ++ gs) reader
      ≡
      numbered fs (numbers_in fs (ends_of.left reader))
      ++ fields_then later gs (moved_on reader (widths fs))

pub split : (later : Course) (fs gs : List CommonField) (reader : BitPlace) → AreNumbers fs
    → StandThen later (fs ++ gs) reader → Split later fs gs reader
split later [] gs reader are stand = record {
  within = omega arith;
  ahead = subst (StandThen later gs) (sym (unmoved reader)) stand;
  are = ap (fields_then later gs) (sym (unmoved reader));
}
split later (f ∷ fs) gs reader are stand =
    let front = ends_of.left reader in
    let width = f.spec.width in
    let next = moved_on reader width in
    let n = number (take width front) in
    let field : Field = record { fxy = f.fxy; spec = f.spec; raw = Number n } in
    let behind = left_moved reader width in
    let there = there_then later (f ∷ fs ++ gs) (fs ++ gs) f reader refl stand in
    let has = number_has_bits f.spec front are.0.0 there in
    let read : raw_or_ends 1 1 (raw_at f.spec front) ≡ Ok (Number n, ends_of.left next) =
    number_taken 1 f.spec front (ends_of.left next) n (other_kind f.spec.kind kinds.Text are.0.0)
    has.narrow (number_found width front has.enough ∙ ap (λ bs. Some (n, bs)) (sym behind)) in
    let h = first_then later (f ∷ fs ++ gs) (fs ++ gs) f reader next (Number n) refl stand read in
    let s = split later fs gs next are.1 h.there in
    let moved = moved_twice reader width (widths fs) in
    record {
      within =
          omega (arith, has.enough, s.within, ap length behind, length-drop width front);
      ahead = subst (StandThen later gs) moved s.ahead;
      are = h.is
          ∙ ap (λ xs. field ∷ xs) s.are
          ∙ ap (λ bs. field ∷ numbered fs (numbers_in fs bs)
          ++ fields_then later gs (moved_on next (widths fs))) behind
          ∙ ap (λ r. field ∷ numbered fs (numbers_in fs (drop width front))
          ++ fields_then later gs r) moved;
    }

-- ---- turns that are numbers, and the fields after them

pub record SplitTurns (later : Course) (n : ℕ) (turn gs : List CommonField) (reader : BitPlace)
    : Type 0 where
  pub within : n * widths turn ≤ length (ends_of.left reader)
  pub ahead : StandThen later gs (moved_on reader (n * widths turn))
  pub are : fields_then later (repeated n turn ++ gs) reader
      ≡
      all_numbered turn (turns_in n turn (ends_of.left reader))
      ++ fields_then later gs (moved_on reader (n * widths turn))

pub split_turns : (later : Course) (n : ℕ) (turn gs : List CommonField) (reader : BitPlace)
    → AreNumbers turn → StandThen later (repeated n turn ++ gs) reader
    → SplitTurns later n turn gs reader
unfolding repeated
split_turns later zero turn gs reader are stand =
    let none : 0 * widths turn ≡ 0 = zero-mul (widths turn) in
    let same : reader ≡ moved_on reader (0 * widths turn) =
    sym (ap (moved_on reader) none ∙ unmoved reader) in
    record {
      within = omega (arith, none);
      ahead = subst (StandThen later gs) same stand;
      are = ap (fields_then later gs) same;
    }
split_turns later (suc n) turn gs reader are stand =
    let front = ends_of.left reader in
    let size = widths turn in
    let next = moved_on reader size in
    let first = numbered turn (numbers_in turn front) in
    let behind = left_moved reader size in
    let apart = append_assoc turn (repeated n turn) gs in
    let one = split later turn (repeated n turn ++ gs) reader are
    (subst (λ fs. StandThen later fs reader) apart stand) in
    let more = split_turns later n turn gs next are one.ahead in
    let sum : size + n * size ≡ suc n * size = omega (arith, suc-mul n size) in
    let moved : moved_on next (n * size) ≡ moved_on reader (suc n * size) =
    moved_twice reader size (n * size) ∙ ap (moved_on reader) sum in
    record {
      within =
          omega (arith, one.within, more.within, ap length behind, length-drop size front, sum);
      ahead = subst (StandThen later gs) moved more.ahead;
      are = ap (λ fs. fields_then later fs reader) apart
          ∙ one.are
          ∙ ap (λ xs. first ++ xs) more.are
          ∙ sym (append_assoc first (all_numbered turn (turns_in n turn (ends_of.left next)))
          (fields_then later gs (moved_on next (n * size))))
          ∙ ap (λ bs. (first ++ all_numbered turn (turns_in n turn bs))
          ++ fields_then later gs (moved_on next (n * size))) behind
          ∙ ap (λ r. (first ++ all_numbered turn (turns_in n turn (drop size front)))
          ++ fields_then later gs r) moved;
    }

-- ---- turns from another field on

-- what comes before the first opener, the turns from it on, and the rest of the last turn
turned_round : (a b : List CommonField) (n : ℕ)
    → repeated (suc n) (a ++ b) ≡ a ++ (repeated n (b ++ a) ++ b)
unfolding repeated
turned_round a b zero = append-nil (a ++ b)
turned_round a b (suc n) =
    let others = repeated n (b ++ a) in
    ap (λ fs. (a ++ b) ++ fs) (turned_round a b n)
    ∙ append_assoc a b (a ++ (others ++ b))
    ∙ ap (λ fs. a ++ fs)
    (sym (append_assoc b a (others ++ b)) ∙ sym (append_assoc (b ++ a) others b))

rest_alone : (turn : List CommonField) (place : ℕ) → rest_of turn place 0 ≡ drop place turn
unfolding repeated
rest_alone turn place = append-nil (drop place turn)

turned_fields : (turn : List CommonField) (next turns place : ℕ) → length turn ≤ next → 2 ≤ turns
    → rest_of turn next turns
    ≡ take place turn ++ (repeated (turns - 1) (turned place turn) ++ rest_of turn place 0)
turned_fields turn next turns place none some =
    let one_more : turns ≡ suc (turns - 1) = omega (arith, some) in
    let whole : turn ≡ take place turn ++ drop place turn = sym (take-append-drop place turn) in
    ap (λ fs. fs ++ repeated turns turn) (drop_all next turn none)
    ∙ ap (λ k. repeated k turn) one_more
    ∙ ap (λ fs. repeated (suc (turns - 1)) fs) whole
    ∙ turned_round (take place turn) (drop place turn) (turns - 1)
    ∙ ap (λ fs. take place turn ++ (repeated (turns - 1) (turned place turn) ++ fs))
    (sym (rest_alone turn place))

widths_joined : (xs ys : List CommonField) → widths (xs ++ ys) ≡ widths xs + widths ys
widths_joined [] ys = omega arith
widths_joined (f ∷ xs) ys = omega (arith, widths_joined xs ys)

none_numbered : (P : ℕ → Bool) (fields : List CommonField) (numbers : List ℕ)
    → none_among P fields ≡ true → NoneAsked P (numbered fields numbers)
none_numbered P [] numbers none = tt
none_numbered P (f ∷ fields) [] none = tt
none_numbered P (f ∷ fields) (n ∷ numbers) none =
    let both = both_true (not (P f.fxy)) (none_among P fields) none in
    (not_true (P f.fxy) both.0, none_numbered P fields numbers both.1)

begins : (later : Course) (d : ℕ) (fields gs : List CommonField) (reader : BitPlace)
    → OpensTurns d fields → AreNumbers fields → StandThen later (fields ++ gs) reader
    → BeginsWith d (fields_then later (fields ++ gs) reader)
begins later d fields gs reader (f, others, at, is, none) are stand =
    let here : AreNumbers (f ∷ others) = subst AreNumbers is are in
    let s = split later (f ∷ []) (others ++ gs) reader (here.0, tt)
    (subst (λ fs. StandThen later (fs ++ gs) reader) is stand) in (
      _,
      _,
      at,
      ap (λ fs. fields_then later (fs ++ gs) reader) is ∙ s.are,
    )

opens_turned : (d : ℕ) (fields before : List CommonField) → OpensTurns d fields → NoneIs d before
    → OpensTurns d (fields ++ before)
opens_turned d fields before (f, others, at, is, none) none_before = (
  f,
  others ++ before,
  at,
  ap (λ fs. fs ++ before) is,
  all_joined (λ g. (g.fxy == d) ≡ false) others before none none_before,
)

-- turns are taken from their openers on
pub record Taken (asks : ℕ → Bool) (d : ℕ) (later : Course) (turn : List CommonField)
    (next turns : ℕ) (opening : Opening) (reader : BitPlace) : Type 0 where
  pub gap : opening.gap ≤ length (ends_of.left reader)
  pub bits : opening.bits ≤ length (ends_of.left (moved_on reader opening.gap))
  pub numbers : AreNumbers (turned opening.place turn)
  pub enough : (turns - 1) * widths (turned opening.place turn)
      ≤ length (ends_of.left (moved_on reader opening.gap))
  pub ahead : StandThen later (rest_of turn opening.place 0)
      (moved_on (moved_on reader opening.gap) opening.bits)
  pub takes : TakesTurns asks d (fields_then later (rest_of turn next turns) reader)
      (record {
        fields = turned opening.place turn;
        turns = turns_in (turns - 1) (turned opening.place turn)
            (ends_of.left (moved_on reader opening.gap));
      })
      (fields_then later (rest_of turn opening.place 0)
      (moved_on (moved_on reader opening.gap) opening.bits))

pub turns_taken : (asks : ℕ → Bool) (d : ℕ) (later : Course) (turn : List CommonField)
    (next turns : ℕ) (opening : Opening) (reader : BitPlace) → length turn ≤ next → 2 ≤ turns
    → IsOpening asks d turn (turns - 1) opening → StandThen later (rest_of turn next turns) reader
    → Taken asks d later turn next turns opening reader
turns_taken asks d later turn next turns opening reader none some is stand =
    let place = opening.place in
    let before = take place turn in
    let new = turned place turn in
    let n = turns - 1 in
    let rest = rest_of turn place 0 in
    let same = turned_fields turn next turns place none some in
    let numbers : AreNumbers new =
    all_joined (λ (f : CommonField). IsNumber f.spec) (drop place turn) before is.numbers is.before in
    let one = split later before (repeated n new ++ rest) reader is.before
    (subst (λ fs. StandThen later fs reader) same stand) in
    let at = moved_on reader (widths before) in
    let more = split_turns later n new rest at numbers one.ahead in
    let end = moved_on at (n * widths new) in
    let here : moved_on reader opening.gap ≡ at = ap (moved_on reader) is.gap in
    let bits : opening.bits ≡ n * widths new =
    is.bits ∙ ap (λ k. n * k) (sym (widths_joined (drop place turn) before)) in
    let there : moved_on (moved_on reader opening.gap) opening.bits ≡ end =
    ap (λ r. moved_on r opening.bits) here ∙ ap (moved_on at) bits in
    let passed = numbered before (numbers_in before (ends_of.left reader)) in
    let ahead = subst (StandThen later rest) (sym there) more.ahead in
    record {
      gap = omega (arith, is.gap, one.within);
      bits = omega (arith, bits, more.within, ap (λ r. length (ends_of.left r)) here);
      numbers = numbers;
      enough = omega (arith, more.within, ap (λ r. length (ends_of.left r)) here);
      ahead = ahead;
      takes = (
        passed,
        none_numbered asks before (numbers_in before (ends_of.left reader)) is.none,
        ap (λ fs. fields_then later fs reader) same
            ∙ one.are
            ∙ ap (λ xs. passed ++ xs) more.are
            ∙ ap (λ r. passed ++ (all_numbered new (turns_in n new (ends_of.left r))
            ++ fields_then later rest end)) (sym here)
            ∙ ap (λ r. passed ++ (all_numbered new
            (turns_in n new (ends_of.left (moved_on reader opening.gap)))
            ++ fields_then later rest r)) (sym there),
        opens_turned d (drop place turn) before is.opens is.others,
        begins later d (drop place turn) (repeated 0 turn)
            (moved_on (moved_on reader opening.gap) opening.bits) is.opens is.numbers ahead,
      );
    }

-- ---- the numbers of a turn, one after another

pub number_is : (width n : ℕ) (front rest : List Bool) → width ≤ length front
    → number_at width front ≡ Some (n, rest) → n ≡ number (take width front)
number_is width n front rest enough found =
    ap (λ (x : ℕ × List Bool). x.0) (some_is _ _ (sym found ∙ number_found width front enough))

pub record ReadTo (fields : List CommonField) (first : BitPlace) (i : ℕ) (numbers : List ℕ)
    (reader : BitPlace) : Type 0 where
  pub read : numbers_in fields (ends_of.left first)
      ≡ take i numbers ++ numbers_in (drop i fields) (ends_of.left reader)
  pub moved : moved_on first (widths fields) ≡ moved_on reader (widths (drop i fields))
  pub enough : widths (drop i fields) ≤ length (ends_of.left reader)

pub one_read : (fields : List CommonField) (f : CommonField) (first reader next : BitPlace)
    (i n : ℕ) (numbers grown : List ℕ) → drop i fields ≡ f ∷ drop (i + 1) fields
    → n ≡ number (take f.spec.width (ends_of.left reader))
    → next ≡ moved_on reader f.spec.width → take (i + 1) grown ≡ take i numbers ++ n ∷ []
    → ReadTo fields first i numbers reader → ReadTo fields first (i + 1) grown next
one_read fields f first reader next i n numbers grown is number_read moved more so_far =
    let width = f.spec.width in
    let rest = drop (i + 1) fields in
    let front = ends_of.left reader in
    let at = moved_on reader width in
    let behind = left_moved reader width in
    subst (ReadTo fields first (i + 1) grown) (sym moved) (record {
      read = so_far.read
          ∙ ap (λ fs. take i numbers ++ numbers_in fs front) is
          ∙ ap (λ k. take i numbers ++ k ∷ numbers_in rest (drop width front)) (sym number_read)
          ∙ ap (λ bs. take i numbers ++ n ∷ numbers_in rest bs) (sym behind)
          ∙ sym (append_assoc (take i numbers) (n ∷ []) (numbers_in rest (ends_of.left at)))
          ∙ ap (λ ns. ns ++ numbers_in rest (ends_of.left at)) (sym more);
      moved = so_far.moved ∙ ap (λ fs. moved_on reader (widths fs)) is
          ∙ sym (moved_twice reader width (widths rest));
      enough =
          omega (arith, so_far.enough, ap widths is, ap length behind, length-drop width front);
    })

pub all_read : (fields : List CommonField) (first reader : BitPlace) (i : ℕ) (numbers : List ℕ)
    → length fields ≤ i → length numbers ≤ i → ReadTo fields first i numbers reader
    → (numbers ≡ numbers_in fields (ends_of.left first))
    × (reader ≡ moved_on first (widths fields))
all_read fields first reader i numbers none none_more so_far =
    let end = drop_all i fields none in (
      sym (so_far.read
          ∙ ap (λ fs. take i numbers ++ numbers_in fs (ends_of.left reader)) end
          ∙ append-nil (take i numbers) ∙ take_all i numbers none_more),
      sym (so_far.moved ∙ ap (λ fs. moved_on reader (widths fs)) end ∙ unmoved reader),
    )

pub record NextTurn (n : ℕ) (fields : List CommonField) (reader : BitPlace) : Type 0 where
  pub enough : widths fields ≤ length (ends_of.left reader)
  pub more : (n - 1) * widths fields
      ≤ length (ends_of.left (moved_on reader (widths fields)))
  pub are : turns_in n fields (ends_of.left reader)
      ≡ numbers_in fields (ends_of.left reader)
      ∷ turns_in (n - 1) fields (ends_of.left (moved_on reader (widths fields)))

pub next_turn : (n : ℕ) (fields : List CommonField) (reader : BitPlace) → (n ≡ 0 → ⊥)
    → n * widths fields ≤ length (ends_of.left reader) → NextTurn n fields reader
next_turn zero fields reader some enough = absurd (some refl)
next_turn (suc n) fields reader some enough =
    let size = widths fields in
    let front = ends_of.left reader in
    let behind = left_moved reader size in
    let less : suc n - 1 ≡ n = omega arith in
    let product : suc n * size ≡ n * size + size = suc-mul n size in
    let same : (suc n - 1) * size ≡ n * size = ap (λ k. k * size) less in
    record {
      enough = omega (arith, enough, product);
      more =
          omega (arith, enough, product, same, ap length behind, length-drop size front);
      are = ap (λ bs. numbers_in fields front ∷ turns_in n fields bs) (sym behind)
          ∙ ap (λ k. numbers_in fields front
          ∷ turns_in k fields (ends_of.left (moved_on reader size))) (sym less);
    }

pub no_turns : (n : ℕ) (fields : List CommonField) (front : List Bool) → n ≡ 0
    → turns_in n fields front ≡ []
no_turns n fields front none = ap (λ k. turns_in k fields front) none

-- turns that were made of a copied turn, from the reader of its first opener on
pub made_turns : (n place gap : ℕ) (fields slice turn : List CommonField) (first start reader : BitPlace)
    (made : TurnsLeft) → fields ≡ turned place slice → slice ≡ turn → first ≡ moved_on start gap
    → start ≡ reader
    → made ≡ record { fields = fields; turns = turns_in n fields (ends_of.left first) }
    → made ≡ record {
      fields = turned place turn;
      turns = turns_in n (turned place turn) (ends_of.left (moved_on reader gap));
    }
made_turns n place gap fields slice turn first start reader made copied same moved begun is =
    let F : List CommonField → BitPlace → TurnsLeft =
    λ fs r. record { fields = fs; turns = turns_in n fs (ends_of.left r) } in
    is
    ∙ ap (λ fs. F fs first) (copied ∙ ap (turned place) same)
    ∙ ap (λ r. F (turned place turn) r) (moved ∙ ap (λ r. moved_on r gap) begun)

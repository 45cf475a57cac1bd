-- The chosen fields of a layout at their places.
use Rattle.std.proofs.Common.{◌≡◌, ℕ, ◌==◌, ◌+◌, ◌*◌, ◌/◌, ◌≤◌, Bool, true, false, cond, List, [], ◌∷◌, ◌++◌}
use Rattle.std.proofs.Common.{Option, Some, None, Result, Ok, Err, map, length, drop, refl, sym, ap}
use Rattle.std.proofs.Common.{subst, ◌∙◌}
use Rattle.std.proofs.Common.{append_assoc, append-nil, arith}
use Rattle.std.proofs.Math.Dec.{eqb-suc-zero}
use Rattle.std.specs.Prelude.{IsOk, nat_le, nat_lt}
use Rattle.std.proofs.lemmas.Bool.{le-leb, ltb-true, ltb-false}
use Rattle.std.proofs.lemmas.List.{drop-drop, length-drop}
use Rattle.bufr_base.specs.AnswerLaws.{ok_is}
use Rattle.bufr_bits.specs.Bits.{bits}
use Rattle.bufr_tables.specs.declared.element.Kind.{Kind}
use Rattle.bufr_tables.specs.declared.element.Kind.TheVariants as kinds
use Rattle.bufr_expand.specs.declared.operators.Spec.{Spec}
use Rattle.bufr_expand.specs.Asked.{TellsNone}
use Rattle.bufr_expand.specs.Courses.{Course, course}
use Rattle.bufr_expand.specs.Steady.{course_steady}
use Rattle.bufr_expand.specs.Trees.{Tree}
use Rattle.bufr_expand.specs.Unrolling.{After}
use Rattle.bufr_expand.specs.Limits.{most_items}
use Rattle.bufr_fields.specs.declared.field.Raw.{Raw}
use Rattle.bufr_fields.specs.declared.field.Field.{Field}
use Rattle.bufr_fields.specs.declared.fault.DataFault.{DataFault}
use Rattle.bufr_fields.specs.CourseLaws.{AreUnrolled, AreAllowed}
use Rattle.bufr_data.specs.declared.plain.index.SubsetStart.{SubsetStart}
use Rattle.bufr_expand.specs.declared.even_turns.CommonField.{CommonField}
use Rattle.bufr_data.specs.declared.plain.layout.Layout.{Layout}
use Rattle.bufr_data.specs.declared.plain.places.ChosenPlace.{ChosenPlace}
use Rattle.bufr_data.specs.Chosen.{is_listed, chosen, field_size_by, field_size, placed_from}
use Rattle.bufr_data.specs.Chosen.{placed, placed_then, fields_placed, HoldPlaced}
use Rattle.bufr_data.specs.Handed.{NoneAsked}
use Rattle.bufr_data.specs.Short.{greatest_short}
use Rattle.bufr_data.specs.Plain.{SubsetRead, raw_at, field_then, fields_at}
use Rattle.bufr_data.specs.Plain.Layouts.{laid_then, IsLaid}
use Rattle.bufr_expand.specs.EvenTurns.{told, HaveNoCount}
use Rattle.bufr_data.specs.Plain.Reads.{raw_or_ends}
use Rattle.bufr_data.specs.Plain.Starts.{PassesRaw, fields_of, subset_at, BeginsAtStart}
use Rattle.bufr_data.proofs.PlainFacts.Alike.{text_takes}
use Rattle.bufr_data.proofs.AskedFacts.{none_read}
use Rattle.bufr_data.proofs.FitFacts.{read_stands, standing_read}
use Rattle.bufr_data.proofs.PlainFacts.Layouts.{with_front, read_as_laid}
use Rattle.bufr_data.proofs.PlainFacts.Passed.{number_has_bits, number_passes}
use Rattle.bufr_data.proofs.PlainFacts.Reads.{found_is}

-- ---- the bits of a field

pub text_size : (kind : Kind) (width : ℕ) → kind ≡ kinds.Text
    → field_size_by kind width ≡ 8 * (width / 8)
text_size kind width is = ap (λ k. field_size_by k width) is

pub number_size : (kind : Kind) (width : ℕ) → (kind ≡ kinds.Text → ⊥) → nat_le width 64 ≡ true
    → field_size_by kind width ≡ width
number_size kinds.Text width other few = absurd (other refl)
number_size kinds.Code width other few = rw few refl
number_size kinds.Flag width other few = rw few refl
number_size kinds.Quantity width other few = rw few refl
number_size kinds.Count width other few = rw few refl

pub wide_size : (kind : Kind) (width : ℕ) → (kind ≡ kinds.Text → ⊥) → nat_le width 64 ≡ false
    → field_size_by kind width ≡ 0
wide_size kinds.Text width other wide = absurd (other refl)
wide_size kinds.Code width other wide = rw wide refl
wide_size kinds.Flag width other wide = rw wide refl
wide_size kinds.Quantity width other wide = rw wide refl
wide_size kinds.Count width other wide = rw wide refl

-- a value that is there takes the bits of its field
abbrev Takes : Spec → List Bool → Type 0
Takes spec front =
    (field_size spec ≤ length front) × PassesRaw 1 spec front (drop (field_size spec) front)

number_takes : (spec : Spec) (front : List Bool) → (spec.kind ≡ kinds.Text → ⊥)
    → IsOk (raw_or_ends 1 1 (raw_at spec front)) → Takes spec front
number_takes spec front other ok =
    let has = number_has_bits spec front other ok in
    let size : field_size spec ≡ spec.width =
    number_size spec.kind spec.width other (le-leb spec.width 64 has.narrow) in
    let enough : field_size spec ≤ length front = omega (arith, size, has.enough) in (
      enough,
      number_passes 1 spec front (drop (field_size spec) front) (field_size spec) other has.narrow
          size enough refl,
    )

text_there : (short : Bool) (spec : Spec) (front : List Bool) → spec.kind ≡ kinds.Text
    → nat_lt (length front) (field_size spec) ≡ short
    → IsOk (raw_or_ends 1 1 (raw_at spec front)) → Takes spec front
text_there true spec front is less ok =
    let takes =
    text_takes spec (field_size spec) (spec.width / 8) is (text_size spec.kind spec.width is) refl in
    let none = subst IsOk (takes.short 1 front (ltb-true _ _ less)) ok in absurd cc
text_there false spec front is less ok =
    let takes =
    text_takes spec (field_size spec) (spec.width / 8) is (text_size spec.kind spec.width is) refl in
    let enough : field_size spec ≤ length front = ltb-false _ _ less in
    (enough, takes.there 1 front enough)

takes_by : (kind : Kind) (spec : Spec) (front : List Bool) → spec.kind ≡ kind
    → IsOk (raw_or_ends 1 1 (raw_at spec front)) → Takes spec front
takes_by kinds.Text spec front is ok = text_there _ spec front is refl ok
takes_by kinds.Code spec front is ok =
    number_takes spec front (λ text. absurd (let same = sym is ∙ text in cc)) ok
takes_by kinds.Flag spec front is ok =
    number_takes spec front (λ text. absurd (let same = sym is ∙ text in cc)) ok
takes_by kinds.Quantity spec front is ok =
    number_takes spec front (λ text. absurd (let same = sym is ∙ text in cc)) ok
takes_by kinds.Count spec front is ok =
    number_takes spec front (λ text. absurd (let same = sym is ∙ text in cc)) ok

-- the bits after a value
pub size_taken : (spec : Spec) (front : List Bool) (x : Raw × List Bool) → raw_at spec front ≡ Some x
    → (field_size spec ≤ length front) × (x.1 ≡ drop (field_size spec) front)
size_taken spec front x read =
    let there = ap (raw_or_ends 1 1) read in
    let takes = takes_by spec.kind spec front refl (subst IsOk (sym there) refl) in
    (takes.0, ap (λ (y : Raw × List Bool). y.1) (ok_is _ _ (sym there ∙ takes.1.1)))

-- ---- the places of a layout

-- the fields of a subset that are chosen are those at the places
pub record ArePlaced (list : List ℕ) (places : List ChosenPlace) (front : List Bool)
    (whole : Result SubsetRead DataFault) : Type 0 where
  pub holds : HoldPlaced places front
  pub are : fields_placed places front ≡ chosen list (fields_of whole)

listed_placed : (list : List ℕ) (gap : ℕ) (f : CommonField) (others : List ChosenPlace)
    (front : List Bool) (x : Raw × List Bool) (r : Result SubsetRead DataFault)
    → is_listed list f.fxy ≡ true → gap ≤ length front → raw_at f.spec (drop gap front) ≡ Some x
    → IsOk (with_front (record { fxy = f.fxy; spec = f.spec; raw = x.0 }) r)
    → (IsOk r → ArePlaced list others x.1 r)
    → ArePlaced list (placed gap f ∷ others) front
    (with_front (record { fxy = f.fxy; spec = f.spec; raw = x.0 }) r)
listed_placed list gap f others front x (Ok found) listed within read ok after =
    let h = after refl in
    let field : Field = record { fxy = f.fxy; spec = f.spec; raw = x.0 } in
    record {
      holds = (within, x, read, h.holds, refl);
      are = ap (placed_then f (fields_placed others)) read ∙ ap (λ fs. field ∷ fs) h.are
          ∙ sym (ap (λ b. cond b (field ∷ chosen list found.fields) (chosen list found.fields)) listed);
    }
listed_placed list gap f others front x (Err e) listed within read ok after = absurd cc

unlisted_placed : (list : List ℕ) (places : List ChosenPlace) (front : List Bool) (f : Field)
    (r : Result SubsetRead DataFault) → is_listed list f.fxy ≡ false → IsOk (with_front f r)
    → (IsOk r → ArePlaced list places front r) → ArePlaced list places front (with_front f r)
unlisted_placed list places front f (Ok found) listed ok after =
    let h = after refl in
    record {
      holds = h.holds;
      are = h.are
          ∙ sym (ap (λ b. cond b (f ∷ chosen list found.fields) (chosen list found.fields)) listed);
    }
unlisted_placed list places front f (Err e) listed ok after = absurd cc

-- what is read after a field of a layout
abbrev Later : List CommonField → Course → ℕ → List Bool → Result SubsetRead DataFault
Later fields c i front = fields_at 1 (i + 1) (laid_then fields c) front

field_placed : (listed : Bool) (list : List ℕ) (gap : ℕ) (f : CommonField) (fields : List CommonField)
    (c : Course) (i : ℕ) (front : List Bool) (o : Option (Raw × List Bool))
    → is_listed list f.fxy ≡ listed
    → raw_at f.spec (drop gap front) ≡ o → gap ≤ length front
    → IsOk (field_then 1 i f.fxy f.spec (λ n rest. Later fields c i rest) o)
    → ((g : ℕ) (bs : List Bool) → g ≤ length bs → IsOk (Later fields c i (drop g bs))
    → ArePlaced list (placed_from list g fields) bs (Later fields c i (drop g bs)))
    → ArePlaced list
    (cond listed (placed gap f ∷ placed_from list 0 fields)
    (placed_from list (gap + field_size f.spec) fields)) front
    (field_then 1 i f.fxy f.spec (λ n rest. Later fields c i rest) o)
field_placed listed list gap f fields c i front None is read within ok after = absurd cc
field_placed true list gap f fields c i front (Some x) is read within ok after =
    listed_placed list gap f (placed_from list 0 fields) front x (Later fields c i x.1) is within
    read ok (λ there. after 0 x.1 (omega arith) there)
field_placed false list gap f fields c i front (Some x) is read within ok after =
    let taken = size_taken f.spec (drop gap front) x read in
    let more = gap + field_size f.spec in
    let behind : drop more front ≡ x.1 = sym (taken.1 ∙ drop-drop (field_size f.spec) gap front) in
    unlisted_placed list (placed_from list more fields) front
    (record { fxy = f.fxy; spec = f.spec; raw = x.0 }) (Later fields c i x.1) is ok
    (λ there.
    subst (λ bs. ArePlaced list (placed_from list more fields) front (Later fields c i bs)) behind
    (after more front (omega (arith, within, taken.0, length-drop gap front))
    (subst (λ bs. IsOk (Later fields c i bs)) (sym behind) there)))

none_chosen : (list : List ℕ) (fields : List Field) → NoneAsked (is_listed list) fields
    → chosen list fields ≡ []
none_chosen list [] none = refl
none_chosen list (f ∷ fields) none =
    ap (λ b. cond b (f ∷ chosen list fields) (chosen list fields)) none.0
    ∙ none_chosen list fields none.1

-- the course after the fields has none of the chosen ones
places_hold : (list : List ℕ) (gap : ℕ) (fields : List CommonField) (c : Course) (i : ℕ)
    (front : List Bool) → TellsNone (is_listed list) c → gap ≤ length front
    → IsOk (fields_at 1 i (laid_then fields c) (drop gap front))
    → ArePlaced list (placed_from list gap fields) front
    (fields_at 1 i (laid_then fields c) (drop gap front))
unfolding fields_at laid_then
places_hold list gap [] c i front none within ok = record {
  holds = tt;
  are = sym (none_chosen list (fields_of (fields_at 1 i c (drop gap front)))
      (none_read (is_listed list) 1 i c (drop gap front) none));
}
places_hold list gap (f ∷ fields) c i front none within ok =
    field_placed _ list gap f fields c i front _ refl refl within ok
    (λ g bs short there. places_hold list g fields c (i + 1) bs none short there)

-- a subset has the same fields whatever items come before it in its message
alone : AreUnrolled → AreAllowed → (tree : Tree) (used : ℕ) (front : List Bool) (f : SubsetRead)
    → used ≤ most_items → fields_at 1 1 (course tree used) front ≡ Ok f
    → (n : ℕ) × (fields_at 1 1 (course tree 0) front ≡ Ok (record f { items = n }))
alone unrolled allowed tree used front f le read =
    let stands = read_stands unrolled tree 1 used front f le read in
    let n = stands.0.0 in (
      n,
      standing_read allowed tree 1 0 front (record f { items = n })
          ((n, stands.0.1, omega arith, omega (arith, stands.0.2, stands.0.3)), stands.1),
    )

-- it is read like the fields of the layout, and what comes after them
begun : AreUnrolled → AreAllowed → (tree : Tree) (used : ℕ) (fields : List CommonField)
    (later : Course) (front : List Bool) (found : Result SubsetRead DataFault)
    → HaveNoCount fields → After (course tree 0) (map told fields) later → used ≤ most_items
    → fields_at 1 1 (course tree used) front ≡ found → IsOk found
    → IsOk (fields_at 1 1 (laid_then fields later) front)
    × (fields_of (fields_at 1 1 (laid_then fields later) front) ≡ fields_of found)
begun unrolled allowed tree used fields later front (Err e) none first le read ok = absurd cc
begun unrolled allowed tree used fields later front (Ok f) none first le read ok =
    let here = alone unrolled allowed tree used front f le read in
    let same : fields_at 1 1 (laid_then fields later) front ≡ Ok (record f { items = here.0 }) =
    read_as_laid 0 1 (course tree 0) later fields front (course_steady tree 0) none first
    ∙ here.1 in
    (subst IsOk (sym same) refl, ap fields_of same)

-- the chosen fields of the subset at a start
pub placed_here : AreUnrolled → AreAllowed
    → (octets : List ℕ) (tree : Tree) (s : SubsetStart) (kept one two three : Layout)
    (asked : List ℕ) → one ≡ kept → two ≡ kept → three ≡ kept → IsLaid tree kept
    → s.used + one.items ≤ most_items → BeginsAtStart octets tree s → two.asked ≡ asked
    → ArePlaced asked three.places (drop s.bit (bits octets)) (subset_at octets tree s)
placed_here unrolled allowed octets tree s kept one two three asked same_one same_two same_three
    laid room begins is =
    let front = drop s.bit (bits octets) in
    let list : kept.asked ≡ asked = ap (λ (l : Layout). l.asked) (sym same_two) ∙ is in
    let later = laid.begins.later in
    let same =
    begun unrolled allowed tree s.used kept.fields later front (subset_at octets tree s)
    laid.no_count laid.begins.first (omega (arith, room)) refl begins.1 in
    let none = subst (λ ds. TellsNone (is_listed ds) later) list laid.begins.no_more in
    let held = places_hold asked 0 kept.fields later 1 front none (omega arith) same.0 in
    let places : three.places ≡ placed_from asked 0 kept.fields =
    ap (λ (l : Layout). l.places) same_three ∙ laid.placed
    ∙ ap (λ ds. placed_from ds 0 kept.fields) list in
    subst (λ ps. ArePlaced asked ps front (subset_at octets tree s)) (sym places) (record {
      holds = held.holds;
      are = held.are ∙ ap (chosen asked) same.1;
    })

-- ---- one place after another

pub placed_there : (places others : List ChosenPlace) (p : ChosenPlace) (front : List Bool)
    → places ≡ p ∷ others → HoldPlaced places front
    → (p.gap ≤ length front) × IsOk (raw_or_ends 1 1 (raw_at p.field.spec (drop p.gap front)))
placed_there places others p front is holds =
    let here = subst (λ ps. HoldPlaced ps front) is holds in
    (here.0, subst IsOk (sym (ap (raw_or_ends 1 1) here.2)) refl)

pub placed_handed : (places others : List ChosenPlace) (p : ChosenPlace) (front rest : List Bool)
    (raw : Raw) → places ≡ p ∷ others → HoldPlaced places front
    → raw_or_ends 1 1 (raw_at p.field.spec (drop p.gap front)) ≡ Ok (raw, rest)
    → HoldPlaced others rest
    × (fields_placed places front
    ≡ record { fxy = p.field.fxy; spec = p.field.spec; raw = raw } ∷ fields_placed others rest)
placed_handed places others p front rest raw is holds read =
    let here = subst (λ ps. HoldPlaced ps front) is holds in
    let found : raw_at p.field.spec (drop p.gap front) ≡ Some (raw, rest) = found_is 1 1 _ _ read in
    let same : here.1 ≡ (raw, rest) = ok_is _ _ (sym (ap (raw_or_ends 1 1) here.2) ∙ read) in (
      subst (HoldPlaced others) (ap (λ (x : Raw × List Bool). x.1) same) here.3,
      ap (λ ps. fields_placed ps front) is
          ∙ ap (placed_then p.field (fields_placed others)) found,
    )

pub placed_greatest : (places others : List ChosenPlace) (p : ChosenPlace) (front : List Bool)
    → places ≡ p ∷ others → HoldPlaced places front → p.greatest ≡ greatest_short p.field.spec
placed_greatest places others p front is holds =
    (subst (λ ps. HoldPlaced ps front) is holds).4

pub none_placed : (places : List ChosenPlace) (front : List Bool) → length places ≡ 0
    → fields_placed places front ≡ []
none_placed [] front is = refl
none_placed (p ∷ places) front is = absurd (omega (arith, is))

-- no field is placed if there is no place, and only then
pub none_alike : (places : List ChosenPlace) (front : List Bool) → HoldPlaced places front
    → (length places == 0) ≡ (length (fields_placed places front) == 0)
none_alike [] front holds = refl
none_alike (p ∷ places) front holds =
    eqb-suc-zero (length places)
    ∙ sym (ap (λ o. length (placed_then p.field (fields_placed places) o) == 0) holds.2
    ∙ eqb-suc-zero (length (fields_placed places holds.1.1)))

-- ---- the places found

-- the places of the fields so far, and those of the fields left
abbrev pub PlacedSoFar : List ℕ → List CommonField → List ChosenPlace → ℕ → List CommonField → Type 0
PlacedSoFar list all places gap left = placed_from list 0 all ≡ places ++ placed_from list gap left

pub one_placed : (list : List ℕ) (all left others : List CommonField) (f : CommonField)
    (places grown : List ChosenPlace) (gap : ℕ) → left ≡ f ∷ others → is_listed list f.fxy ≡ true
    → grown ≡ places ++ placed gap f ∷ []
    → PlacedSoFar list all places gap left → PlacedSoFar list all grown 0 others
one_placed list all left others f places grown gap is listed more so_far =
    let place = placed gap f in
    let next : placed_from list gap (f ∷ others) ≡ place ∷ placed_from list 0 others =
    ap (λ b. cond b (place ∷ placed_from list 0 others)
    (placed_from list (gap + field_size f.spec) others)) listed in
    so_far ∙ ap (λ fs. places ++ placed_from list gap fs) is ∙ ap (λ ps. places ++ ps) next
    ∙ sym (append_assoc places (place ∷ []) (placed_from list 0 others))
    ∙ ap (λ ps. ps ++ placed_from list 0 others) (sym more)

pub none_more_placed : (list : List ℕ) (all left others : List CommonField) (f : CommonField)
    (places : List ChosenPlace) (gap more : ℕ) → left ≡ f ∷ others
    → is_listed list f.fxy ≡ false → more ≡ gap + field_size f.spec
    → PlacedSoFar list all places gap left → PlacedSoFar list all places more others
none_more_placed list all left others f places gap more is listed sum so_far =
    let place = placed gap f in
    let next : placed_from list gap (f ∷ others) ≡ placed_from list (gap + field_size f.spec) others =
    ap (λ b. cond b (place ∷ placed_from list 0 others)
    (placed_from list (gap + field_size f.spec) others)) listed in
    so_far ∙ ap (λ fs. places ++ placed_from list gap fs) is ∙ ap (λ ps. places ++ ps) next
    ∙ ap (λ n. places ++ placed_from list n others) (sym sum)

pub all_placed : (list : List ℕ) (all left : List CommonField) (places : List ChosenPlace) (gap : ℕ)
    → length left ≡ 0 → PlacedSoFar list all places gap left → places ≡ placed_from list 0 all
all_placed list all [] places gap is so_far = sym (so_far ∙ append-nil places)
all_placed list all (f ∷ left) places gap is so_far = absurd (omega (arith, is))

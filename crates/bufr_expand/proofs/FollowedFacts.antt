-- After the fields of a part its course is that of the rest; the next field shows in it; an item
-- above the limit stops it.
use Rattle.std.proofs.Common.{◌≡◌, ℕ, ◌+◌, ◌<◌, ◌≤◌, Option, Some, None, List, [], ◌∷◌}
use Rattle.std.proofs.Common.{◌++◌}
use Rattle.std.proofs.Common.{refl, sym, ap, ◌∙◌, subst, inl, inr, arith, append_assoc}
use Rattle.std.proofs.lemmas.Bool.{cases_lt}
use Rattle.bufr_expand.specs.declared.operators.Operators.{Operators}
use Rattle.bufr_expand.specs.declared.operators.Spec.{Spec}
use Rattle.bufr_expand.specs.declared.walk.WalkFault.TheVariants.{TooLarge, EffectiveRange}
use Rattle.bufr_expand.specs.Limits.{most_items}
use Rattle.bufr_expand.specs.Courses.{Course, ends, stops, asks, asks_if, item, Then}
use Rattle.bufr_expand.specs.Courses.{course_then}
use Rattle.bufr_expand.specs.Trees as trees
use Rattle.bufr_expand.specs.Unrolling.{NumberedField, Unrolled, nothing, item_then, field_then, first_then}
use Rattle.bufr_expand.specs.Unrolling.{UnrollsTo, ItemThen, FieldThen, FirstThen}
use Rattle.bufr_expand.specs.Unrolling.{Unroll, After}
use Rattle.bufr_expand.specs.NextFields.{Next, wants, lacks, Begun, item_before, field_before}
use Rattle.bufr_expand.specs.NextFields.{first_before}
use Rattle.bufr_expand.specs.NextFields.{Beginning, IsNext, ItemBefore, FieldBegins, FirstBegins}
use Rattle.bufr_expand.specs.NextFields.{Begins}
use Rattle.bufr_expand.proofs.PassFacts.{item-below, item-above}
use Rattle.bufr_expand.proofs.TreeParts.{PartCourse, OfPart, IsKept, tree_kept}

-- the property P of the course after these fields, or Z if it does not ask for them
unfoldable pub Comes : Type 0 → (Course → Type 0) → Course → List NumberedField → Type 0
Comes Z P c [] = P c
Comes Z P (ends m) (f ∷ fs) = Z
Comes Z P (stops m fault) (f ∷ fs) = Z
Comes Z P (asks met d spec more) (f ∷ fs) = (f.fxy ≡ d) × (f.spec ≡ spec)
    × Comes Z P (more f.number) fs

pub come_true : (P : Course → Type 0) (c : Course) (fs : List NumberedField) → Comes ⊥ P c fs
    → (later : Course) × After c fs later × P later
unfolding Comes After
come_true P c [] h = (c, refl, h)
come_true P (ends m) (f ∷ fs) h = absurd h
come_true P (stops m fault) (f ∷ fs) h = absurd h
come_true P (asks met d spec more) (f ∷ fs) h = let t = come_true P (more f.number) fs h.2 in
    (t.0, (h.0, h.1, t.1), t.2)

pub come_to : (P : Course → Type 0) (c : Course) (fs : List NumberedField) (later : Course)
    → After c fs later → Comes (Unit {0}) P c fs → P later
unfolding Comes After
come_to P c [] later a h = subst P a h
come_to P (ends m) (f ∷ fs) later a h = absurd a
come_to P (stops m fault) (f ∷ fs) later a h = absurd a
come_to P (asks met d spec more) (f ∷ fs) later a h = come_to P (more f.number) fs later a.2 h.2

-- an item above the limit
unfoldable pub Late : Type 0 → (Course → Type 0) → Type 0
Late Z P = Z × P (stops most_items TooLarge)

stopped : (Z : Type 0) (P : Course → Type 0) (fs : List NumberedField) → Late Z P
    → Comes Z P (stops most_items TooLarge) fs
unfolding Comes Late
stopped Z P [] h = h.1
stopped Z P (f ∷ fs) h = h.0

in_item : (Z : Type 0) (P : Course → Type 0) (used : ℕ) (c : Course) (fs : List NumberedField)
    → used ≤ most_items → (used < most_items → Comes Z P c fs) → (most_items < used + 1 → Late Z P)
    → Comes Z P (item used c) fs
in_item Z P used c fs le below above =
    let Q : Course → Type 0 = λ v. Comes Z P v fs in
    elim (cases_lt used most_items) [
      | inl h ↦ subst Q (sym (item-below used c h)) (below h)
      | inr h ↦
          let same : most_items ≡ used = omega arith in
          let full : stops most_items TooLarge ≡ item used c = ap (λ n. stops n TooLarge) same
          ∙ sym (item-above used c h) in
          subst Q full (stopped Z P fs (above (omega arith)))
    ]

pub with_fields : (Z : Type 0) (P : Course → Type 0) (c : Course) (fs gs : List NumberedField) → fs ≡ gs
    → Comes Z P c fs → Comes Z P c gs
with_fields Z P c fs gs e h = let Q : List NumberedField → Type 0 = λ l. Comes Z P c l in subst Q e h

-- the property of what comes after, within the limit of items
unfoldable pub Ahead : Type 0 → (Course → Type 0) → Then → Operators → ℕ → List NumberedField → Type 0
Ahead Z P after r total gs = (total ≤ most_items → Comes Z P (after r total) gs)
    × (most_items < total → Late Z P)

at_total : (Z : Type 0) (P : Course → Type 0) (after : Then) (r : Operators) (a b : ℕ)
    (gs : List NumberedField) → a ≡ b
    → Ahead Z P after r a gs → Ahead Z P after r b gs
at_total Z P after r a b gs e h = let Q : ℕ → Type 0 = λ k. Ahead Z P after r k gs in subst Q e h

-- after the fields of a part its course is what comes after the part
abbrev pub Follows : Type 0 → (Course → Type 0) → (Unrolled → Type 0) → PartCourse → Type 0
Follows Z P Here body = (all : Unrolled) (used : ℕ) (after : Then) (gs : List NumberedField) → Here all
    → used ≤ most_items
    → Ahead Z P after all.operators (used + all.items) gs
    → Comes Z P (body used after) (all.fields ++ gs)

-- under any operators
abbrev pub FollowsAll : Type 0 → (Course → Type 0) → UnrollsTo → (Operators → PartCourse) → Type 0
FollowsAll Z P Body body = (before : Operators) → Follows Z P (Body before) (body before)

nothing_follows : (Z : Type 0) (P : Course → Type 0) (before : Operators)
    → Follows Z P (λ all. all ≡ nothing before) (λ used after. after before used)
unfolding Ahead
nothing_follows Z P before all used after gs e le a =
    let Q : Unrolled → Type 0 = λ u. Ahead Z P after u.operators (used + u.items) gs
    → Comes Z P (after before used) (u.fields ++ gs) in
    let now : Q (nothing before) = λ ahead.
    (at_total Z P after before (used + 0) used gs (omega arith) ahead).0 le in
    subst Q (sym e) now a

item_follows : (Z : Type 0) (P : Course → Type 0) (Rest : UnrollsTo) (before : Operators)
    (rest : PartCourse)
    → Follows Z P (Rest before) rest
    → Follows Z P (ItemThen Rest before) (λ used after. item used (rest (used + 1) after))
unfolding Ahead
item_follows Z P Rest before rest step all used after gs h le a =
    let others = h.others in
    let c : Course = rest (used + 1) after in
    let Q : Unrolled → Type 0 = λ u. Ahead Z P after u.operators (used + u.items) gs
    → Comes Z P (item used c) (u.fields ++ gs) in
    let now : Q (item_then others) = λ ahead. in_item Z P used c (others.fields ++ gs) le
    (λ below. step others (used + 1) after gs h.rest (omega arith)
    (at_total Z P after others.operators (used + (1 + others.items))
    ((used + 1) + others.items) gs
    (omega arith) ahead))
    (λ above. ahead.1 (omega arith)) in
    subst Q (sym h.in_order) now a

first_follows : (Z : Type 0) (P : Course → Type 0) (First Rest : UnrollsTo)
    (first rest : Operators → PartCourse)
    → FollowsAll Z P First first → FollowsAll Z P Rest rest
    → FollowsAll Z P (FirstThen First Rest)
    (λ q used after. first q used (λ q used. rest q used after))
unfolding Ahead
first_follows Z P First Rest first rest step then before all used after gs h le a =
    let f = h.first in
    let others = h.others in
    let c : Course = first before used (λ q used. rest q used after) in
    let Q : Unrolled → Type 0 = λ u. Ahead Z P after u.operators (used + u.items) gs
    → Comes Z P c (u.fields ++ gs) in
    let now : Q (first_then f others) = λ ahead.
    let behind : Ahead Z P (λ q used. rest q used after) f.operators (used + f.items)
    (others.fields ++ gs) = (
      λ fit. then f.operators others (used + f.items) after gs h.rest fit
          (at_total Z P after others.operators (used + (f.items + others.items))
          ((used + f.items) + others.items) gs (omega arith) ahead),
      λ over. ahead.1 (omega arith),
    ) in
    with_fields Z P c (f.fields ++ (others.fields ++ gs)) ((f.fields ++ others.fields) ++ gs)
    (sym (append_assoc f.fields others.fields gs))
    (step before f used (λ q used. rest q used after)
    (others.fields ++ gs) h.is_first le behind) in
    subst Q (sym h.in_order) now a

asked_follows : (Z : Type 0) (P : Course → Type 0) (o : Option Spec) (met d : ℕ) (more : ℕ → Course)
    (f : NumberedField)
    (fs : List NumberedField) → o ≡ Some f.spec → f.fxy ≡ d → Comes Z P (more f.number) fs
    → Comes Z P (asks_if o met d more) (f ∷ fs)
unfolding Comes
asked_follows Z P o met d more f fs e k h =
    let Q : Option Spec → Type 0 = λ v. Comes Z P (asks_if v met d more) (f ∷ fs) in
    let at_spec : Q (Some f.spec) = (k, refl, h) in
    subst Q (sym e) at_spec

field_follows : (Z : Type 0) (P : Course → Type 0) (Has : Spec → Type 0) (o : Option Spec) (d : ℕ)
    (Rest : ℕ → UnrollsTo) (before : Operators) (rest : ℕ → PartCourse)
    → ((s : Spec) → Has s → o ≡ Some s)
    → ((n : ℕ) → Follows Z P (Rest n before) (rest n))
    → Follows Z P (FieldThen d Has Rest before)
    (λ used after. item used (asks_if o (used + 1) d (λ n. rest n (used + 1) after)))
unfolding Ahead
field_follows Z P Has o d Rest before rest only step all used after gs h le a =
    let f = h.field in
    let others = h.others in
    let more : ℕ → Course = λ n. rest n (used + 1) after in
    let c : Course = asks_if o (used + 1) d more in
    let Q : Unrolled → Type 0 = λ u. Ahead Z P after u.operators (used + u.items) gs
    → Comes Z P (item used c) (u.fields ++ gs) in
    let now : Q (field_then f others) = λ ahead. in_item Z P used c (f ∷ (others.fields ++ gs)) le
    (λ below. asked_follows Z P o (used + 1) d more f (others.fields ++ gs)
    (only f.spec h.has_spec) h.descriptor_is
    (step f.number others (used + 1) after gs h.rest (omega arith)
    (at_total Z P after others.operators (used + (1 + others.items))
    ((used + 1) + others.items) gs (omega arith) ahead)))
    (λ above. ahead.1 (omega arith)) in
    subst Q (sym h.in_order) now a

-- the next field shows in the course after n items
unfoldable pub Shows : Course → Next → ℕ → Type 0
Shows (ends m) next n = ⊥
Shows (stops met fault) (wants k s) n = ⊥
Shows (stops met fault) (lacks k) n = (met ≡ n) × (fault ≡ EffectiveRange k)
Shows (asks met d spec more) (wants k s) n = (met ≡ n) × (d ≡ k) × (spec ≡ s)
Shows (asks met d spec more) (lacks k) n = ⊥

-- a course shows the next field, or the items are above the limit
unfoldable pub Arrives : Type 0 → (Course → Type 0) → Next → ℕ → Type 0
Arrives Z P next total = ((c : Course) → total ≤ most_items → Shows c next total → P c)
    × (most_items < total → Late Z P)

of_total : (Z : Type 0) (P : Course → Type 0) (next : Next) (a b : ℕ) → a ≡ b → Arrives Z P next a
    → Arrives Z P next b
of_total Z P next a b e h = let Q : ℕ → Type 0 = λ k. Arrives Z P next k in subst Q e h

-- if a part begins so, its course shows the next field
abbrev pub Meets : Type 0 → (Course → Type 0) → (Begun → Type 0) → PartCourse → Type 0
Meets Z P Here body = (begun : Begun) (used : ℕ) (after : Then) → Here begun → used ≤ most_items
    → Arrives Z P begun.next (used + begun.items) → Comes Z P (body used after) begun.fields

-- under any operators
abbrev pub MeetsAll : Type 0 → (Course → Type 0) → Beginning → (Operators → PartCourse) → Type 0
MeetsAll Z P Begin body = (before : Operators) → Meets Z P (Begin before) (body before)

item_meets : (Z : Type 0) (P : Course → Type 0) (Rest : Beginning) (before : Operators)
    (rest : PartCourse)
    → Meets Z P (Rest before) rest
    → Meets Z P (ItemBefore Rest before) (λ used after. item used (rest (used + 1) after))
unfolding Arrives
item_meets Z P Rest before rest step begun used after h le a =
    let later = h.later in
    let c : Course = rest (used + 1) after in
    let Q : Begun → Type 0 = λ u. Arrives Z P u.next (used + u.items)
    → Comes Z P (item used c) u.fields in
    let now : Q (item_before later) = λ arrives. in_item Z P used c later.fields le
    (λ below. step later (used + 1) after h.rest (omega arith)
    (of_total Z P later.next (used + (1 + later.items)) ((used + 1) + later.items)
    (omega arith) arrives))
    (λ above. arrives.1 (omega arith)) in
    subst Q (sym h.in_order) now a

first_meets : (Z : Type 0) (P : Course → Type 0) (First : UnrollsTo) (Begin Rest : Beginning)
    (first rest : Operators → PartCourse)
    → FollowsAll Z P First first → MeetsAll Z P Begin first → MeetsAll Z P Rest rest
    → MeetsAll Z P (FirstBegins First Begin Rest)
    (λ q used after. first q used (λ q used. rest q used after))
unfolding Ahead Arrives
first_meets Z P First Begin Rest first rest step begin then before begun used after (inl h) le a =
    begin before begun used (λ q used. rest q used after) h le a
first_meets Z P First Begin Rest first rest step begin then before begun used after (inr h) le a =
    let f = h.first in
    let later = h.later in
    let c : Course = first before used (λ q used. rest q used after) in
    let Q : Begun → Type 0 = λ u. Arrives Z P u.next (used + u.items) → Comes Z P c u.fields in
    let now : Q (first_before f later) = λ arrives.
    let behind : Ahead Z P (λ q used. rest q used after) f.operators
    (used + f.items) later.fields = (
      λ fit. then f.operators later (used + f.items) after h.rest fit
          (of_total Z P later.next (used + (f.items + later.items))
          ((used + f.items) + later.items)
          (omega arith) arrives),
      λ over. arrives.1 (omega arith),
    ) in
    step before f used (λ q used. rest q used after) later.fields h.is_first le behind in
    subst Q (sym h.in_order) now a

shows : (Has : Spec → Type 0) (o : Option Spec) (met d : ℕ) (more : ℕ → Course) (next : Next)
    → ((s : Spec) → Has s → o ≡ Some s) → ((s : Spec) → o ≡ Some s → Has s) → IsNext d Has next
    → Shows (asks_if o met d more) next met
unfolding Shows
shows Has None met d more (wants k s) only found h = let e : None ≡ Some s = only s h.1 in cc
shows Has None met d more (lacks k) only found h = (refl, ap EffectiveRange (sym h.0))
shows Has (Some x) met d more (wants k s) only found h = let e : Some x ≡ Some s = only s h.1 in
    (refl, sym h.0, cc)
shows Has (Some x) met d more (lacks k) only found h = absurd (h.1 x (found x refl))

shown_here : (Z : Type 0) (P : Course → Type 0) (c : Course) (next : Next) (total : ℕ)
    → total ≤ most_items
    → Arrives Z P next total → Shows c next total → Comes Z P c []
unfolding Comes Arrives
shown_here Z P c next total fit arrives h = arrives.0 c fit h

field_meets : (Z : Type 0) (P : Course → Type 0) (Has : Spec → Type 0) (o : Option Spec) (d : ℕ)
    (Rest : ℕ → Beginning) (before : Operators) (rest : ℕ → PartCourse)
    → ((s : Spec) → Has s → o ≡ Some s) → ((s : Spec) → o ≡ Some s → Has s)
    → ((n : ℕ) → Meets Z P (Rest n before) (rest n))
    → Meets Z P (FieldBegins d Has Rest before)
    (λ used after. item used (asks_if o (used + 1) d (λ n. rest n (used + 1) after)))
unfolding Arrives
field_meets Z P Has o d Rest before rest only found step begun used after (inl h) le a =
    let count : begun.items ≡ 1 = h.one_item in
    let more : ℕ → Course = λ n. rest n (used + 1) after in
    let c : Course = asks_if o (used + 1) d more in
    let now = of_total Z P begun.next (used + begun.items) (used + 1) (omega arith) a in
    in_item Z P used c begun.fields le
    (λ below. with_fields Z P c [] begun.fields (sym h.none_before)
    (shown_here Z P c begun.next (used + 1) (omega arith) now
    (shows Has o (used + 1) d more begun.next only found h.is_next)))
    now.1
field_meets Z P Has o d Rest before rest only found step begun used after (inr h) le a =
    let f = h.field in
    let later = h.later in
    let more : ℕ → Course = λ n. rest n (used + 1) after in
    let c : Course = asks_if o (used + 1) d more in
    let Q : Begun → Type 0 = λ u. Arrives Z P u.next (used + u.items)
    → Comes Z P (item used c) u.fields in
    let now : Q (field_before f later) = λ arrives. in_item Z P used c (f ∷ later.fields) le
    (λ below. asked_follows Z P o (used + 1) d more f later.fields
    (only f.spec h.has_spec) h.descriptor_is
    (step f.number later (used + 1) after h.rest (omega arith)
    (of_total Z P later.next (used + (1 + later.items)) ((used + 1) + later.items)
    (omega arith) arrives)))
    (λ above. arrives.1 (omega arith)) in
    subst Q (sym h.in_order) now a

-- a part whose course goes on after its fields and shows the next field in it
abbrev GoesOn : Type 0 → (Course → Type 0) → OfPart
GoesOn Z P Here Begin body = Follows Z P Here body × Meets Z P Begin body

goes_on_kept : (Z : Type 0) (P : Course → Type 0) → IsKept (GoesOn Z P)
goes_on_kept Z P = record {
  of_nothing = λ before. (nothing_follows Z P before, λ begun used after h le a. absurd h);
  of_item = λ Rest Begin before rest h.
      (item_follows Z P Rest before rest h.0, item_meets Z P Begin before rest h.1);
  of_first = λ First Rest Begin Behind first rest h g before. (
    first_follows Z P First Rest first rest (λ q. (h q).0) (λ q. (g q).0) before,
    first_meets Z P First Begin Behind first rest (λ q. (h q).0) (λ q. (h q).1)
        (λ q. (g q).1) before,
  );
  of_field = λ Has o d Rest Begin before rest only found h. (
    field_follows Z P Has o d Rest before rest only (λ n. (h n).0),
    field_meets Z P Has o d Begin before rest only found (λ n. (h n).1),
  );
}

pub tree_follows : (Z : Type 0) (P : Course → Type 0) (t : trees.Tree)
    → FollowsAll Z P (Unroll t) (course_then t)
tree_follows Z P t before = (tree_kept (GoesOn Z P) (goes_on_kept Z P) t before).0

pub tree_meets : (Z : Type 0) (P : Course → Type 0) (t : trees.Tree)
    → MeetsAll Z P (Begins t) (course_then t)
tree_meets Z P t before = (tree_kept (GoesOn Z P) (goes_on_kept Z P) t before).1

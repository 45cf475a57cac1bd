-- The way back from a course to an unrolling: the fields that it asks for are those of some nodes,
-- up to the next field or past the nodes.
use Rattle.std.proofs.Common.{◌≡◌, ◌⊎◌, ℕ, ◌+◌, ◌≤◌, Option, Some, None, List, [], ◌∷◌}
use Rattle.std.proofs.Common.{◌++◌}
use Rattle.std.proofs.Common.{refl, sym, ap, ◌∙◌, subst, inl, inr, arith, append_assoc}
use Rattle.std.proofs.lemmas.Bool.{cases_lt}
use Rattle.bufr_expand.specs.declared.operators.Operators.{Operators}
use Rattle.bufr_expand.specs.declared.operators.Spec.{Spec}
use Rattle.bufr_expand.specs.declared.walk.WalkFault.{WalkFault}
use Rattle.bufr_expand.specs.declared.walk.WalkFault.TheVariants.{TooLarge}
use Rattle.bufr_expand.specs.Limits.{most_items}
use Rattle.bufr_expand.specs.Courses.{Course, ends, stops, asks, asks_if, item, Then}
use Rattle.bufr_expand.specs.Courses.{course_then}
use Rattle.bufr_expand.specs.Trees as trees
use Rattle.bufr_expand.specs.Unrolling.{NumberedField, Unrolled, nothing, item_then, field_then, first_then}
use Rattle.bufr_expand.specs.Unrolling.{UnrollsTo, ItemThen, FieldThen, FirstThen}
use Rattle.bufr_expand.specs.Unrolling.{Unroll, After}
use Rattle.bufr_expand.specs.NextFields.{Next, wants, lacks, Begun, Beginning, IsNext, ItemBefore}
use Rattle.bufr_expand.specs.NextFields.{FieldBegins}
use Rattle.bufr_expand.specs.NextFields.{FirstBegins, Begins}
use Rattle.bufr_expand.proofs.PassFacts.{item-below, item-above}
use Rattle.bufr_expand.proofs.TreeParts.{PartCourse, OfPart, OfAll, tree_kept}

-- there are no more fields, or the course asks for them
unfoldable pub Still : Course → ℕ → List NumberedField → Course → Type 0
Still c used fields later = (fields ≡ []) ⊎ ((used ≤ most_items) × After c fields later)

-- the fields of some nodes, and the fields after them
pub record Split (Body : Unrolled → Type 0) (used : ℕ) (after : Then) (fields : List NumberedField)
    (later : Course) : Type 0 where
  pub front : Unrolled
  pub back : List NumberedField
  pub joined : fields ≡ front.fields ++ back
  pub here : Body front
  pub behind : Still (after front.operators (used + front.items)) (used + front.items) back later

-- the next field is in some nodes, or these nodes come whole before it
abbrev pub Parted : (Unrolled → Type 0) → (Begun → Type 0) → ℕ → Then → List NumberedField → Course → Type 0
Parted Body Begin used after fields later =
    ((next : Next) × (items : ℕ) × Begin (record { fields = fields; next = next; items = items }))
    ⊎ Split Body used after fields later

-- the fields that the course of some nodes asks for split so
abbrev pub Finds : OfPart
Finds Body Begin body = (used : ℕ) (after : Then) (fields : List NumberedField) (later : Course)
    → Still (body used after) used fields later → Parted Body Begin used after fields later

still_at : (after : Then) (r : Operators) (a b : ℕ) (fields : List NumberedField) (later : Course) → a ≡ b
    → Still (after r a) a fields later → Still (after r b) b fields later
still_at after r a b fields later e h = let P : ℕ
    → Type 0 = λ k. Still (after r k) k fields later in subst P e h

pub none_told : (n : ℕ) (fields : List NumberedField) (later : Course) (c : Course) → (c ≡ ends n)
    ⊎ ((fault : WalkFault) × (c ≡ stops n fault)) → After c fields later → fields ≡ []
unfolding After
none_told n [] later c e a = refl
none_told n (f ∷ fs) later c (inl e) a = let P : Course → Type 0 = λ v. After v (f ∷ fs) later in
    absurd (subst P e a)
none_told n (f ∷ fs) later c (inr e) a = let P : Course → Type 0 = λ v. After v (f ∷ fs) later in
    absurd (subst P e.1 a)

still_item : (used : ℕ) (c : Course) (fields : List NumberedField) (later : Course)
    → Still (item used c) used fields later → Still c (used + 1) fields later
unfolding Still
still_item used c fields later (inl h) = inl h
still_item used c fields later (inr h) =
    let P : Course → Type 0 = λ v. After v fields later in
    elim (cases_lt used most_items) [
      | inl b ↦ inr (omega arith, subst P (item-below used c b) h.1)
      | inr b ↦ inl (none_told used fields later (item used c)
          (inr (TooLarge, item-above used c b)) h.1)
    ]

-- the first field, and what is left after it
record FirstTold (Has : Spec → Type 0) (d met : ℕ) (more : ℕ → Course) (fields : List NumberedField)
    (later : Course) : Type 0 where
  first : NumberedField
  others : List NumberedField
  joined : fields ≡ first ∷ others
  named : first.fxy ≡ d
  told : Has first.spec
  behind : Still (more first.number) met others later

of_asks : (Has : Spec → Type 0) (spec : Spec) → ((s : Spec) → s ≡ spec → Has s)
    → (d met : ℕ) (more : ℕ → Course) (fields : List NumberedField) (later : Course)
    → Still (asks met d spec more) met fields later → (fields ≡ [])
    ⊎ FirstTold Has d met more fields later
unfolding Still After
of_asks Has spec has d met more fields later (inl h) = inl h
of_asks Has spec has d met more [] later (inr h) = inl refl
of_asks Has spec has d met more (f ∷ fs) later (inr h) =
    inr (record {
      first = f;
      others = fs;
      joined = refl;
      named = h.1.0;
      told =
          has f.spec h.1.1;
      behind = inr (h.0, h.1.2);
    })

of_asked : (o : Option Spec) (d met : ℕ) (more : ℕ → Course) (fields : List NumberedField) (later : Course)
    → Still (asks_if o met d more) met fields later → (fields ≡ [])
    ⊎ FirstTold (λ s. o ≡ Some s) d met more fields later
unfolding Still
of_asked None d met more fields later (inl h) = inl h
of_asked None d met more fields later (inr h) =
    inl (none_told met fields later (asks_if None met d more) (inr (_, refl)) h.1)
of_asked (Some spec) d met more fields later a =
    of_asks (λ s. Some spec ≡ Some s) spec (λ s e. ap Some (sym e)) d met more fields later a

first_next : (Has : Spec → Type 0) (o : Option Spec) (d : ℕ) → ((s : Spec) → Has s → o ≡ Some s)
    → ((s : Spec) → o ≡ Some s → Has s) → (next : Next) × IsNext d Has next
first_next Has None d only found = (lacks d, (refl, λ s h. let e : None ≡ Some s = only s h in cc))
first_next Has (Some s) d only found = (wants d s, (refl, found s refl))

nothing_finds : (before : Operators) (Begin : Begun → Type 0)
    → Finds (λ all. all ≡ nothing before) Begin (λ used after. after before used)
nothing_finds before Begin used after fields later a = inr (record {
  front = nothing before;
  back = fields;
  joined = refl;
  here = refl;
  behind = still_at after before used (used + 0) fields later (omega arith) a;
})

item_finds : (Rest : UnrollsTo) (Begin : Beginning) (before : Operators) (rest : PartCourse)
    → Finds (Rest before) (Begin before) rest
    → Finds (ItemThen Rest before) (ItemBefore Begin before)
    (λ used after. item used (rest (used + 1) after))
item_finds Rest Begin before rest find used after fields later a =
    elim (find (used + 1) after fields later
    (still_item used (rest (used + 1) after) fields later a)) [
      | inl b ↦ inl (
        b.0,
        1 + b.1,
        record {
          later = record { fields = fields; next = b.0; items = b.1 };
          in_order = refl;
          rest = b.2;
        },
      )
      | inr s ↦ inr (record {
        front = item_then s.front;
        back = s.back;
        joined = s.joined;
        here = record { others = s.front; in_order = refl; rest = s.here };
        behind = still_at after s.front.operators ((used + 1) + s.front.items)
            (used + (1 + s.front.items))
            s.back later (omega arith) s.behind;
      })
    ]

-- the beginning of some nodes, by their fields
abbrev begun_by : Next → ℕ → List NumberedField → Begun
begun_by next items fields = record { fields = fields; next = next; items = items }

first_finds : (First Rest : UnrollsTo) (Begin Behind : Beginning)
    (first rest : Operators → PartCourse)
    → OfAll Finds First Begin first → OfAll Finds Rest Behind rest
    → OfAll Finds (FirstThen First Rest) (FirstBegins First Begin Behind)
    (λ q used after. first q used (λ q used. rest q used after))
first_finds First Rest Begin Behind first rest find then before used after fields later a =
    elim (find before used (λ q used. rest q used after) fields later a) [
      | inl b ↦ inl (b.0, b.1, inl b.2)
      | inr s ↦ elim (then s.front.operators (used + s.front.items) after s.back later s.behind) [
        | inl b ↦ inl (
          b.0,
          s.front.items + b.1,
          inr (record {
            first = s.front;
            later = begun_by b.0 b.1 s.back;
            in_order = ap (begun_by b.0 (s.front.items + b.1)) s.joined;
            is_first = s.here;
            rest = b.2;
          }),
        )
        | inr t ↦ inr (record {
          front = first_then s.front t.front;
          back = t.back;
          joined = s.joined ∙ ap (λ l. s.front.fields ++ l) t.joined
              ∙ sym (append_assoc s.front.fields t.front.fields t.back);
          here = record {
            first = s.front;
            others = t.front;
            in_order = refl;
            is_first =
                s.here;
            rest = t.here;
          };
          behind = still_at after t.front.operators ((used + s.front.items) + t.front.items)
              (used + (s.front.items + t.front.items)) t.back later (omega arith) t.behind;
        })
      ]
    ]

field_finds : (Has : Spec → Type 0) (o : Option Spec) (d : ℕ) (Rest : ℕ → UnrollsTo)
    (Begin : ℕ → Beginning)
    (before : Operators) (rest : ℕ → PartCourse)
    → ((s : Spec) → Has s → o ≡ Some s) → ((s : Spec) → o ≡ Some s → Has s)
    → ((n : ℕ) → Finds (Rest n before) (Begin n before) (rest n))
    → Finds (FieldThen d Has Rest before) (FieldBegins d Has Begin before)
    (λ used after. item used (asks_if o (used + 1) d (λ n. rest n (used + 1) after)))
field_finds Has o d Rest Begin before rest only found find used after fields later a =
    let more : ℕ → Course = λ n. rest n (used + 1) after in
    let asked = of_asked o d (used + 1) more fields later
    (still_item used (asks_if o (used + 1) d more) fields later a) in
    elim (asked) [
      | inl h ↦
          let p = first_next Has o d only found in
          inl (p.0, 1, inl (record { none_before = h; is_next = p.1; one_item = refl }))
      | inr h ↦
          let has = found h.first.spec h.told in
          elim (find h.first.number (used + 1) after h.others later h.behind) [
            | inl b ↦ inl (
              b.0,
              1 + b.1,
              inr (record {
                field = h.first;
                later = begun_by b.0 b.1 h.others;
                in_order = ap (begun_by b.0 (1 + b.1)) h.joined;
                descriptor_is = h.named;
                has_spec = has;
                rest = b.2;
              }),
            )
            | inr s ↦ inr (record {
              front = field_then h.first s.front;
              back = s.back;
              joined = h.joined ∙ ap (λ l. h.first ∷ l) s.joined;
              here = record {
                field = h.first;
                others = s.front;
                in_order = refl;
                descriptor_is = h.named;
                has_spec = has;
                rest = s.here;
              };
              behind = still_at after s.front.operators ((used + 1) + s.front.items)
                  (used + (1 + s.front.items)) s.back later (omega arith) s.behind;
            })
          ]
    ]

pub tree_finds : (t : trees.Tree) → OfAll Finds (Unroll t) (Begins t) (course_then t)
tree_finds t = tree_kept Finds (record {
  of_nothing = λ before. nothing_finds before (λ begun. ⊥);
  of_item = item_finds;
  of_first = first_finds;
  of_field = field_finds;
}) t

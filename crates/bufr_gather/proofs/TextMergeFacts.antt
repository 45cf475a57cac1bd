-- Texts merged entry by entry: for `take_first` and `ArchiveText::merge`.
use Rattle.std.proofs.Common.{◌≡◌, ℕ, ◌+◌, ◌≤◌, Bool, true, false, List, [], ◌∷◌, ◌++◌, length, drop}
use Rattle.std.proofs.Common.{map, cond, Option, Some, None, refl, sym, ap, subst, ◌∙◌, arith}
use Rattle.std.proofs.Common.{append_assoc}
use Rattle.std.specs.Prelude.{option_map}
use Rattle.std.specs.List.{flat_map}
use Rattle.std.specs.Ordering.{is_gt, ordering_reverse}
use Rattle.std.specs.declared.cmp.Ordering.{Ordering}
use Rattle.std.specs.declared.cmp.Ordering.TheVariants.{Less, Equal, Greater}
use Rattle.std.proofs.lemmas.List.{append-nil, drop_at, map-append}
use Rattle.bufr_tables.specs.Entries.{Entries}
use Rattle.bufr_entries.specs.declared.entry.Entry.{Entry}
use Rattle.bufr_entries.specs.Entries.{slot_cmp, rank_cmp, kept}
use Rattle.bufr_entries.specs.Keeping.{first_of}
use Rattle.bufr_entries.specs.Marks.{SlotView}
use Rattle.bufr_entries.specs.Orders.{slots_total}
use Rattle.bufr_gather.specs.declared.merged_octets.EntrySource.{EntrySource}
use Rattle.bufr_gather.specs.declared.merged_octets.EntrySource.TheVariants.{Left, Right, LeftOfBoth}
use Rattle.bufr_gather.specs.declared.merged_octets.EntrySource.TheVariants.{RightOfBoth}
use Rattle.bufr_gather.specs.declared.merging_texts.Unmerged.{Unmerged}
use Rattle.bufr_gather.specs.declared.merging_texts.KnownEntry.{KnownEntry}
use Rattle.bufr_gather.specs.ArchiveTexts.{AreInOrder, AreLeft, known, order_of_firsts, greater_of}
use Rattle.bufr_gather.specs.ArchiveTexts.{ComesFirst, FirstTaken, TakesFirst, AreMerged}
use Rattle.bufr_gather.specs.MergedOctets.{first_octets, octets_after_first, octets_or_none}
use Rattle.bufr_gather.specs.MergedOctets.{handed_out, marks_out, HandOutMerged}
use Rattle.bufr_gather.specs.ReportLaws.{ReportsAreEntries}
use Rattle.bufr_gather.specs.Texts.{text, mark_of, marks_of, front_of}
use Rattle.bufr_gather.specs.EntryFacts.{front_is}
use Rattle.bufr_gather.proofs.MergeFacts.{kept_left, kept_right, kept_both_first, after_all}
use Rattle.bufr_gather.proofs.MergeFacts.{after_first, order_behind}

-- ---- the rest of a text

-- an entry of a mark and octets
abbrev seen : SlotView → List ℕ → Entry
seen m bytes = record { key = m.key; update = m.update; bytes = bytes }

pub behind_in_order : (tables : Entries) (es : List Entry) → AreInOrder tables es
    → AreInOrder tables (drop 1 es)
behind_in_order tables [] a = a
behind_in_order tables (e ∷ es) a =
    record { each = a.each.1; ordered = order_behind e es a.ordered }

none_left : (marks : List SlotView) (es : List Entry) → marks ≡ marks_of es → length marks ≡ 0
    → es ≡ []
none_left marks [] are none = refl
none_left marks (e ∷ es) are none =
    let some : length marks ≡ length (marks_of (e ∷ es)) = ap length are in
    absurd (omega arith)

pub nothing_left : (tables : Entries) (marks : List SlotView) (octets : List ℕ) (es : List Entry)
    (left : Unmerged) → AreInOrder tables es → marks ≡ marks_of es → octets ≡ text es
    → length marks ≡ 0 → left.first ≡ None → left.marks.now ≡ marks → left.behind.now ≡ octets
    → AreLeft tables es left
nothing_left tables marks octets es left a are is none first marked behind =
    let empty = none_left marks es are none in
    record {
      in_order = a;
      first = ap (option_map known) first ∙ ap first_of (sym empty);
      marked = marked ∙ are ∙ ap marks_of empty ∙ ap (λ (es : List Entry). marks_of (drop 1 es)) (sym empty);
      behind = behind ∙ is ∙ ap text empty ∙ ap (λ (es : List Entry). text (drop 1 es)) (sym empty);
    }

pub front_left : ReportsAreEntries → (tables : Entries) (marks others : List SlotView)
    (octets front : List ℕ) (es : List Entry) (left : Unmerged) (entry : KnownEntry)
    → AreInOrder tables es → marks ≡ marks_of es → octets ≡ text es
    → marks ≡ entry.mark.now ∷ others → front ≡ first_octets octets
    → left.first ≡ Some entry → entry.bytes.now ≡ front → left.marks.now ≡ others
    → left.behind.now ≡ octets_after_first octets → AreLeft tables es left
front_left laws tables marks others octets front [] left entry a are is first some at own marked
    behind = let none : entry.mark.now ∷ others ≡ [] = sym first ∙ are in absurd cc
front_left laws tables marks others octets front (e ∷ es) left entry a are is first some at own
    marked behind =
    let announced : front_of octets ≡ Some e.bytes =
    ap front_of is ∙ front_is e.bytes (text es) ((laws tables).frame e a.each.0) in
    let same : first_octets octets ≡ e.bytes = ap octets_or_none announced in
    let joined : entry.mark.now ∷ others ≡ mark_of e ∷ marks_of es = sym first ∙ are in
    let mark : entry.mark.now ≡ mark_of e = cc in
    let more : others ≡ marks_of es = cc in
    record {
      in_order = a;
      first = ap (option_map known) at
          ∙ ap (λ (m : SlotView). Some (seen m entry.bytes.now)) mark
          ∙ ap (λ (b : List ℕ). Some (seen (mark_of e) b)) (own ∙ some ∙ same);
      marked = marked ∙ more;
      behind = behind ∙ ap (drop (length (first_octets octets))) is
          ∙ drop_at e.bytes (text es) (length (first_octets octets)) (ap length (sym same));
    }

-- ---- one step

pub nothing_right : (x y : Option KnownEntry) (order : Ordering) → y ≡ None → order ≡ Less
    → order_of_firsts (option_map known x) (option_map known y) ≡ order
nothing_right x y order none is =
    ap (λ z. order_of_firsts (option_map known x) (option_map known z)) none ∙ sym is

pub nothing_left_of : (x y : Option KnownEntry) (f : KnownEntry) (order : Ordering) → x ≡ None
    → y ≡ Some f → order ≡ Greater
    → order_of_firsts (option_map known x) (option_map known y) ≡ order
nothing_left_of x y f order none some is =
    ap (λ z. order_of_firsts (option_map known z) (option_map known y)) none
    ∙ ap (λ z. order_of_firsts None (option_map known z)) some ∙ sym is

pub both_there : (x y : Option KnownEntry) (e f : KnownEntry) (order : Ordering) → x ≡ Some e
    → y ≡ Some f → order ≡ slot_cmp (known e) (known f)
    → order_of_firsts (option_map known x) (option_map known y) ≡ order
both_there x y e f order some some_too is =
    ap (λ z. order_of_firsts (option_map known z) (option_map known y)) some
    ∙ ap (λ z. order_of_firsts (Some (known e)) (option_map known z)) some_too ∙ sym is

pub none_taken : (tables : Entries) (es fs : List Entry) (left right : Unmerged)
    → AreLeft tables es left → AreLeft tables fs right
    → order_of_firsts (option_map known left.first) (option_map known right.first) ≡ Less
    → left.first ≡ None → (es ≡ []) × (fs ≡ [])
none_taken tables es fs left right l r less none =
    by es fs
    (sym (ap (λ x. order_of_firsts x (option_map known right.first)) l.first
    ∙ ap (order_of_firsts (first_of es)) r.first) ∙ less)
    (sym l.first ∙ ap (option_map known) none)
  where
    by : (es fs : List Entry) → order_of_firsts (first_of es) (first_of fs) ≡ Less
        → first_of es ≡ None → (es ≡ []) × (fs ≡ [])
    by [] [] less none = (refl, refl)
    by [] (f ∷ fs) less none = absurd cc
    by (e ∷ es) fs less none = absurd cc

pub left_taken : (tables : Entries) (es fs : List Entry) (before left right : Unmerged)
    (entry : KnownEntry) → AreLeft tables es before → AreLeft tables fs right
    → order_of_firsts (option_map known before.first) (option_map known right.first) ≡ Less
    → before.first ≡ Some entry → AreLeft tables (drop 1 es) left
    → FirstTaken tables es fs left right Left
left_taken tables es fs before left right entry b r less some l =
    by es fs b.in_order r.in_order r
    (sym (ap (λ x. order_of_firsts x (option_map known right.first)) b.first
    ∙ ap (order_of_firsts (first_of es)) r.first) ∙ less)
    (sym b.first ∙ ap (option_map known) some) l
  where
    by : (es fs : List Entry) → AreInOrder tables es → AreInOrder tables fs
        → AreLeft tables fs right → order_of_firsts (first_of es) (first_of fs) ≡ Less
        → first_of es ≡ Some (known entry) → AreLeft tables (drop 1 es) left
        → FirstTaken tables es fs left right Left
    by [] fs a b r less some l = absurd cc
    by (e ∷ es) [] a b r less some l = record {
      taken = e;
      left_behind = es;
      right_behind = [];
      comes = (refl, refl);
      are_kept = kept_left e es [] (after_first e es a.ordered) tt;
      fewer = omega arith;
      left_are = l;
      right_are = r;
    }
    by (e ∷ es) (f ∷ fs) a b r less some l = record {
      taken = e;
      left_behind = es;
      right_behind = f ∷ fs;
      comes = (refl, refl);
      are_kept = kept_left e es (f ∷ fs) (after_first e es a.ordered)
          (after_all e f fs less b.ordered);
      fewer = omega arith;
      left_are = l;
      right_are = r;
    }

pub right_taken : (tables : Entries) (es fs : List Entry) (left before right : Unmerged)
    → AreLeft tables es left → AreLeft tables fs before
    → order_of_firsts (option_map known left.first) (option_map known before.first) ≡ Greater
    → AreLeft tables (drop 1 fs) right → FirstTaken tables es fs left right Right
right_taken tables es fs left before right l b greater r =
    by es fs l.in_order b.in_order l
    (sym (ap (λ x. order_of_firsts x (option_map known before.first)) l.first
    ∙ ap (order_of_firsts (first_of es)) b.first) ∙ greater) r
  where
    by : (es fs : List Entry) → AreInOrder tables es → AreInOrder tables fs
        → AreLeft tables es left → order_of_firsts (first_of es) (first_of fs) ≡ Greater
        → AreLeft tables (drop 1 fs) right → FirstTaken tables es fs left right Right
    by es [] a b l greater r = absurd cc
    by [] (f ∷ fs) a b l greater r = record {
      taken = f;
      left_behind = [];
      right_behind = fs;
      comes = (refl, refl);
      are_kept = kept_right f [] fs tt (after_first f fs b.ordered);
      fewer = omega arith;
      left_are = l;
      right_are = r;
    }
    by (e ∷ es) (f ∷ fs) a b l greater r =
        let less : slot_cmp f e ≡ Less =
        slots_total.antisymm f e ∙ ap ordering_reverse greater in
        record {
          taken = f;
          left_behind = e ∷ es;
          right_behind = fs;
          comes = (refl, refl);
          are_kept = kept_right f (e ∷ es) fs (after_all f e es less a.ordered)
              (after_first f fs b.ordered);
          fewer = omega arith;
          left_are = l;
          right_are = r;
        }

greater_comes : (e f : Entry) (es fs : List Entry) (greater : Bool)
    → ComesFirst (cond greater LeftOfBoth RightOfBoth) (e ∷ es) (f ∷ fs) (cond greater e f) es fs
greater_comes e f es fs true = (refl, f, refl)
greater_comes e f es fs false = (refl, e, refl)

pub both_taken : (tables : Entries) (es fs : List Entry) (left left' right right' : Unmerged)
    (origin : EntrySource) → AreLeft tables es left → AreLeft tables fs right
    → order_of_firsts (option_map known left.first) (option_map known right.first) ≡ Equal
    → origin ≡ greater_of (option_map known left.first) (option_map known right.first)
    → AreLeft tables (drop 1 es) left' → AreLeft tables (drop 1 fs) right'
    → FirstTaken tables es fs left' right' origin
both_taken tables es fs left left' right right' origin l r equal is l' r' =
    by es fs l.in_order r.in_order
    (sym (ap (λ x. order_of_firsts x (option_map known right.first)) l.first
    ∙ ap (order_of_firsts (first_of es)) r.first) ∙ equal)
    (sym (ap (λ x. greater_of x (option_map known right.first)) l.first
    ∙ ap (greater_of (first_of es)) r.first) ∙ sym is) l' r'
  where
    by : (es fs : List Entry) → AreInOrder tables es → AreInOrder tables fs
        → order_of_firsts (first_of es) (first_of fs) ≡ Equal
        → greater_of (first_of es) (first_of fs) ≡ origin
        → AreLeft tables (drop 1 es) left' → AreLeft tables (drop 1 fs) right'
        → FirstTaken tables es fs left' right' origin
    by es [] a b equal is l r = absurd cc
    by [] (f ∷ fs) a b equal is l r = absurd cc
    by (e ∷ es) (f ∷ fs) a b equal is l r =
        subst (FirstTaken tables (e ∷ es) (f ∷ fs) left' right') is (record {
          taken = cond (is_gt (rank_cmp e f)) e f;
          left_behind = es;
          right_behind = fs;
          comes = greater_comes e f es fs (is_gt (rank_cmp e f));
          are_kept = kept_both_first e f es fs equal (after_first e es a.ordered)
              (after_first f fs b.ordered);
          fewer = omega arith;
          left_are = l;
          right_are = r;
        })

-- ---- the octets of origins

module _ (laws : ReportsAreEntries) (tables : Entries) where
  first_is : (e : Entry) (es : List Entry) → AreInOrder tables (e ∷ es)
      → first_octets (text (e ∷ es)) ≡ e.bytes
  first_is e es a =
      ap octets_or_none (front_is e.bytes (text es) ((laws tables).frame e a.each.0))

  behind_is : (e : Entry) (es : List Entry) → AreInOrder tables (e ∷ es)
      → octets_after_first (text (e ∷ es)) ≡ text es
  behind_is e es a =
      drop_at e.bytes (text es) (length (first_octets (text (e ∷ es))))
      (ap length (sym (first_is e es a)))

  pub hands_first : (origin : EntrySource) (es fs : List Entry) (e : Entry) (left right : List Entry)
      → AreInOrder tables es → AreInOrder tables fs → ComesFirst origin es fs e left right
      → (more : List EntrySource) → handed_out (origin ∷ more) (text es) (text fs)
      ≡ e.bytes ∷ handed_out more (text left) (text right)
  hands_first Left es fs e left right a b comes more =
      let first = subst (AreInOrder tables) comes.0 a in
      ap (λ (es : List Entry). handed_out (Left ∷ more) (text es) (text fs)) comes.0
      ∙ ap (λ (fs : List Entry). handed_out (Left ∷ more) (text (e ∷ left)) (text fs)) comes.1
      ∙ ap (λ (o : List ℕ). o ∷ handed_out more (octets_after_first (text (e ∷ left))) (text right))
      (first_is e left first)
      ∙ ap (λ (o : List ℕ). e.bytes ∷ handed_out more o (text right)) (behind_is e left first)
  hands_first Right es fs e left right a b comes more =
      let first = subst (AreInOrder tables) comes.1 b in
      ap (λ (es : List Entry). handed_out (Right ∷ more) (text es) (text fs)) comes.0
      ∙ ap (λ (fs : List Entry). handed_out (Right ∷ more) (text left) (text fs)) comes.1
      ∙ ap (λ (o : List ℕ). o ∷ handed_out more (text left) (octets_after_first (text (e ∷ right))))
      (first_is e right first)
      ∙ ap (λ (o : List ℕ). e.bytes ∷ handed_out more (text left) o) (behind_is e right first)
  hands_first LeftOfBoth es fs e left right a b comes more =
      let f = comes.1 in
      let first = subst (AreInOrder tables) comes.0 a in
      let other = subst (AreInOrder tables) comes.2 b in
      ap (λ (es : List Entry). handed_out (LeftOfBoth ∷ more) (text es) (text fs)) comes.0
      ∙ ap (λ (fs : List Entry). handed_out (LeftOfBoth ∷ more) (text (e ∷ left)) (text fs))
      comes.2
      ∙ ap (λ (o : List ℕ). o ∷ handed_out more (octets_after_first (text (e ∷ left)))
      (octets_after_first (text (f ∷ right)))) (first_is e left first)
      ∙ ap (λ (o : List ℕ). e.bytes ∷ handed_out more o (octets_after_first (text (f ∷ right))))
      (behind_is e left first)
      ∙ ap (λ (o : List ℕ). e.bytes ∷ handed_out more (text left) o) (behind_is f right other)
  hands_first RightOfBoth es fs e left right a b comes more =
      let f = comes.1 in
      let first = subst (AreInOrder tables) comes.0 b in
      let other = subst (AreInOrder tables) comes.2 a in
      ap (λ (fs : List Entry). handed_out (RightOfBoth ∷ more) (text es) (text fs)) comes.0
      ∙ ap (λ (es : List Entry). handed_out (RightOfBoth ∷ more) (text es) (text (e ∷ right)))
      comes.2
      ∙ ap (λ (o : List ℕ). o ∷ handed_out more (octets_after_first (text (f ∷ left)))
      (octets_after_first (text (e ∷ right)))) (first_is e right first)
      ∙ ap (λ (o : List ℕ). e.bytes ∷ handed_out more o (octets_after_first (text (e ∷ right))))
      (behind_is f left other)
      ∙ ap (λ (o : List ℕ). e.bytes ∷ handed_out more (text left) o) (behind_is e right first)

marks_first : (origin : EntrySource) (es fs : List Entry) (e : Entry) (left right : List Entry)
    → ComesFirst origin es fs e left right → (more : List EntrySource)
    → marks_out (origin ∷ more) (marks_of es) (marks_of fs)
    ≡ mark_of e ∷ marks_out more (marks_of left) (marks_of right)
marks_first Left es fs e left right comes more =
    ap (λ (es : List Entry). marks_out (Left ∷ more) (marks_of es) (marks_of fs)) comes.0
    ∙ ap (λ (fs : List Entry). marks_out (Left ∷ more) (marks_of (e ∷ left)) (marks_of fs)) comes.1
marks_first Right es fs e left right comes more =
    ap (λ (es : List Entry). marks_out (Right ∷ more) (marks_of es) (marks_of fs)) comes.0
    ∙ ap (λ (fs : List Entry). marks_out (Right ∷ more) (marks_of left) (marks_of fs)) comes.1
marks_first LeftOfBoth es fs e left right comes more =
    ap (λ (es : List Entry). marks_out (LeftOfBoth ∷ more) (marks_of es) (marks_of fs)) comes.0
    ∙ ap (λ (fs : List Entry). marks_out (LeftOfBoth ∷ more) (marks_of (e ∷ left)) (marks_of fs))
    comes.2
marks_first RightOfBoth es fs e left right comes more =
    ap (λ (fs : List Entry). marks_out (RightOfBoth ∷ more) (marks_of es) (marks_of fs)) comes.0
    ∙ ap (λ (es : List Entry). marks_out (RightOfBoth ∷ more) (marks_of es) (marks_of (e ∷ right)))
    comes.2

-- the octets of entries
abbrev octets_of : List Entry → List (List ℕ)
octets_of es = map (λ (e : Entry). e.bytes) es

-- ---- step by step

-- the origins of the entries before are known, and these entries are left
pub record ToldSoFar (tables : Entries) (es fs : List Entry) (origins : List EntrySource)
    (left right : Unmerged) (most at : ℕ) : Type 0 where
  pub done : List Entry
  pub left_behind : List Entry
  pub right_behind : List Entry
  pub are_kept : kept (es ++ fs) ≡ done ++ kept (left_behind ++ right_behind)
  pub hands : (more : List EntrySource) → handed_out (origins ++ more) (text es) (text fs)
      ≡ octets_of done ++ handed_out more (text left_behind) (text right_behind)
  pub marks : (more : List EntrySource) → marks_out (origins ++ more) (marks_of es) (marks_of fs)
      ≡ marks_of done ++ marks_out more (marks_of left_behind) (marks_of right_behind)
  pub few : at + (length left_behind + length right_behind) ≤ most
  pub left_are : AreLeft tables left_behind left
  pub right_are : AreLeft tables right_behind right

pub told_none : (tables : Entries) (es fs : List Entry) (origins : List EntrySource)
    (left right : Unmerged) (most : ℕ) → origins ≡ [] → AreLeft tables es left
    → AreLeft tables fs right → length es + length fs ≤ most
    → ToldSoFar tables es fs origins left right most 0
told_none tables es fs origins left right most none l r few = record {
  done = [];
  left_behind = es;
  right_behind = fs;
  are_kept = refl;
  hands = λ more.
      ap (λ (os : List EntrySource). handed_out (os ++ more) (text es) (text fs)) none;
  marks = λ more.
      ap (λ (os : List EntrySource). marks_out (os ++ more) (marks_of es) (marks_of fs)) none;
  few = omega arith;
  left_are = l;
  right_are = r;
}

told_more : ReportsAreEntries → (tables : Entries) (es fs : List Entry) (origins : List EntrySource)
    (origin : EntrySource) (left right left' right' : Unmerged) (most at : ℕ)
    → (s : ToldSoFar tables es fs origins left right most at)
    → FirstTaken tables s.left_behind s.right_behind left' right' origin
    → ToldSoFar tables es fs (origins ++ origin ∷ []) left' right' most (at + 1)
told_more laws tables es fs origins origin left right left' right' most at s t =
    let rest = kept (t.left_behind ++ t.right_behind) in
    let room = s.few in
    let fewer = t.fewer in
    let first = hands_first laws tables origin s.left_behind s.right_behind t.taken t.left_behind
    t.right_behind s.left_are.in_order s.right_are.in_order t.comes in
    record {
      done = s.done ++ t.taken ∷ [];
      left_behind = t.left_behind;
      right_behind = t.right_behind;
      are_kept = s.are_kept ∙ ap (λ (ks : List Entry). s.done ++ ks) t.are_kept
          ∙ sym (append_assoc s.done (t.taken ∷ []) rest);
      hands = λ more.
          let behind = handed_out more (text t.left_behind) (text t.right_behind) in
          ap (λ (os : List EntrySource). handed_out os (text es) (text fs))
          (append_assoc origins (origin ∷ []) more)
          ∙ s.hands (origin ∷ more)
          ∙ ap (λ (os : List (List ℕ)). octets_of s.done ++ os) (first more)
          ∙ sym (append_assoc (octets_of s.done) (t.taken.bytes ∷ []) behind)
          ∙ ap (λ (os : List (List ℕ)). os ++ behind)
          (sym (map-append (λ (e : Entry). e.bytes) s.done (t.taken ∷ [])));
      marks = λ more.
          let behind = marks_out more (marks_of t.left_behind) (marks_of t.right_behind) in
          ap (λ (os : List EntrySource). marks_out os (marks_of es) (marks_of fs))
          (append_assoc origins (origin ∷ []) more)
          ∙ s.marks (origin ∷ more)
          ∙ ap (λ (ms : List SlotView). marks_of s.done ++ ms)
          (marks_first origin s.left_behind s.right_behind t.taken t.left_behind t.right_behind
          t.comes more)
          ∙ sym (append_assoc (marks_of s.done) (mark_of t.taken ∷ []) behind)
          ∙ ap (λ (ms : List SlotView). ms ++ behind)
          (sym (map-append mark_of s.done (t.taken ∷ [])));
      few = omega arith;
      left_are = t.left_are;
      right_are = t.right_are;
    }

told_done : (tables : Entries) (es fs : List Entry) (origins : List EntrySource)
    (left right : Unmerged) (most at : ℕ)
    → (s : ToldSoFar tables es fs origins left right most at)
    → s.left_behind ≡ [] → s.right_behind ≡ [] → HandOutMerged es fs origins
told_done tables es fs origins left right most at s none none_too =
    let all : kept (es ++ fs) ≡ s.done =
    s.are_kept
    ∙ ap (λ (ks : List Entry). s.done ++ kept (ks ++ s.right_behind)) none
    ∙ ap (λ (ks : List Entry). s.done ++ kept ks) none_too ∙ append-nil s.done in
    record {
      octets = ap (λ (os : List EntrySource). handed_out os (text es) (text fs))
          (sym (append-nil origins))
          ∙ s.hands [] ∙ append-nil (octets_of s.done) ∙ ap octets_of (sym all);
      marks = ap (λ (os : List EntrySource). marks_out os (marks_of es) (marks_of fs))
          (sym (append-nil origins))
          ∙ s.marks [] ∙ append-nil (marks_of s.done) ∙ ap marks_of (sym all);
    }

empty : (es : List Entry) → length es ≡ 0 → es ≡ []
empty [] none = refl
empty (e ∷ es) none = absurd (omega arith)

pub told_all : (tables : Entries) (es fs : List Entry) (origins : List EntrySource)
    (left right : Unmerged) (most at : ℕ) → ToldSoFar tables es fs origins left right most at
    → most ≤ at → HandOutMerged es fs origins
told_all tables es fs origins left right most at s all =
    let room = s.few in
    told_done tables es fs origins left right most at s
    (empty s.left_behind (omega arith)) (empty s.right_behind (omega arith))

-- a step from two rests to two others
abbrev pub Takes : Unmerged → Unmerged → Unmerged → Unmerged → Option EntrySource → Type 0
Takes left right left' right' found =
    (tables : Entries) (es fs : List Entry) → AreLeft tables es left → AreLeft tables fs right
    → TakesFirst tables es fs left' right' found

pub told_stops : (tables : Entries) (es fs : List Entry) (origins : List EntrySource)
    (left right left' right' : Unmerged) (found : Option EntrySource) (most at : ℕ)
    → ToldSoFar tables es fs origins left right most at
    → Takes left right left' right' found → found ≡ None → HandOutMerged es fs origins
told_stops tables es fs origins left right left' right' found most at s takes none =
    let n : TakesFirst tables s.left_behind s.right_behind left' right' None =
    subst (TakesFirst tables s.left_behind s.right_behind left' right') none
    (takes tables s.left_behind s.right_behind s.left_are s.right_are) in
    told_done tables es fs origins left right most at s n.0 n.1

pub told_goes_on : ReportsAreEntries → (tables : Entries) (es fs : List Entry)
    (origins origins' : List EntrySource) (origin : EntrySource) (left right left' right' : Unmerged)
    (found : Option EntrySource) (most at : ℕ) → ToldSoFar tables es fs origins left right most at
    → Takes left right left' right' found → found ≡ Some origin
    → origins' ≡ origins ++ origin ∷ []
    → ToldSoFar tables es fs origins' left' right' most (at + 1)
told_goes_on laws tables es fs origins origins' origin left right left' right' found most at s
    takes some is =
    let n : TakesFirst tables s.left_behind s.right_behind left' right' (Some origin) =
    subst (TakesFirst tables s.left_behind s.right_behind left' right') some
    (takes tables s.left_behind s.right_behind s.left_are s.right_are) in
    subst (λ (os : List EntrySource). ToldSoFar tables es fs os left' right' most (at + 1)) (sym is)
    (told_more laws tables es fs origins origin left right left' right' most at s n)

-- ---- the octets joined

joined_text : (es : List Entry) → flat_map (λ (o : List ℕ). o) (octets_of es) ≡ text es
joined_text [] = refl
joined_text (e ∷ es) = ap (λ (xs : List ℕ). e.bytes ++ xs) (joined_text es)

pub merged_are : (es fs : List Entry) (origins : List EntrySource) (octets : List ℕ)
    (marks : List SlotView) → HandOutMerged es fs origins
    → octets ≡ flat_map (λ (o : List ℕ). o) (handed_out origins (text es) (text fs))
    → marks ≡ marks_out origins (marks_of es) (marks_of fs) → AreMerged es fs octets marks
merged_are es fs origins octets marks hand joined out = record {
  text_is = joined
      ∙ ap (λ (os : List (List ℕ)). flat_map (λ (o : List ℕ). o) os) hand.octets
      ∙ joined_text (kept (es ++ fs));
  marked = out ∙ hand.marks;
}

-- A fault in fields or subsets is the first fault of the relation: for the law on first faults.
use Rattle.std.proofs.Common.{◌≡◌, inl, inr, ℕ, zero, suc, ◌+◌, ◌≤◌, false, List, [], ◌∷◌, ◌++◌}
use Rattle.std.proofs.Common.{length, map, codes, Ok, Err, refl, sym, ap, ◌∙◌, subst, arith}
use Rattle.std.proofs.Common.{append_assoc, length-append}
use Rattle.std.specs.List.{flat_map}
use Rattle.std.specs.Str.{bytes_eq}
use Rattle.std.proofs.lemmas.Bool.{cases_Bool}
use Rattle.std.proofs.lemmas.List.{append_cancel_right, map-append}
use Rattle.bufr_expand.specs.Limits.{most_items}
use Rattle.bufr_expand.specs.declared.operators.Spec.{Spec}
use Rattle.bufr_expand.specs.declared.walk.WalkFault.TheVariants.{TooLarge, EffectiveRange}
use Rattle.bufr_expand.specs.Courses.{Course, ends, stops, asks, course}
use Rattle.bufr_expand.specs.Trees.{Tree}
use Rattle.bufr_expand.specs.Unrolling.{After}
use Rattle.bufr_fields.specs.declared.field.Field.{Field}
use Rattle.bufr_fields.specs.declared.field.Subset.{Subset}
use Rattle.bufr_fields.specs.Forms.{number_of, items_of, items_of_all}
use Rattle.bufr_fields.specs.Fits.{told_of}
use Rattle.bufr_fields.specs.Asked.{IsAsked, Passes}
use Rattle.bufr_fields.specs.FormLaws.{asked_is}
use Rattle.bufr_fields.specs.CourseLaws.{Laws, passes_after, begun, limit_passed}
use Rattle.bufr_base.specs.AnswerLaws.{bind_ok, ok_is, bind_err, err_is, passed_ok}
use Rattle.bufr_listing.specs.declared.fault.ListingFault.{ListingFault}
use Rattle.bufr_listing.specs.declared.fault.ListingFault.TheVariants.{BadLine, Refused}
use Rattle.bufr_listing.specs.declared.fault.Cause.TheVariants as causes
use Rattle.bufr_listing.specs.Listings.{field_line, subset_lines}
use Rattle.bufr_listing_reader.specs.Lines.{Line, texts}
use Rattle.bufr_listing_reader.specs.FieldLines.{read_field}
use Rattle.bufr_listing_reader.specs.Reading.{read_line, read_word, FieldsListed, SubsetsListed}
use Rattle.bufr_listing_reader.specs.Reading.{fields_read, subsets_read}
use Rattle.bufr_listing_reader.specs.FirstFaults.{Unfit, text_ends, bad_line, Halted, halted, IsLineOf}
use Rattle.bufr_listing_reader.specs.FirstFaults.{BeginsWith, NoFieldFollows, unfit, no_room, no_spec}
use Rattle.bufr_listing_reader.specs.FirstFaults.{FieldsFault, BeginsOrEnds, SubsetFault, inside}
use Rattle.bufr_listing_reader.specs.FirstFaults.{SubsetsFault}
use Rattle.bufr_listing_reader.proofs.LowerLaws.{LowerLaws}
use Rattle.bufr_listing_reader.proofs.FieldFacts.{bytes_same, same_bytes, read_field_takes}
use Rattle.bufr_listing_reader.proofs.CourseFacts.{AsksPrintable, course_printable}
use Rattle.bufr_listing_reader.proofs.MessageFacts.{none_used}
use Rattle.bufr_listing_reader.proofs.SubsetFacts.{line_takes, FieldsTaken, fields_take}
use Rattle.bufr_listing_reader.proofs.FaultFacts.{line_err, unfit_line, field_err}

-- ---- laws of the crates below

pub record FaultLaws : Type 0 where
  pub lower : LowerLaws
  pub courses : Laws

-- ---- fields, by their course

-- the next line is not what the course asks for
abbrev NextRefused : ℕ → Course → List Line → ListingFault → Type 0
NextRefused past (ends n) rest fault = ⊥
NextRefused past (stops met why) rest fault = Halted why past rest fault
NextRefused past (asks met d spec more) rest fault =
    Unfit (IsLineOf d spec) (BeginsWith d) past rest fault

-- such a line follows the lines of fields that the course asked for
record CourseFault (past : ℕ) (c : Course) (ls : List Line) (fault : ListingFault) : Type 0 where
  before : List Field
  own : List Line
  rest : List Line
  next : Course
  in_order : ls ≡ own ++ rest
  spelled : texts own ≡ map field_line before
  passed : Passes c before next
  refused : NextRefused past next rest fault

here : (past : ℕ) (c : Course) (ls : List Line) (fault : ListingFault)
    → NextRefused past c ls fault → CourseFault past c ls fault
here past c ls fault r =
    record {
      before = [];
      own = [];
      rest = ls;
      next = c;
      in_order = refl;
      spelled = refl;
      passed =
          refl;
      refused = r;
    }

behind_field : (past met d : ℕ) (spec : Spec) (more : ℕ → Course) (l : Line) (f : Field)
    (ls behind : List Line) (fault : ListingFault)
    → ls ≡ l ∷ behind → l.text ≡ field_line f → IsAsked d spec f
    → CourseFault past (more (number_of f.raw)) behind fault
    → CourseFault past (asks met d spec more) ls fault
behind_field past met d spec more l f ls behind fault e is asked r =
    record {
      before = f ∷ r.before;
      own = l ∷ r.own;
      rest = r.rest;
      next = r.next;
      in_order = e ∙ ap (λ xs. l ∷ xs) r.in_order;
      spelled = λ i. is i ∷ r.spelled i;
      passed = (asked, r.passed);
      refused = r.refused;
    }

course_fault : (past : ℕ) (c : Course) (ls : List Line) (fault : ListingFault) → AsksPrintable c
    → fields_read past c ls ≡ Err fault → CourseFault past c ls fault
unfolding fields_read AsksPrintable
course_fault past (ends n) ls fault fit h = absurd cc
course_fault past (stops met why) [] fault fit h =
    here past (stops met why) [] fault
    (text_ends refl (sym (err_is {A = FieldsListed} (BadLine past) fault h)))
course_fault past (stops met why) (l ∷ ls) fault fit h =
    here past (stops met why) (l ∷ ls) fault
    (halted l ls refl
    (sym (err_is {A = FieldsListed} (Refused l.number (causes.Walk why)) fault h)))
course_fault past (asks met d spec more) ls fault fit h =
    elim (bind_err (read_line (read_field d spec) past ls) _ fault h) [
      | inl own ↦
          elim (line_err (read_field d spec) past ls fault own) [
            | inl none ↦ here past (asks met d spec more) ls fault (text_ends none.0 none.1)
            | inr some ↦
                let p = field_err d spec some.0.number some.0.text fault fit.0 some.3 in
                here past (asks met d spec more) ls fault
                (unfit_line (IsLineOf d spec) (BeginsWith d) past ls fault some.0 some.1 some.2
                p.0 p.1)
          ]
      | inr first ↦
          let one = line_takes (read_field d spec) past ls first.0 first.1 in
          let own = read_field_takes d spec one.line.number one.line.text first.0.0 one.reads in
          elim (bind_err (fields_read past (more (number_of first.0.0.raw)) first.0.1) _ fault
          first.2) [
            | inl others ↦
                behind_field past met d spec more one.line first.0.0 ls first.0.1 fault one.front
                own.0 (asked_is d spec first.0.0 own.1)
                (course_fault past (more (number_of first.0.0.raw)) first.0.1 fault
                (fit.1 (number_of first.0.0.raw)) others)
            | inr all ↦ absurd cc
          ]
    ]

-- ---- fields, by the tree

-- if the course refuses the next line, no field follows
follows : FaultLaws → (tree : Tree) (used past : ℕ) (before : List Field) (next : Course)
    (rest : List Line) (fault : ListingFault)
    → used ≤ most_items → After (course tree used) (map told_of before) next
    → NextRefused past next rest fault → NoFieldFollows tree used before past rest fault
follows laws tree used past before (ends n) rest fault le after h = absurd h
follows laws tree used past before (stops n TooLarge) rest fault le after h =
    no_room (limit_passed laws.courses tree used n (map told_of before) le after) h
follows laws tree used past before (stops n (EffectiveRange d)) rest fault le after h =
    no_spec d n ((laws.courses.lacking tree used (map told_of before) n d le).0 after) h
follows laws tree used past before (asks met d spec more) rest fault le after h =
    unfit d met spec
    ((laws.courses.asked tree used (map told_of before) met d spec le).0 (more, after)) h

pub fields_fault : FaultLaws → (tree : Tree) (used past : ℕ) (ls : List Line)
    (fault : ListingFault) → used ≤ most_items → fields_read past (course tree used) ls ≡ Err fault
    → FieldsFault tree used past ls fault
fields_fault laws tree used past ls fault le h =
    let r = course_fault past (course tree used) ls fault
    (course_printable laws.lower.specs tree used) h in
    record {
      before = r.before;
      own = r.own;
      rest = r.rest;
      in_order = r.in_order;
      spelled = r.spelled;
      begin = begun laws.courses tree used r.before r.next le r.passed;
      refused = follows laws tree used past r.before r.next r.rest fault le
          (passes_after (course tree used) r.before r.next r.passed).0 r.refused;
    }

-- ---- subsets

pub record IsBehind (ls rest : List Line) : Type 0 where
  pub own : List Line
  pub in_order : ls ≡ own ++ rest

pub fields_behind : (past : ℕ) (c : Course) (ls : List Line) (r : FieldsListed)
    → fields_read past c ls ≡ Ok r → IsBehind ls r.rest
unfolding fields_read
fields_behind past (ends n) ls r h =
    subst (λ (r : FieldsListed). IsBehind ls r.rest) (ok_is _ _ h)
    (record { own = []; in_order = refl })
fields_behind past (stops met fault) [] r h = absurd cc
fields_behind past (stops met fault) (l ∷ ls) r h = absurd cc
fields_behind past (asks met d spec more) ls r h =
    let p = bind_ok (read_line (read_field d spec) past ls) _ r h in
    let q = bind_ok (fields_read past (more (number_of p.0.0.raw)) p.0.1) _ r p.2 in
    let one = line_takes (read_field d spec) past ls p.0 p.1 in
    let others = fields_behind past (more (number_of p.0.0.raw)) p.0.1 q.0 q.1 in
    subst (λ (r : FieldsListed). IsBehind ls r.rest) (ok_is _ _ q.2)
    (record {
      own = one.line ∷ others.own;
      in_order = one.front
          ∙ ap (λ xs. one.line ∷ xs) others.in_order;
    })

pub same_front : (own rest : List Line) (front : List (List ℕ)) → texts (own ++ rest)
    ≡ front ++ texts rest → texts own ≡ front
same_front own rest front e =
    append_cancel_right (texts own) front (texts rest)
    (sym (map-append (λ (l : Line). l.text) own rest) ∙ e)

-- subsets, and then the first fault
pub record LaterFault (tree : Tree) (j used past : ℕ) (ls : List Line) (fault : ListingFault) :
    Type 0 where
  pub before : List Subset
  pub items : ℕ
  pub own : List Line
  pub rest : List Line
  pub in_order : ls ≡ own ++ rest
  pub spelled : texts own ≡ flat_map subset_lines before
  pub fit : items_of_all (course tree) j used before ≡ Ok items
  pub refused : SubsetFault tree items past rest fault

fault_here : (tree : Tree) (j used past : ℕ) (ls : List Line) (fault : ListingFault)
    → SubsetFault tree used past ls fault → LaterFault tree j used past ls fault
unfolding items_of_all
fault_here tree j used past ls fault r =
    record {
      before = [];
      items = used;
      own = [];
      rest = ls;
      in_order = refl;
      spelled = refl;
      fit = refl;
      refused = r;
    }

pub not_title : (text word : List ℕ) → bytes_eq text word ≡ false → text ≡ word → ⊥
not_title text word e is = let t = same_bytes text word is in absurd cc

neither : (text : List ℕ) → bytes_eq text (codes "end") ≡ false → bytes_eq text (codes "subset")
    ≡ false → BeginsOrEnds text → ⊥
neither text e s (inl is) = not_title text (codes "subset") s is
neither text e s (inr is) = not_title text (codes "end") e is

pub word_err : (word : List ℕ) (n : ℕ) (text : List ℕ) (fault : ListingFault)
    → read_word word n text ≡ Err fault → (bytes_eq text word ≡ false) × (BadLine n ≡ fault)
word_err word n text fault h = elim (cases_Bool (bytes_eq text word)) [
  | inl is ↦ let g = rw (is) at h in absurd cc
  | inr other ↦ let g = rw (other) at h in (other, err_is {A = Unit {0}} (BadLine n) fault g)
]

few_items : FaultLaws → (tree : Tree) (used items : ℕ) (fields : List Field) → used ≤ most_items
    → items_of 1 1 (course tree used) fields ≡ Ok items → items ≤ most_items
unfolding items_of_all
few_items laws tree used items fields le h =
    let one : items_of_all (course tree) 1 used (record { fields = fields } ∷ []) ≡ Ok items =
    rw h refl in
    (laws.lower.fit tree 1 used items (record { fields = fields } ∷ []) le one).3

subset_before : (tree : Tree) (j used past : ℕ) (l : Line) (ls : List Line) (first : FieldsListed)
    (fault : ListingFault) → l.text ≡ codes "subset" → IsBehind ls first.rest
    → FieldsTaken j 1 (course tree used) ls first
    → LaterFault tree (j + 1) first.items past first.rest fault → LaterFault tree j used past
    (l ∷ ls) fault
unfolding items_of_all
subset_before tree j used past l ls first fault title behind taken r =
    let own : texts behind.own ≡ map field_line first.fields =
    same_front behind.own first.rest (map field_line first.fields) (sym (ap texts behind.in_order)
    ∙ taken.front) in
    let spelled : texts (behind.own ++ r.own) ≡ map field_line first.fields ++ flat_map
    subset_lines r.before = map-append (λ (l : Line). l.text) behind.own r.own
    ∙ (λ i. own i ++ r.spelled i) in
    record {
      before = record { fields = first.fields } ∷ r.before;
      items = r.items;
      own = l ∷ behind.own ++ r.own;
      rest = r.rest;
      in_order =
          ap (λ xs. l ∷ xs) (behind.in_order ∙ ap (λ xs. behind.own ++ xs) r.in_order
          ∙ sym (append_assoc behind.own r.own r.rest));
      spelled = λ i. title i ∷ spelled i;
      fit = rw taken.fit r.fit;
      refused = r.refused;
    }

not_longer : (ls own rest : List Line) (n : ℕ) → ls ≡ own ++ rest → length ls ≤ n → length rest ≤ n
not_longer ls own rest n e few = let same = ap length e in let sum = length-append own rest in
    omega (arith, same, sum, few)

later_fault : FaultLaws → (left past j : ℕ) (tree : Tree) (used : ℕ) (ls : List Line)
    (fault : ListingFault)
    → length ls ≤ left → used ≤ most_items → subsets_read left past (course tree) used ls
    ≡ Err fault → LaterFault tree j used past ls fault
unfolding subsets_read
later_fault laws zero past j tree used [] fault few le h =
    fault_here tree j used past [] fault
    (unfit (text_ends refl (sym (err_is {A = SubsetsListed} (BadLine past) fault h))))
later_fault laws (suc left) past j tree used [] fault few le h =
    fault_here tree j used past [] fault
    (unfit (text_ends refl (sym (err_is {A = SubsetsListed} (BadLine past) fault h))))
later_fault laws zero past j tree used (l ∷ ls) fault few le h = absurd (omega (arith, few))
later_fault laws (suc left) past j tree used (l ∷ ls) fault few le h =
    elim (cases_Bool (bytes_eq l.text (codes "end"))) [
      | inl is ↦ let g = rw (subsets_read, is) at h in absurd cc
      | inr other ↦
          let g = rw (subsets_read, other) at h in
          elim (bind_err (read_word (codes "subset") l.number l.text) _ fault g) [
            | inl e ↦
                let p = word_err (codes "subset") l.number l.text fault e in
                fault_here tree j used past (l ∷ ls) fault
                (unfit (bad_line l ls refl (neither l.text other p.0) (λ k. k) (sym p.1)))
            | inr begin ↦
                let title =
                bytes_same l.text (codes "subset")
                (passed_ok (bytes_eq l.text (codes "subset")) tt _ begin.0 begin.1).0 in
                elim (bind_err (fields_read past (course tree used) ls) _ fault begin.2) [
                  | inl e ↦
                      fault_here tree j used past (l ∷ ls) fault
                      (inside l ls refl title (fields_fault laws tree used past ls fault le e))
                  | inr first ↦
                      let behind = fields_behind past (course tree used) ls first.0 first.1 in
                      let taken = fields_take past j 1 (course tree used) ls first.0 first.1 in
                      let one = fields_take past 1 1 (course tree used) ls first.0 first.1 in
                      elim (bind_err
                      (subsets_read left past (course tree) first.0.items first.0.rest) _ fault
                      first.2) [
                        | inl e ↦
                            subset_before tree j used past l ls first.0 fault title behind taken
                            (later_fault laws left past (j + 1) tree first.0.items first.0.rest
                            fault (not_longer ls behind.own first.0.rest left behind.in_order
                            (omega (arith, few)))
                            (few_items laws tree used first.0.items first.0.fields le one.fit) e)
                        | inr all ↦ absurd cc
                      ]
                ]
          ]
    ]

-- the fault of reading subsets is their first
pub subsets_fault : FaultLaws → (tree : Tree) (past : ℕ) (ls : List Line) (fault : ListingFault)
    → subsets_read (length ls) past (course tree) 0 ls ≡ Err fault → SubsetsFault tree past ls fault
subsets_fault laws tree past ls fault h =
    let r = later_fault laws (length ls) past 1 tree 0 ls fault (omega arith) none_used h in
    record {
      before = r.before;
      items = r.items;
      own = r.own;
      rest = r.rest;
      in_order = r.in_order;
      spelled = r.spelled;
      fit = laws.lower.fit tree 1 0 r.items r.before none_used r.fit;
      refused = r.refused;
    }

pub subsets_behind : (left past : ℕ) (course : ℕ → Course) (used : ℕ) (ls : List Line)
    (r : SubsetsListed) → subsets_read left past course used ls ≡ Ok r → IsBehind ls r.rest
unfolding subsets_read
subsets_behind zero past course used [] r h = absurd cc
subsets_behind (suc left) past course used [] r h = absurd cc
subsets_behind zero past course used (l ∷ ls) r h = absurd cc
subsets_behind (suc left) past course used (l ∷ ls) r h =
    elim (cases_Bool (bytes_eq l.text (codes "end"))) [
      | inl is ↦
          let g = rw (subsets_read, is) at h in
          subst (λ (r : SubsetsListed). IsBehind (l ∷ ls) r.rest) (ok_is _ _ g)
          (record { own = l ∷ []; in_order = refl })
      | inr other ↦
          let g = rw (subsets_read, other) at h in
          let begin = bind_ok (read_word (codes "subset") l.number l.text) _ r g in
          let first = bind_ok (fields_read past (course used) ls) _ r begin.2 in
          let rest =
          bind_ok (subsets_read left past course first.0.items first.0.rest) _ r first.2 in
          let own = fields_behind past (course used) ls first.0 first.1 in
          let others = subsets_behind left past course first.0.items first.0.rest rest.0 rest.1 in
          subst (λ (r : SubsetsListed). IsBehind (l ∷ ls) r.rest) (ok_is _ _ rest.2)
          (record {
            own = l ∷ own.own ++ others.own;
            in_order =
                ap (λ xs. l ∷ xs) (own.in_order ∙ ap (λ xs. own.own ++ xs) others.in_order
                ∙ sym (append_assoc own.own others.own rest.0.rest));
          })
    ]

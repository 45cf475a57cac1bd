-- Reading lines returns the fields and subsets that they spell: for the laws of listings.
use Rattle.std.proofs.Common.{◌≡◌, ℕ, zero, suc, ◌+◌, ◌<◌, false, List, [], ◌∷◌, ◌++◌}
use Rattle.std.proofs.Common.{length, map, get_or, drop, codes, refl, sym, ap, ◌∙◌, subst, arith}
use Rattle.std.proofs.Common.{append_assoc, inl, inr}
use Rattle.std.specs.Prelude.{Result, Ok}
use Rattle.std.specs.List.{flat_map}
use Rattle.std.specs.Str.{bytes_eq}
use Rattle.std.proofs.lemmas.Bool.{cases_Bool}
use Rattle.bufr_base.specs.Answers.{◌>>=◌}
use Rattle.bufr_expand.specs.Courses.{Course, ends, stops, asks}
use Rattle.bufr_fields.specs.declared.field.Field.{Field}
use Rattle.bufr_fields.specs.declared.field.Subset.{Subset}
use Rattle.bufr_fields.specs.Forms.{number_of, matches_spec, items_of, items_of_all}
use Rattle.bufr_base.specs.AnswerLaws.{bind_ok, ok_is, passed_ok}
use Rattle.bufr_listing.specs.declared.fault.ListingFault.{ListingFault}
use Rattle.bufr_listing.specs.Listings.{field_line, subset_lines}
use Rattle.bufr_listing_reader.specs.Lines.{Line, texts}
use Rattle.bufr_listing_reader.specs.FieldLines.{read_field}
use Rattle.bufr_listing_reader.specs.Reading.{with_rest, read_line, read_word, FieldsListed, SubsetsListed}
use Rattle.bufr_listing_reader.specs.Reading.{fields_read, subsets_read}
use Rattle.bufr_listing_reader.proofs.FieldFacts.{bytes_same, same_bytes, if_answered}
use Rattle.bufr_listing_reader.proofs.FieldFacts.{read_field_back, read_field_takes}
use Rattle.bufr_listing_reader.proofs.CourseFacts.{AsksPrintable}

-- ---- one line

-- the line as read
pub record LineTaken {A : Type 0} (read : ℕ → List ℕ → Result A ListingFault) (ls : List Line)
    (a : A) (rest : List Line) : Type 0 where
  pub line : Line
  pub front : ls ≡ line ∷ rest
  pub reads : read line.number line.text ≡ Ok a

pub line_takes : {A : Type 0} (read : ℕ → List ℕ → Result A ListingFault) (past : ℕ)
    (ls : List Line) (x : A × List Line) → read_line read past ls ≡ Ok x → LineTaken read ls x.0 x.1
line_takes read past [] x h = absurd cc
line_takes {A} read past (l ∷ ls) x h =
    let p = bind_ok (read l.number l.text) (with_rest ls) x h in
    let e : (p.0, ls) ≡ x = ok_is (p.0, ls) x p.2 in
    record {
      line = l;
      front = ap (λ (y : A × List Line). l ∷ y.1) e;
      reads = p.1
          ∙ ap (λ (y : A × List Line). Ok y.0) e;
    }

-- the lines after a line that spells the result
pub record LineBack {A : Type 0} (read : ℕ → List ℕ → Result A ListingFault) (past : ℕ)
    (ls : List Line) (a : A) (others : List (List ℕ)) : Type 0 where
  pub rest : List Line
  pub reads : read_line read past ls ≡ with_rest rest a
  pub same : texts rest ≡ others

pub line_back : {A : Type 0} (read : ℕ → List ℕ → Result A ListingFault) (past : ℕ)
    (ls : List Line) (text : List ℕ) (others : List (List ℕ)) (a : A)
    → ((n : ℕ) → read n text ≡ Ok a) → texts ls ≡ text ∷ others → LineBack read past ls a others
line_back read past [] text others a each e = absurd cc
line_back read past (l ∷ ls) text others a each e =
    let first : l.text ≡ text = ap (λ xs. get_or xs 0 []) e in
    let own : read l.number l.text ≡ Ok a =
    subst (λ t. read l.number t ≡ Ok a) (sym first) (each l.number) in
    record { rest = ls; reads = ap (λ r. r >>= with_rest ls) own; same = ap (λ xs. drop 1 xs) e }

-- ---- fields

-- the lines of fields as read, which fit
pub record FieldsTaken (j i : ℕ) (c : Course) (ls : List Line) (r : FieldsListed) : Type 0 where
  pub front : texts ls ≡ map field_line r.fields ++ texts r.rest
  pub fit : items_of j i c r.fields ≡ Ok r.items

pub fields_take : (past j i : ℕ) (c : Course) (ls : List Line) (r : FieldsListed)
    → fields_read past c ls ≡ Ok r → FieldsTaken j i c ls r
unfolding fields_read items_of
fields_take past j i (ends n) ls r h =
    subst (λ r. FieldsTaken j i (ends n) ls r) (ok_is _ _ h) (record { front = refl; fit = refl })
fields_take past j i (stops met fault) [] r h = absurd cc
fields_take past j i (stops met fault) (l ∷ ls) r h = absurd cc
fields_take past j i (asks met d spec more) ls r h =
    let p = bind_ok (read_line (read_field d spec) past ls) _ r h in
    let q = bind_ok (fields_read past (more (number_of p.0.0.raw)) p.0.1) _ r p.2 in
    let one = line_takes (read_field d spec) past ls p.0 p.1 in
    let own = read_field_takes d spec one.line.number one.line.text p.0.0 one.reads in
    let others = fields_take past j (i + 1) (more (number_of p.0.0.raw)) p.0.1 q.0 q.1 in
    subst (λ r. FieldsTaken j i (asks met d spec more) ls r) (ok_is _ _ q.2) (record {
      front = ap texts one.front ∙ (λ k. own.0 k ∷ others.front k);
      fit = rw own.1 others.fit;
    })

pub record FieldsBack (past : ℕ) (c : Course) (ls : List Line) (fields : List Field) (items : ℕ)
    (others : List (List ℕ)) : Type 0 where
  pub rest : List Line
  pub reads : fields_read past c ls ≡ Ok (record { fields = fields; items = items; rest = rest })
  pub same : texts rest ≡ others

pub fields_back : (past j i : ℕ) (c : Course) (ls : List Line) (fields : List Field) (items : ℕ)
    (others : List (List ℕ))
    → AsksPrintable c → items_of j i c fields ≡ Ok items
    → texts ls ≡ map field_line fields ++ others → FieldsBack past c ls fields items others
unfolding fields_read items_of AsksPrintable
fields_back past j i (ends n) ls [] items others fit h e =
    record {
      rest = ls;
      reads = ap (λ (m : ℕ). Ok (record { fields = []; items = m; rest = ls }))
          (ok_is _ _ h);
      same = e;
    }
fields_back past j i (ends n) ls (f ∷ fields) items others fit h e = absurd cc
fields_back past j i (stops met fault) ls fields items others fit h e = absurd cc
fields_back past j i (asks met d spec more) ls [] items others fit h e = absurd cc
fields_back past j i (asks met d spec more) ls (f ∷ fields) items others fit h e =
    let p = if_answered (matches_spec d spec f) (items_of j (i + 1) (more (number_of f.raw)) fields) _
    items h in
    let one =
    line_back (read_field d spec) past ls (field_line f) (map field_line fields ++ others) f
    (λ n. read_field_back d spec n f fit.0 p.0) e in
    let more_back =
    fields_back past j (i + 1) (more (number_of f.raw)) one.rest fields items others
    (fit.1 (number_of f.raw)) p.1 one.same in
    record {
      rest = more_back.rest;
      reads = rw (one.reads, more_back.reads) refl;
      same =
          more_back.same;
    }

-- ---- subsets

-- the lines of subsets as read, which fit
pub record SubsetsTaken (j : ℕ) (course : ℕ → Course) (used : ℕ) (ls : List Line)
    (r : SubsetsListed) : Type 0 where
  pub front : texts ls ≡ flat_map subset_lines r.subsets ++ codes "end" ∷ texts r.rest
  pub fit : items_of_all course j used r.subsets ≡ Ok r.items

pub subsets_take : (left past j : ℕ) (course : ℕ → Course) (used : ℕ) (ls : List Line)
    (r : SubsetsListed) → subsets_read left past course used ls ≡ Ok r
    → SubsetsTaken j course used ls r
unfolding subsets_read items_of_all
subsets_take zero past j course used [] r h = absurd cc
subsets_take (suc left) past j course used [] r h = absurd cc
subsets_take zero past j course used (l ∷ ls) r h = absurd cc
subsets_take (suc left) past j course used (l ∷ ls) r h =
    elim (cases_Bool (bytes_eq l.text (codes "end"))) [
      | inl is ↦
          let g = rw (subsets_read, is) at h in
          subst (λ r. SubsetsTaken j course used (l ∷ ls) r) (ok_is _ _ g)
          (record { front = λ k. bytes_same l.text (codes "end") is k ∷ texts ls; fit = refl })
      | inr other ↦
          let g = rw (subsets_read, other) at h in
          let begin = bind_ok (read_word (codes "subset") l.number l.text) _ r g in
          let title =
          bytes_same l.text (codes "subset")
          (passed_ok (bytes_eq l.text (codes "subset")) tt _ begin.0 begin.1).0 in
          let first = bind_ok (fields_read past (course used) ls) _ r begin.2 in
          let rest =
          bind_ok (subsets_read left past course first.0.items first.0.rest) _ r first.2 in
          let own = fields_take past j 1 (course used) ls first.0 first.1 in
          let others =
          subsets_take left past (j + 1) course first.0.items first.0.rest rest.0 rest.1 in
          let lines = own.front ∙ ap (λ xs. map field_line first.0.fields ++ xs) others.front
          ∙ sym (append_assoc (map field_line first.0.fields)
          (flat_map subset_lines rest.0.subsets) (codes "end" ∷ texts rest.0.rest)) in
          subst (λ r. SubsetsTaken j course used (l ∷ ls) r) (ok_is _ _ rest.2) (record {
            front = λ k. title k ∷ lines k;
            fit = rw own.fit others.fit;
          })
    ]

pub record SubsetsBack (left past : ℕ) (course : ℕ → Course) (used : ℕ) (ls : List Line)
    (subsets : List Subset) (items : ℕ) (others : List (List ℕ)) : Type 0 where
  pub rest : List Line
  pub reads : subsets_read left past course used ls
      ≡ Ok (record { subsets = subsets; items = items; rest = rest })
  pub same : texts rest ≡ others

pub subsets_back : (left past j : ℕ) (course : ℕ → Course) (used : ℕ) (ls : List Line)
    (subsets : List Subset) (items : ℕ) (others : List (List ℕ))
    → ((n : ℕ) → AsksPrintable (course n)) → length subsets < left
    → items_of_all course j used subsets ≡ Ok items
    → texts ls ≡ flat_map subset_lines subsets ++ codes "end" ∷ others
    → SubsetsBack left past course used ls subsets items others
unfolding subsets_read items_of_all
subsets_back zero past j course used ls subsets items others fit few h e =
    absurd (omega (arith, few))
subsets_back (suc left) past j course used [] [] items others fit few h e = absurd cc
subsets_back (suc left) past j course used [] (s ∷ subsets) items others fit few h e = absurd cc
subsets_back (suc left) past j course used (l ∷ ls) [] items others fit few h e =
    let first : l.text ≡ codes "end" = ap (λ xs. get_or xs 0 []) e in
    record {
      rest = ls;
      reads = rw (subsets_read, same_bytes l.text (codes "end") first)
          (ap (λ (m : ℕ). Ok (record { subsets = []; items = m; rest = ls })) (ok_is used items h));
      same = ap (λ xs. drop 1 xs) e;
    }
subsets_back (suc left) past j course used (l ∷ ls) (s ∷ subsets) items others fit few h e =
    let first : l.text ≡ codes "subset" = ap (λ xs. get_or xs 0 []) e in
    let not_end : bytes_eq l.text (codes "end") ≡ false =
    subst (λ t. bytes_eq t (codes "end") ≡ false) (sym first) refl in
    let tail : texts ls ≡ map field_line s.fields ++ (flat_map subset_lines subsets ++ codes "end"
    ∷ others) =
    ap (λ xs. drop 1 xs) e ∙ append_assoc (map field_line s.fields)
    (flat_map subset_lines subsets) (codes "end" ∷ others) in
    let p = bind_ok (items_of j 1 (course used) s.fields) _ items h in
    let own =
    fields_back past j 1 (course used) ls s.fields p.0
    (flat_map subset_lines subsets ++ codes "end" ∷ others) (fit used) p.1 tail in
    let more = subsets_back left past (j + 1) course p.0 own.rest subsets items others fit
    (omega (arith, few)) p.2 own.same in
    record {
      rest = more.rest;
      reads =
          rw (
            subsets_read,
            not_end,
            same_bytes l.text (codes "subset") first,
            own.reads,
            more.reads,
          )
          refl;
      same = more.same;
    }

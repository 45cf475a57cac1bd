-- Reading returns the first fault of fields and subsets, the converse of FaultFields.
use Rattle.std.proofs.Common.{◌≡◌, inl, inr, ℕ, zero, suc, ◌+◌, ◌≤◌, false}
use Rattle.std.proofs.Common.{List, [], ◌∷◌, ◌++◌, length, length-append, map, get_or, drop, codes}
use Rattle.std.proofs.Common.{Result, Ok, Err, refl, sym, ap, ◌∙◌, subst, arith, append_assoc}
use Rattle.std.specs.List.{flat_map}
use Rattle.std.specs.Str.{bytes_eq}
use Rattle.std.proofs.lemmas.List.{map-append}
use Rattle.bufr_base.specs.Answers.{◌>>=◌}
use Rattle.bufr_expand.specs.Limits.{most_items}
use Rattle.bufr_expand.specs.declared.operators.Spec.{Spec}
use Rattle.bufr_expand.specs.declared.walk.WalkFault.{WalkFault}
use Rattle.bufr_expand.specs.declared.walk.WalkFault.TheVariants.{TooLarge, EffectiveRange}
use Rattle.bufr_expand.specs.Courses.{Course, ends, stops, asks, course}
use Rattle.bufr_expand.specs.Trees.{Tree}
use Rattle.bufr_expand.specs.Unrolling.{After}
use Rattle.bufr_expand.specs.NextFields.{AsksAfter}
use Rattle.bufr_fields.specs.declared.field.Field.{Field}
use Rattle.bufr_fields.specs.declared.field.Subset.{Subset}
use Rattle.bufr_fields.specs.Forms.{number_of, items_of, items_of_all}
use Rattle.bufr_fields.specs.Fits.{HasForm, told_of}
use Rattle.bufr_fields.specs.Asked.{Passes}
use Rattle.bufr_fields.specs.FormLaws.{asked_is, asked_passes}
use Rattle.bufr_fields.specs.CourseLaws.{Formed, passes_after, one_left}
use Rattle.bufr_base.specs.AnswerLaws.{bind_ok}
use Rattle.bufr_listing.specs.declared.fault.ListingFault.{ListingFault}
use Rattle.bufr_listing.specs.declared.fault.ListingFault.TheVariants.{BadLine}
use Rattle.bufr_listing.specs.Listings.{field_line, subset_lines}
use Rattle.bufr_listing_reader.specs.Lines.{Line, texts}
use Rattle.bufr_listing_reader.specs.FieldLines.{read_field}
use Rattle.bufr_listing_reader.specs.Reading.{with_rest, read_line}
use Rattle.bufr_listing_reader.specs.Reading.{fields_read, subsets_read}
use Rattle.bufr_listing_reader.specs.FirstFaults.{Unfit, text_ends, Halted, halted, IsLineOf, BeginsWith}
use Rattle.bufr_listing_reader.specs.FirstFaults.{NoFieldFollows, unfit, no_room, no_spec, FieldsFault}
use Rattle.bufr_listing_reader.specs.FirstFaults.{BeginsOrEnds, SubsetFault, inside, SubsetsFault}
use Rattle.bufr_listing_reader.proofs.FieldFacts.{IsPrintable, same_bytes, other_bytes}
use Rattle.bufr_listing_reader.proofs.FieldFacts.{read_field_takes, read_field_back}
use Rattle.bufr_listing_reader.proofs.CourseFacts.{AsksPrintable, course_printable}
use Rattle.bufr_listing_reader.proofs.SubsetFacts.{fields_back}
use Rattle.bufr_listing_reader.proofs.LoopFacts.{goes_on, fails_on}
use Rattle.bufr_listing_reader.proofs.FaultFacts.{field_err}
use Rattle.bufr_listing_reader.proofs.FaultFields.{FaultLaws}
use Rattle.bufr_listing_reader.proofs.FaultFields.{IsBehind, fields_behind}
use Rattle.bufr_listing_reader.proofs.RefusedLines.{only_bad_line, unfit_at_end, unfit_at_line, Decides}
use Rattle.bufr_listing_reader.proofs.RefusedLines.{unfit_read, cut_lines, same_behind}

-- ---- fields, by their course

-- a course asks in turn for fields with which a subset can begin
asked_in_turn : (c : Course) (fields : List Field) → Formed fields
    → ((before others : List Field) (f : Field) → fields ≡ before ++ f ∷ others
    → (met : ℕ) × AsksAfter c (map told_of before) met f.fxy f.spec)
    → (next : Course) × Passes c fields next
unfolding After
asked_in_turn c [] formed each = (c, refl)
asked_in_turn (ends n) (f ∷ fields) formed each =
    let a = each [] fields f refl in
    let e : ◌≡◌ {A = Course} (ends n) (asks a.0 f.fxy f.spec a.1.0) = a.1.1 in
    absurd cc
asked_in_turn (stops n w) (f ∷ fields) formed each =
    let a = each [] fields f refl in
    let e : ◌≡◌ {A = Course} (stops n w) (asks a.0 f.fxy f.spec a.1.0) = a.1.1 in
    absurd cc
asked_in_turn (asks met d spec more) (f ∷ fields) formed each =
    let a = each [] fields f refl in
    let e : ◌≡◌ {A = Course} (asks met d spec more) (asks a.0 f.fxy f.spec a.1.0) = a.1.1 in
    let own : f.fxy ≡ d = cc in
    let same : f.spec ≡ spec = cc in
    let later = asked_in_turn (more (number_of f.raw)) fields formed.1
    (λ before others g is.
    let b = each (f ∷ before) others g (ap (λ (fs : List Field). f ∷ fs) is) in
    (b.0, (b.1.0, b.1.1.2))) in (
      later.0,
      ((own, same, subst (λ (s : Spec). HasForm s f.raw) same formed.0), later.1),
    )

printable_behind : (c : Course) (fields : List Field) (next : Course) → AsksPrintable c
    → Passes c fields next → AsksPrintable next
unfolding AsksPrintable
printable_behind c [] next fit h = subst (λ (k : Course). AsksPrintable k) h fit
printable_behind (ends n) (f ∷ fields) next fit h = absurd h
printable_behind (stops n w) (f ∷ fields) next fit h = absurd h
printable_behind (asks met d spec more) (f ∷ fields) next fit h =
    printable_behind (more (number_of f.raw)) fields next (fit.1 (number_of f.raw)) h.1

-- after their lines, a fault of the rest is the fault
behind_fields_fails : (past : ℕ) (c : Course) (fields : List Field) (next : Course)
    (own rest : List Line) (fault : ListingFault) → AsksPrintable c → Passes c fields next
    → texts own ≡ map field_line fields → fields_read past next rest ≡ Err fault
    → fields_read past c (own ++ rest) ≡ Err fault
unfolding fields_read AsksPrintable
behind_fields_fails past c [] next [] rest fault fit passed e h =
    ap (λ (k : Course). fields_read past k rest) passed ∙ h
behind_fields_fails past c [] next (l ∷ own) rest fault fit passed e h = absurd cc
behind_fields_fails past (ends n) (f ∷ fields) next own rest fault fit passed e h = absurd passed
behind_fields_fails past (stops n w) (f ∷ fields) next own rest fault fit passed e h =
    absurd passed
behind_fields_fails past (asks met d spec more) (f ∷ fields) next [] rest fault fit passed e h =
    absurd cc
behind_fields_fails past (asks met d spec more) (f ∷ fields) next
    (l ∷ own) rest fault fit passed e h =
    let first : l.text ≡ field_line f = ap (λ xs. get_or xs 0 []) e in
    let reads : read_field d spec l.number l.text ≡ Ok f =
    subst (λ (t : List ℕ). read_field d spec l.number t ≡ Ok f) (sym first)
    (read_field_back d spec l.number f fit.0 (asked_passes d spec f passed.0)) in
    let line : read_line (read_field d spec) past (l ∷ own ++ rest) ≡ Ok (f, own ++ rest) =
    ap (λ (r : Result Field ListingFault). r >>= with_rest (own ++ rest)) reads in
    let later =
    behind_fields_fails past (more (number_of f.raw)) fields next own rest fault
    (fit.1 (number_of f.raw)) passed.1 (ap (λ xs. drop 1 xs) e) h in
    goes_on (read_line (read_field d spec) past (l ∷ own ++ rest)) _ (f, own ++ rest) _ line
    (fails_on (fields_read past (more (number_of f.raw)) (own ++ rest)) _ fault later)

halted_read : (met past : ℕ) (why : WalkFault) (rest : List Line) (fault : ListingFault)
    → Halted why past rest fault → fields_read past (stops met why) rest ≡ Err fault
unfolding fields_read
halted_read met past why rest fault (text_ends none is) =
    ap (λ (ls : List Line). fields_read past (stops met why) ls) none ∙ ap Err (sym is)
halted_read met past why rest fault (halted l behind e is) =
    ap (λ (ls : List Line). fields_read past (stops met why) ls) e ∙ ap Err (sym is)

field_decides : (d : ℕ) (spec : Spec) (l : Line) → IsPrintable spec
    → Decides (IsLineOf d spec) (BeginsWith d) (read_field d spec) l
field_decides d spec l fit =
    record {
      stands = λ f h.
          let t = read_field_takes d spec l.number l.text f h in
          (f, asked_is d spec f t.1, t.0);
      refused = λ fault h none. (field_err d spec l.number l.text fault fit h).1;
    }

field_refused : (met past d : ℕ) (spec : Spec) (more : ℕ → Course) (rest : List Line)
    (fault : ListingFault) → AsksPrintable (asks met d spec more)
    → Unfit (IsLineOf d spec) (BeginsWith d) past rest fault
    → fields_read past (asks met d spec more) rest ≡ Err fault
unfolding fields_read AsksPrintable
field_refused met past d spec more rest fault fit h =
    fails_on (read_line (read_field d spec) past rest) _ fault
    (unfit_read (IsLineOf d spec) (BeginsWith d) (read_field d spec) past rest fault
    (λ l behind e. field_decides d spec l fit.0) h)

-- ---- fields, by the tree

no_field_read : FaultLaws → (tree : Tree) (used past : ℕ) (before : List Field) (next : Course)
    (rest : List Line) (fault : ListingFault) → used ≤ most_items
    → After (course tree used) (map told_of before) next → AsksPrintable next
    → NoFieldFollows tree used before past rest fault → fields_read past next rest ≡ Err fault
no_field_read laws tree used past before next rest fault le after fit (unfit d met spec begins h) =
    let a = (laws.courses.asked tree used (map told_of before) met d spec le).1 begins in
    let e : ◌≡◌ {A = Course} next (asks met d spec a.0) =
    one_left (course tree used) (map told_of before) next (asks met d spec a.0) after a.1 in
    ap (λ (k : Course). fields_read past k rest) e
    ∙ field_refused met past d spec a.0 rest fault
    (subst (λ (k : Course). AsksPrintable k) e fit) h
no_field_read laws tree used past before next rest fault le after fit (no_room passes h) =
    let e = (laws.courses.too_large tree used (map told_of before) next le after).1 passes in
    ap (λ (k : Course). fields_read past k rest) e
    ∙ halted_read most_items past TooLarge rest fault h
no_field_read laws tree used past before next rest fault le after fit (no_spec d met begins h) =
    let a = (laws.courses.lacking tree used (map told_of before) met d le).1 begins in
    let e = one_left (course tree used) (map told_of before) next (stops met (EffectiveRange d))
    after a in
    ap (λ (k : Course). fields_read past k rest) e
    ∙ halted_read met past (EffectiveRange d) rest fault h

fields_refused : FaultLaws → (tree : Tree) (used past : ℕ) (ls : List Line)
    (fault : ListingFault) → used ≤ most_items → FieldsFault tree used past ls fault
    → fields_read past (course tree used) ls ≡ Err fault
fields_refused laws tree used past ls fault le h =
    let fit = course_printable laws.lower.specs tree used in
    let passed =
    asked_in_turn (course tree used) h.before h.begin.formed
    (λ before others f e.
    let b = h.begin.each before others f e in
    (b.0, (laws.courses.asked tree used (map told_of before) b.0 f.fxy f.spec le).1 b.1)) in
    let after = (passes_after (course tree used) h.before passed.0 passed.1).0 in
    let later = printable_behind (course tree used) h.before passed.0 fit passed.1 in
    ap (λ (xs : List Line). fields_read past (course tree used) xs) h.in_order
    ∙ behind_fields_fails past (course tree used) h.before passed.0 h.own h.rest fault fit passed.1
    h.spelled
    (no_field_read laws tree used past h.before passed.0 h.rest fault le after later h.refused)

fields_passed : (past j i : ℕ) (c : Course) (own rest : List Line) (fields : List Field)
    (items : ℕ) → AsksPrintable c → items_of j i c fields ≡ Ok items
    → texts own ≡ map field_line fields
    → fields_read past c (own ++ rest)
    ≡ Ok (record { fields = fields; items = items; rest = rest })
fields_passed past j i c own rest fields items fit h e =
    let all : texts (own ++ rest) ≡ map field_line fields ++ texts rest =
    map-append (λ (l : Line). l.text) own rest ∙ ap (λ xs. xs ++ texts rest) e in
    let b = fields_back past j i c (own ++ rest) fields items (texts rest) fit h all in
    let left : IsBehind (own ++ rest) b.rest = fields_behind past c (own ++ rest) _ b.reads in
    let same = same_behind (own ++ rest) b.rest rest left (record { own = own; in_order = refl })
    b.same in
    b.reads
    ∙ ap (λ (xs : List Line). Ok (record { fields = fields; items = items; rest = xs })) same

-- ---- subsets

no_line_left : (left past : ℕ) (course : ℕ → Course) (used : ℕ)
    → subsets_read left past course used [] ≡ Err (BadLine past)
unfolding subsets_read
no_line_left zero past course used = refl
no_line_left (suc left) past course used = refl

neither_read : (left past : ℕ) (course : ℕ → Course) (used : ℕ) (l : Line) (behind : List Line)
    → length (l ∷ behind) ≤ left → (BeginsOrEnds l.text → ⊥)
    → subsets_read left past course used (l ∷ behind) ≡ Err (BadLine l.number)
unfolding subsets_read
neither_read zero past course used l behind few none = absurd (omega (arith, few))
neither_read (suc left) past course used l behind few none =
    let no_end = other_bytes l.text (codes "end") (λ e. none (inr e)) in
    let no_subset = other_bytes l.text (codes "subset") (λ e. none (inl e)) in
    rw (subsets_read, no_end, no_subset) refl

inside_read : (left past : ℕ) (course : ℕ → Course) (used : ℕ) (l : Line) (behind : List Line)
    (fault : ListingFault) → length (l ∷ behind) ≤ left → l.text ≡ codes "subset"
    → fields_read past (course used) behind ≡ Err fault
    → subsets_read left past course used (l ∷ behind) ≡ Err fault
unfolding subsets_read
inside_read zero past course used l behind fault few title h = absurd (omega (arith, few))
inside_read (suc left) past course used l behind fault few title h =
    let no_end : bytes_eq l.text (codes "end") ≡ false =
    subst (λ (t : List ℕ). bytes_eq t (codes "end") ≡ false) (sym title) refl in
    rw (subsets_read, no_end, same_bytes l.text (codes "subset") title, h) refl

subset_refused : FaultLaws → (left past : ℕ) (tree : Tree) (used : ℕ) (ls : List Line)
    (fault : ListingFault) → length ls ≤ left → used ≤ most_items
    → SubsetFault tree used past ls fault
    → subsets_read left past (course tree) used ls ≡ Err fault
subset_refused laws left past tree used [] fault few le (unfit h) =
    no_line_left left past (course tree) used
    ∙ ap Err (sym (unfit_at_end BeginsOrEnds (λ text. ⊥) past fault h))
subset_refused laws left past tree used (l ∷ ls) fault few le (unfit h) =
    let own = unfit_at_line BeginsOrEnds (λ text. ⊥) past l ls fault h in
    neither_read left past (course tree) used l ls few own.0
    ∙ ap Err (sym (only_bad_line l.number fault own.1))
subset_refused laws left past tree used ls fault few le (inside l behind e title h) =
    let same = ap length e in
    ap (λ (xs : List Line). subsets_read left past (course tree) used xs) e
    ∙ inside_read left past (course tree) used l behind fault (omega (arith, few, same)) title
    (fields_refused laws tree used past behind fault le h)

fewer_behind : (own front behind rest : List Line) (left : ℕ) → own ≡ front ++ behind
    → suc (length (own ++ rest)) ≤ suc left → length (behind ++ rest) ≤ left
fewer_behind own front behind rest left e few =
    let same = ap length e in
    let a = length-append front behind in
    let b = length-append own rest in
    let c = length-append behind rest in
    omega (arith, few, same, a, b, c)

behind_subsets_fails : FaultLaws → (left past j : ℕ) (tree : Tree) (used items : ℕ)
    (before : List Subset) (own rest : List Line) (fault : ListingFault)
    → length (own ++ rest) ≤ left → items ≤ most_items
    → items_of_all (course tree) j used before ≡ Ok items
    → texts own ≡ flat_map subset_lines before → SubsetFault tree items past rest fault
    → subsets_read left past (course tree) used (own ++ rest) ≡ Err fault
unfolding subsets_read items_of_all
behind_subsets_fails laws left past j tree used items [] [] rest fault few le fit e h =
    let same : ◌≡◌ {A = ℕ} items used = cc in
    subset_refused laws left past tree used rest fault few (omega (arith, le, same))
    (subst (λ (n : ℕ). SubsetFault tree n past rest fault) same h)
behind_subsets_fails laws left past j tree used items [] (l ∷ own) rest fault few le fit e h =
    absurd cc
behind_subsets_fails laws left past j tree used items (s ∷ before) [] rest fault few le fit e h =
    absurd cc
behind_subsets_fails laws zero past j tree used items (s ∷ before)
    (l ∷ own) rest fault few le fit e h =
    absurd (omega (arith, few))
behind_subsets_fails laws (suc left) past j tree used items (s ∷ before)
    (l ∷ own) rest fault few le fit e h =
    let title : l.text ≡ codes "subset" = ap (λ xs. get_or xs 0 []) e in
    let no_end : bytes_eq l.text (codes "end") ≡ false =
    subst (λ (t : List ℕ). bytes_eq t (codes "end") ≡ false) (sym title) refl in
    let c = cut_lines own (map field_line s.fields) (flat_map subset_lines before)
    (ap (λ xs. drop 1 xs) e) in
    let p = bind_ok (items_of j 1 (course tree used) s.fields) _ items fit in
    let first =
    fields_passed past j 1 (course tree used) c.front (c.behind ++ rest) s.fields p.0
    (course_printable laws.lower.specs tree used) p.1 c.first in
    let joined : own ++ rest ≡ c.front ++ (c.behind ++ rest) =
    ap (λ (xs : List Line). xs ++ rest) c.in_order ∙ append_assoc c.front c.behind rest in
    let later =
    behind_subsets_fails laws left past (j + 1) tree p.0 items before c.behind rest fault
    (fewer_behind own c.front c.behind rest left c.in_order few) le p.2 c.second h in
    ap (λ (xs : List Line). subsets_read (suc left) past (course tree) used (l ∷ xs)) joined
    ∙ rw (subsets_read, no_end, same_bytes l.text (codes "subset") title, first, later) refl

pub subsets_refused : FaultLaws → (tree : Tree) (past : ℕ) (ls : List Line)
    (fault : ListingFault) → SubsetsFault tree past ls fault
    → subsets_read (length ls) past (course tree) 0 ls ≡ Err fault
subsets_refused laws tree past ls fault h =
    ap (λ (xs : List Line). subsets_read (length xs) past (course tree) 0 xs) h.in_order
    ∙ behind_subsets_fails laws (length (h.own ++ h.rest)) past 1 tree 0 h.items h.before h.own
    h.rest fault (omega arith) h.fit.3 (laws.lower.counted tree 1 0 h.items h.before h.fit)
    h.spelled h.refused

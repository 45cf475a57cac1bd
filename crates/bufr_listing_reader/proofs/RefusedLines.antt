-- Reading refuses a line that could not follow, with the fault of the relation, the converse of
-- FaultFacts.
use Rattle.std.proofs.Common.{◌≡◌, ◌⊎◌, inl, inr, ℕ, List, [], ◌∷◌}
use Rattle.std.proofs.Common.{◌++◌, length, length-append, get_or, drop, Result, Ok, Err}
use Rattle.std.proofs.Common.{refl, sym, ap, ◌∙◌, subst, arith}
use Rattle.std.specs.Prelude.{Some, None}
use Rattle.std.specs.Str.{bytes_eq}
use Rattle.std.proofs.lemmas.Bool.{cases_Bool}
use Rattle.std.proofs.lemmas.List.{drop_at}
use Rattle.bufr_base.specs.Answers.{◌>>=◌}
use Rattle.bufr_base.specs.AnswerLaws.{passed_ok}
use Rattle.bufr_listing.specs.declared.fault.ListingFault.{ListingFault}
use Rattle.bufr_listing.specs.declared.fault.ListingFault.TheVariants.{BadLine}
use Rattle.bufr_listing_reader.specs.Lines.{Line, texts, first_word}
use Rattle.bufr_listing_reader.specs.Reading.{with_rest, read_line, read_if, read_word}
use Rattle.bufr_listing_reader.specs.FirstFaults.{Unfit, text_ends, bad_line, bad_value}
use Rattle.bufr_listing_reader.proofs.FieldFacts.{bytes_same, same_bytes, other_bytes}
use Rattle.bufr_listing_reader.proofs.LoopFacts.{texts_length}
use Rattle.bufr_listing_reader.proofs.FaultFacts.{IsFaultOf, other_kind}
use Rattle.bufr_listing_reader.proofs.FaultFields.{IsBehind, not_title, word_err}
use Rattle.bufr_listing_reader.proofs.FaultHeadings.{IsNotTitled, next_is}

-- ---- results and faults

pub answer_or_fault : {A F : Type 0} (r : Result A F)
    → ((a : A) × (r ≡ Ok a)) ⊎ ((e : F) × (r ≡ Err e))
answer_or_fault (Ok a) = inl (a, refl)
answer_or_fault (Err e) = inr (e, refl)

pub one_fault : (Kind : Type 0) (n : ℕ) (f g : ListingFault)
    → IsFaultOf Kind n f → IsFaultOf Kind n g → f ≡ g
one_fault Kind n f g (inl a) (inl b) = a.1 ∙ sym b.1
one_fault Kind n f g (inl a) (inr b) = absurd (b.0 a.0)
one_fault Kind n f g (inr a) (inl b) = absurd (a.0 b.0)
one_fault Kind n f g (inr a) (inr b) = a.1 ∙ sym b.1

pub only_bad_line : (n : ℕ) (fault : ListingFault) → IsFaultOf ⊥ n fault → fault ≡ BadLine n
only_bad_line n fault h = one_fault ⊥ n fault (BadLine n) h (inr (λ k. k, refl))

pub unfit_at_end : (Could Kind : List ℕ → Type 0) (past : ℕ) (fault : ListingFault)
    → Unfit Could Kind past [] fault → fault ≡ BadLine past
unfit_at_end Could Kind past fault (text_ends none is) = is
unfit_at_end Could Kind past fault (bad_line l behind e none other is) = absurd cc
unfit_at_end Could Kind past fault (bad_value l behind e none kind is) = absurd cc

-- a line that could not follow, and its fault
abbrev pub IsRefused : (Could Kind : List ℕ → Type 0) → Line → ListingFault → Type 0
IsRefused Could Kind l fault = (Could l.text → ⊥) × IsFaultOf (Kind l.text) l.number fault

pub unfit_at_line : (Could Kind : List ℕ → Type 0) (past : ℕ) (l : Line) (behind : List Line)
    (fault : ListingFault) → Unfit Could Kind past (l ∷ behind) fault
    → IsRefused Could Kind l fault
unfit_at_line Could Kind past l behind fault (text_ends none is) = absurd cc
unfit_at_line Could Kind past l behind fault (bad_line m others e none other is) =
    subst (λ (x : Line). IsRefused Could Kind x fault) (sym (next_is l m behind others e))
    (none, inr (other, is))
unfit_at_line Could Kind past l behind fault (bad_value m others e none kind is) =
    subst (λ (x : Line). IsRefused Could Kind x fault) (sym (next_is l m behind others e))
    (none, inl (kind, is))

-- ---- a line that could not follow

-- reading succeeds only on lines that could follow, and returns the fault of any other
pub record Decides {A : Type 0} (Could Kind : List ℕ → Type 0)
    (read : ℕ → List ℕ → Result A ListingFault) (l : Line) : Type 0 where
  pub stands : (a : A) → read l.number l.text ≡ Ok a → Could l.text
  pub refused : (f : ListingFault) → read l.number l.text ≡ Err f → (Could l.text → ⊥)
      → IsFaultOf (Kind l.text) l.number f

pub line_refused : {A : Type 0} (Could Kind : List ℕ → Type 0)
    (read : ℕ → List ℕ → Result A ListingFault) (l : Line) (fault : ListingFault)
    → Decides Could Kind read l → IsRefused Could Kind l fault
    → read l.number l.text ≡ Err fault
line_refused {A} Could Kind read l fault d h =
    elim (answer_or_fault (read l.number l.text)) [
      | inl some ↦ absurd (h.0 (d.stands some.0 some.1))
      | inr e ↦
          e.1 ∙ ap Err (one_fault (Kind l.text) l.number e.0 fault (d.refused e.0 e.1 h.0) h.1)
    ]

pub unfit_read : {A : Type 0} (Could Kind : List ℕ → Type 0)
    (read : ℕ → List ℕ → Result A ListingFault) (past : ℕ) (ls : List Line)
    (fault : ListingFault)
    → ((l : Line) (behind : List Line) → ls ≡ l ∷ behind → Decides Could Kind read l)
    → Unfit Could Kind past ls fault → read_line read past ls ≡ Err fault
unfit_read Could Kind read past [] fault each h =
    ap Err (sym (unfit_at_end Could Kind past fault h))
unfit_read {A} Could Kind read past (l ∷ behind) fault each h =
    ap (λ (r : Result A ListingFault). r >>= with_rest behind)
    (line_refused Could Kind read l fault (each l behind refl)
    (unfit_at_line Could Kind past l behind fault h))

pub word_decides : (word : List ℕ) (l : Line)
    → Decides (λ text. text ≡ word) (λ text. ⊥) (read_word word) l
word_decides word l =
    record {
      stands = λ a h. bytes_same l.text word (passed_ok (bytes_eq l.text word) tt _ a h).0;
      refused = λ f h none.
          other_kind ⊥ l.number f (λ k. k) (word_err word l.number l.text f h).1;
    }

-- ---- lines that a message may lack

pub titled_or_not : (title : List ℕ) (ls : List Line)
    → ((l : Line) × (behind : List Line) × (ls ≡ l ∷ behind) × (first_word l.text ≡ title))
    ⊎ IsNotTitled title ls
titled_or_not title [] = inr (λ l behind e titled. absurd cc)
titled_or_not title (l ∷ ls) =
    elim (cases_Bool (bytes_eq (first_word l.text) title)) [
      | inl is ↦ inl (l, ls, refl, bytes_same (first_word l.text) title is)
      | inr other ↦
          inr
          (λ m behind e titled.
          let same = ap (λ (x : Line). first_word x.text) (next_is l m ls behind e) in
          not_title (first_word l.text) title other (same ∙ titled))
    ]

pub absent_read : {A : Type 0} (title : List ℕ) (read : ℕ → List ℕ → Result A ListingFault)
    (ls : List Line) → IsNotTitled title ls → read_if title read ls ≡ Ok (None, ls)
absent_read title read [] other = refl
absent_read title read (l ∷ ls) other =
    rw (other_bytes (first_word l.text) title (λ e. other l ls refl e)) refl

pub titled_read : {A : Type 0} (title : List ℕ) (read : ℕ → List ℕ → Result A ListingFault)
    (l : Line) (ls : List Line) → first_word l.text ≡ title
    → read_if title read (l ∷ ls)
    ≡ (read l.number l.text >>= λ (a : A). with_rest ls (Some a))
titled_read title read l ls titled = rw (same_bytes (first_word l.text) title titled) refl

pub titled_refused : {A : Type 0} (Could Kind : List ℕ → Type 0) (title : List ℕ)
    (read : ℕ → List ℕ → Result A ListingFault) (past : ℕ) (ls : List Line) (l : Line)
    (behind : List Line) (fault : ListingFault) → ls ≡ l ∷ behind → first_word l.text ≡ title
    → Decides Could Kind read l → Unfit Could Kind past ls fault
    → read_if title read ls ≡ Err fault
titled_refused {A} Could Kind title read past ls l behind fault e titled d h =
    let own = unfit_at_line Could Kind past l behind fault
    (subst (λ (xs : List Line). Unfit Could Kind past xs fault) e h) in
    ap (λ (xs : List Line). read_if title read xs) e ∙ titled_read title read l behind titled
    ∙ ap (λ (r : Result A ListingFault). r >>= λ a. with_rest behind (Some a))
    (line_refused Could Kind read l fault d own)

-- ---- lines before others

pub none_before : (own rest : List Line) → texts own ≡ [] → own ++ rest ≡ rest
none_before [] rest e = refl
none_before (l ∷ own) rest e = absurd cc

-- a cut between the lines of two lists of texts
pub record Cut (own : List Line) (a b : List (List ℕ)) : Type 0 where
  pub front : List Line
  pub behind : List Line
  pub in_order : own ≡ front ++ behind
  pub first : texts front ≡ a
  pub second : texts behind ≡ b

pub cut_lines : (own : List Line) (a b : List (List ℕ)) → texts own ≡ a ++ b → Cut own a b
cut_lines own [] b e =
    record { front = []; behind = own; in_order = refl; first = refl; second = e }
cut_lines [] (t ∷ a) b e = absurd cc
cut_lines (l ∷ own) (t ∷ a) b e =
    let c = cut_lines own a b (ap (λ xs. drop 1 xs) e) in
    let same : l.text ≡ t = ap (λ xs. get_or xs 0 []) e in
    record {
      front = l ∷ c.front;
      behind = c.behind;
      in_order = ap (λ xs. l ∷ xs) c.in_order;
      first = λ i. same i ∷ c.first i;
      second = c.second;
    }

pub same_behind : (ls x y : List Line) → IsBehind ls x → IsBehind ls y → texts x ≡ texts y
    → x ≡ y
same_behind ls x y a b e =
    let same = ap length e in
    let p = texts_length x in
    let q = texts_length y in
    let m = length-append a.own x in
    let n = length-append b.own y in
    let s = ap length a.in_order in
    let t = ap length b.in_order in
    let count : length a.own ≡ length b.own = omega (arith, same, p, q, m, n, s, t) in
    sym (drop_at a.own x (length b.own) count)
    ∙ ap (λ (xs : List Line). drop (length b.own) xs) (sym a.in_order ∙ b.in_order)
    ∙ drop_at b.own y (length b.own) refl

-- the next line spells the result, and these lines follow
pub record Passed {A : Type 0} (read : ℕ → List ℕ → Result A ListingFault) (past : ℕ)
    (ls rest : List Line) (a : A) (more : List (List ℕ)) : Type 0 where
  pub others : List Line
  pub reads : read_line read past ls ≡ Ok (a, others ++ rest)
  pub spelled : texts others ≡ more

pub line_passed : {A : Type 0} (read : ℕ → List ℕ → Result A ListingFault) (past : ℕ)
    (own rest : List Line) (text : List ℕ) (more : List (List ℕ)) (a : A)
    → ((n : ℕ) → read n text ≡ Ok a) → texts own ≡ text ∷ more
    → Passed read past (own ++ rest) rest a more
line_passed read past [] rest text more a each e = absurd cc
line_passed {A} read past (l ∷ own) rest text more a each e =
    let first : l.text ≡ text = ap (λ xs. get_or xs 0 []) e in
    let reads : read l.number l.text ≡ Ok a =
    subst (λ (t : List ℕ). read l.number t ≡ Ok a) (sym first) (each l.number) in
    record {
      others = own;
      reads = ap (λ (r : Result A ListingFault). r >>= with_rest (own ++ rest)) reads;
      spelled = ap (λ xs. drop 1 xs) e;
    }

-- Subsets read in turn: for `read_subsets`.
use Rattle.std.proofs.Common.{◌≡◌, ℕ, zero, suc, ◌+◌, ◌<◌, ◌≤◌, true, false, List, [], ◌∷◌, ◌++◌}
use Rattle.std.proofs.Common.{length, length-append, map, codes, Result, Ok, Err, refl, sym, ap}
use Rattle.std.proofs.Common.{◌∙◌, arith}
use Rattle.std.specs.Str.{bytes_eq}
use Rattle.std.proofs.lemmas.List.{append-nil, length-map}
use Rattle.bufr_base.specs.Answers.{◌>>=◌, Fails, result_map}
use Rattle.bufr_base.specs.declared.failure.Failure.{Failure}
use Rattle.bufr_base.specs.declared.failure.Failure.TheVariants.{Fault, OutOfMemory}
use Rattle.bufr_expand.specs.Courses.{Course}
use Rattle.bufr_fields.specs.declared.field.Field.{Field}
use Rattle.bufr_fields.specs.declared.field.Subset.{Subset}
use Rattle.bufr_base.specs.AnswerLaws.{bind_ok, ok_is}
use Rattle.bufr_listing.specs.declared.fault.ListingFault.{ListingFault}
use Rattle.bufr_listing.specs.declared.fault.ListingFault.TheVariants.{BadLine}
use Rattle.bufr_listing_reader.specs.Cursors.{is_end, behind}
use Rattle.bufr_listing.specs.Listings.{field_line}
use Rattle.bufr_listing_reader.specs.Lines.{Line, texts}
use Rattle.bufr_listing_reader.specs.Reading.{with_rest, read_line, read_word, FieldsListed, SubsetsListed}
use Rattle.bufr_listing_reader.specs.Reading.{fields_read, subsets_read, subsets_of}
use Rattle.bufr_listing_reader.specs.Steps.{behind_subsets}
use Rattle.bufr_listing_reader.proofs.SubsetFacts.{line_takes, fields_take}
use Rattle.bufr_listing_reader.proofs.StepFacts.{subsets_none, subsets_more}

-- ---- results in turn

pub goes_on : {A B F : Type 0} (o : Result A F) (k : A → Result B F) (x : A) (y : Result B F)
    → o ≡ Ok x → k x ≡ y → (o >>= k) ≡ y
goes_on o k x y is next = ap (λ r. r >>= k) is ∙ next

pub fails_on : {A B F : Type 0} (o : Result A F) (k : A → Result B F) (f : F) → o ≡ Err f
    → (o >>= k) ≡ Err f
fails_on o k f is = ap (λ r. r >>= k) is

line_fails : {A : Type 0} (o : Result A ListingFault) (ls : List Line) (f : ListingFault)
    → (o >>= with_rest ls) ≡ Err f → o ≡ Err f
line_fails (Ok a) ls f h = absurd cc
line_fails (Err e) ls f h = let same : e ≡ f = cc in ap Err same

-- ---- the number of lines left

pub texts_length : (ls : List Line) → length (texts ls) ≡ length ls
texts_length ls = length-map ls (λ l. l.text)

fields_shorter : (past : ℕ) (c : Course) (ls : List Line) (r : FieldsListed)
    → fields_read past c ls ≡ Ok r → length r.rest ≤ length ls
fields_shorter past c ls r h =
    let own = fields_take past 1 1 c ls r h in
    let front = ap length own.front in
    let sum = length-append (map field_line r.fields) (texts r.rest) in
    let a = texts_length ls in
    let b = texts_length r.rest in
    omega (arith, front, sum, a, b)

pub line_shorter : {A : Type 0} (read : ℕ → List ℕ → Result A ListingFault) (past : ℕ)
    (ls : List Line) (x : A × List Line) → read_line read past ls ≡ Ok x
    → length ls ≡ length x.1 + 1
line_shorter read past ls x h =
    let one = line_takes read past ls x h in
    let front = ap length one.front in
    omega (arith, front)

pub subset_shorter : (past : ℕ) (c : Course) (ls mid : List Line) (r : FieldsListed)
    → read_line (read_word (codes "subset")) past ls ≡ Ok (tt, mid) → fields_read past c mid
    ≡ Ok r → length r.rest < length ls
subset_shorter past c ls mid r word fields =
    let one = line_shorter (read_word (codes "subset")) past ls (tt, mid) word in
    let more = fields_shorter past c mid r fields in
    omega (arith, one, more)

-- ---- subsets

-- these subsets, and then those of the lines left, which are enough
pub record SubsetsSoFar (past : ℕ) (course : ℕ → Course) (start : List Line)
    (subsets : List Subset) (used : ℕ) (ls : List Line) : Type 0 where
  pub fuel : ℕ
  pub few : length ls ≤ fuel
  pub so_far : subsets_read (length start) past course 0 start ≡ behind_subsets subsets
      (subsets_read fuel past course used ls)

pub no_subset : (past : ℕ) (course : ℕ → Course) (ls : List Line)
    → SubsetsSoFar past course ls [] 0 ls
no_subset past course ls =
    record {
      fuel = length ls;
      few = omega arith;
      so_far =
          subsets_none (subsets_read (length ls) past course 0 ls);
    }

subset_joined : (fields : List Field) (o : Result SubsetsListed ListingFault)
    → (o >>= λ others.
    Ok (record others { subsets = record { fields = fields } ∷ others.subsets })) ≡ behind_subsets
    (record { fields = fields } ∷ []) o
subset_joined fields (Ok found) = refl
subset_joined fields (Err e) = refl

record SubsetBegins (past : ℕ) (l : Line) (ls mid : List Line) : Type 0 where
  word : read_word (codes "subset") l.number l.text ≡ Ok tt
  behind : ls ≡ mid

subset_begins : (past : ℕ) (l : Line) (ls mid : List Line)
    → read_line (read_word (codes "subset")) past (l ∷ ls) ≡ Ok (tt, mid)
    → SubsetBegins past l ls mid
subset_begins past l ls mid h =
    let p = bind_ok (read_word (codes "subset") l.number l.text) (with_rest ls) (tt, mid) h in
    record {
      word = p.1;
      behind = ap (λ (y : Unit {0} × List Line). y.1)
          (ok_is (p.0, ls) (tt, mid) p.2);
    }

subset_step : (fuel past : ℕ) (course : ℕ → Course) (used : ℕ) (l : Line) (ls mid : List Line)
    (r : FieldsListed) → bytes_eq l.text (codes "end") ≡ false
    → read_line (read_word (codes "subset")) past (l ∷ ls) ≡ Ok (tt, mid)
    → fields_read past (course used) mid ≡ Ok r
    → subsets_read (suc fuel) past course used (l ∷ ls) ≡ behind_subsets
    (record { fields = r.fields } ∷ []) (subsets_read fuel past course r.items r.rest)
unfolding subsets_read
subset_step fuel past course used l ls mid r other word fields =
    let b = subset_begins past l ls mid word in
    let own = ap (fields_read past (course used)) b.behind ∙ fields in
    rw (subsets_read, other)
    (goes_on _ _ _ _ b.word
    (goes_on _ _ _ _ own (subset_joined r.fields (subsets_read fuel past course r.items r.rest))))

more_by : (fuel past : ℕ) (course : ℕ → Course) (start : List Line) (subsets grown : List Subset)
    (subset : Subset) (used items : ℕ) (l : Line) (ls mid rest : List Line)
    → grown ≡ subsets ++ subset ∷ []
    → length (l ∷ ls) ≤ fuel → subsets_read (length start) past course 0 start
    ≡ behind_subsets subsets (subsets_read fuel past course used (l ∷ ls))
    → bytes_eq l.text (codes "end") ≡ false
    → read_line (read_word (codes "subset")) past (l ∷ ls) ≡ Ok (tt, mid)
    → fields_read past (course used) mid
    ≡ Ok (record { fields = subset.fields; items = items; rest = rest })
    → SubsetsSoFar past course start grown items rest
more_by zero past course start subsets grown subset used items l ls mid rest e few so_far other
    word fields = absurd (omega (arith, few))
more_by (suc fuel) past course start subsets grown subset used items l ls mid rest e few so_far
    other word fields =
    let shorter = subset_shorter past (course used) (l ∷ ls) mid _ word fields in
    record {
      fuel = fuel;
      few = omega (arith, few, shorter);
      so_far = so_far
          ∙ ap (behind_subsets subsets)
          (subset_step fuel past course used l ls mid _ other word fields)
          ∙ subsets_more subsets subset (subsets_read fuel past course items rest)
          ∙ ap (λ ss. behind_subsets ss (subsets_read fuel past course items rest)) (sym e);
    }

pub one_subset : (past : ℕ) (course : ℕ → Course) (start : List Line)
    (subsets grown : List Subset) (subset : Subset) (used items : ℕ) (ls mid rest : List Line)
    → grown ≡ subsets ++ subset ∷ []
    → SubsetsSoFar past course start subsets used ls → is_end ls ≡ false
    → read_line (read_word (codes "subset")) past ls ≡ Ok (tt, mid)
    → fields_read past (course used) mid
    ≡ Ok (record { fields = subset.fields; items = items; rest = rest })
    → SubsetsSoFar past course start grown items rest
one_subset past course start subsets grown subset used items [] mid rest e so other word fields =
    absurd cc
one_subset past course start subsets grown subset used items (l ∷ ls) mid rest e so other word
    fields =
    more_by so.fuel past course start subsets grown subset used items l ls mid rest e so.few
    so.so_far other word fields

all_fail : (past : ℕ) (course : ℕ → Course) (start : List Line) (subsets : List Subset)
    (o : Result SubsetsListed ListingFault) (f : ListingFault)
    → subsets_read (length start) past course 0 start ≡ behind_subsets subsets o → o ≡ Err f
    → subsets_of past course start ≡ Err f
all_fail past course start subsets o f so_far h =
    ap (result_map (λ r. (r.subsets, r.rest))) (so_far ∙ ap (behind_subsets subsets) h)

word_fails_by : (fuel past : ℕ) (course : ℕ → Course) (used : ℕ) (ls : List Line)
    (f : ListingFault) → length ls ≤ fuel → is_end ls ≡ false
    → read_line (read_word (codes "subset")) past ls ≡ Err f
    → subsets_read fuel past course used ls ≡ Err f
unfolding subsets_read
word_fails_by zero past course used [] f few other h = let same : BadLine past ≡ f = cc in
    ap Err same
word_fails_by (suc fuel) past course used [] f few other h = let same : BadLine past ≡ f = cc in
    ap Err same
word_fails_by zero past course used (l ∷ ls) f few other h = absurd (omega (arith, few))
word_fails_by (suc fuel) past course used (l ∷ ls) f few other h =
    rw (subsets_read, other)
    (fails_on _ _ f (line_fails (read_word (codes "subset") l.number l.text) ls f h))

pub subset_word_fails : (past : ℕ) (course : ℕ → Course) (start : List Line)
    (subsets : List Subset) (used : ℕ) (ls : List Line) (e : Failure ListingFault)
    → SubsetsSoFar past course start subsets used ls → is_end ls ≡ false
    → Fails e (read_line (read_word (codes "subset")) past ls)
    → Fails e (subsets_of past course start)
subset_word_fails past course start subsets used ls OutOfMemory so other h = tt
subset_word_fails past course start subsets used ls (Fault f) so other h =
    all_fail past course start subsets (subsets_read so.fuel past course used ls) f so.so_far
    (word_fails_by so.fuel past course used ls f so.few other h)

fields_fail_by : (fuel past : ℕ) (course : ℕ → Course) (used : ℕ) (ls mid : List Line)
    (f : ListingFault) → length ls ≤ fuel → is_end ls ≡ false
    → read_line (read_word (codes "subset")) past ls ≡ Ok (tt, mid)
    → fields_read past (course used) mid ≡ Err f → subsets_read fuel past course used ls ≡ Err f
unfolding subsets_read
fields_fail_by fuel past course used [] mid f few other word h = absurd cc
fields_fail_by zero past course used (l ∷ ls) mid f few other word h = absurd (omega (arith, few))
fields_fail_by (suc fuel) past course used (l ∷ ls) mid f few other word h =
    let b = subset_begins past l ls mid word in
    rw (subsets_read, other)
    (goes_on _ _ _ _ b.word (fails_on _ _ f (ap (fields_read past (course used)) b.behind ∙ h)))

pub subset_fields_fail : (past : ℕ) (course : ℕ → Course) (start : List Line)
    (subsets : List Subset) (used : ℕ) (ls mid : List Line) (e : Failure ListingFault)
    → SubsetsSoFar past course start subsets used ls → is_end ls ≡ false
    → read_line (read_word (codes "subset")) past ls ≡ Ok (tt, mid)
    → Fails e (fields_read past (course used) mid) → Fails e (subsets_of past course start)
subset_fields_fail past course start subsets used ls mid OutOfMemory so other word h = tt
subset_fields_fail past course start subsets used ls mid (Fault f) so other word h =
    all_fail past course start subsets (subsets_read so.fuel past course used ls) f so.so_far
    (fields_fail_by so.fuel past course used ls mid f so.few other word h)

end_by : (fuel past : ℕ) (course : ℕ → Course) (used : ℕ) (ls : List Line) → length ls ≤ fuel
    → is_end ls ≡ true → subsets_read fuel past course used ls
    ≡ Ok (record { subsets = []; items = used; rest = behind ls })
unfolding subsets_read
end_by fuel past course used [] few is = absurd cc
end_by zero past course used (l ∷ ls) few is = absurd (omega (arith, few))
end_by (suc fuel) past course used (l ∷ ls) few is = rw (subsets_read, is) refl

pub subsets_end : (past : ℕ) (course : ℕ → Course) (start : List Line) (subsets : List Subset)
    (used : ℕ) (ls : List Line) → SubsetsSoFar past course start subsets used ls → is_end ls ≡ true
    → subsets_of past course start ≡ Ok (subsets, behind ls)
subsets_end past course start subsets used ls so is =
    ap (result_map (λ r. (r.subsets, r.rest))) (so.so_far ∙ ap (behind_subsets subsets)
    (end_by so.fuel past course used ls so.few is))
    ∙ ap (λ (ss : List Subset). Ok (ss, behind ls)) (append-nil subsets)

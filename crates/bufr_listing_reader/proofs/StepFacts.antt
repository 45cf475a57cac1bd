-- One step of a walk reads one line: for `read_field` and `read_fields`.
use Rattle.std.proofs.Common.{◌≡◌, ℕ, List, [], ◌∷◌, ◌++◌, Result}
use Rattle.std.proofs.Common.{Ok, Err, refl, sym, ap, subst, ◌∙◌}
use Rattle.std.proofs.Common.{append_assoc}
use Rattle.std.proofs.lemmas.Bool.{and_parts}
use Rattle.bufr_base.specs.Answers.{◌>>=◌, Fails}
use Rattle.bufr_base.specs.declared.failure.Failure.{Failure}
use Rattle.bufr_base.specs.declared.failure.Failure.TheVariants.{Fault, OutOfMemory}
use Rattle.bufr_expand.specs.declared.operators.Spec.{Spec}
use Rattle.bufr_expand.specs.declared.walk.Step.TheVariants as steps
use Rattle.bufr_expand.specs.declared.walk.Walk.{Walk}
use Rattle.bufr_expand.specs.declared.walk.WalkFault.{WalkFault}
use Rattle.bufr_expand.specs.Courses.{Course, stops, asks}
use Rattle.bufr_expand.specs.Walks.{left, items_met, Goes, Counted, IsBelowCount}
use Rattle.bufr_fields.specs.declared.field.Field.{Field}
use Rattle.bufr_fields.specs.declared.field.Subset.{Subset}
use Rattle.bufr_fields.specs.Forms.{number_of, has_form_by}
use Rattle.bufr_fields.specs.Steady.{IsReady}
use Rattle.bufr_fields.specs.StepLaws.{asks_field, asks_count, ends_there, stops_there, steady_step}
use Rattle.bufr_fields.specs.StepLaws.{count_fits as form_fits}
use Rattle.bufr_expand.specs.Steady.{IsSteady}
use Rattle.bufr_base.specs.AnswerLaws.{ok_is}
use Rattle.bufr_listing.specs.declared.fault.Cause.TheVariants as causes
use Rattle.bufr_listing.specs.declared.fault.ListingFault.{ListingFault}
use Rattle.bufr_listing.specs.declared.fault.ListingFault.TheVariants.{BadLine, Refused}
use Rattle.bufr_listing_reader.specs.Cursors.{next_of}
use Rattle.bufr_listing_reader.specs.Lines.{Line}
use Rattle.bufr_listing_reader.specs.FieldLines.{read_field}
use Rattle.bufr_listing_reader.specs.Reading.{read_line, FieldsListed, SubsetsListed, fields_read}
use Rattle.bufr_listing_reader.specs.Steps.{behind_fields, behind_subsets}
use Rattle.bufr_listing_reader.proofs.FieldFacts.{read_field_takes}
use Rattle.bufr_listing_reader.proofs.SubsetFacts.{line_takes}

-- ---- reading

joined : (field : Field) (o : Result FieldsListed ListingFault)
    → (o >>= λ others. Ok (record others { fields = field ∷ others.fields })) ≡ behind_fields
    (field ∷ []) o
joined field (Ok found) = refl
joined field (Err e) = refl

asked_field : (past met d : ℕ) (spec : Spec) (more : ℕ → Course) (ls rest : List Line) (f : Field)
    → read_line (read_field d spec) past ls ≡ Ok (f, rest)
    → fields_read past (asks met d spec more) ls ≡ behind_fields (f ∷ [])
    (fields_read past (more (number_of f.raw)) rest)
unfolding fields_read
asked_field past met d spec more ls rest f e =
    ap (λ r. r >>= λ first. fields_read past (more (number_of first.0.raw)) first.1 >>= λ others.
    Ok (record others { fields = first.0 ∷ others.fields })) e
    ∙ joined f (fields_read past (more (number_of f.raw)) rest)

asked_fails : (past met d : ℕ) (spec : Spec) (more : ℕ → Course) (c : Course) (ls : List Line)
    (e : Failure ListingFault) → c ≡ asks met d spec more
    → Fails e (read_line (read_field d spec) past ls) → Fails e (fields_read past c ls)
unfolding fields_read
asked_fails past met d spec more c ls OutOfMemory is h = tt
asked_fails past met d spec more c ls (Fault f) is h =
    ap (λ c. fields_read past c ls) is
    ∙ ap (λ r. r >>= λ first. fields_read past (more (number_of first.0.raw)) first.1 >>= λ others.
    Ok (record others { fields = first.0 ∷ others.fields })) h

pub field_is_read : (old new : Walk) (past d : ℕ) (spec : Spec) (ls rest : List Line) (f : Field)
    → IsReady old → Goes (left old) (Ok (steps.Field d spec)) new
    → read_line (read_field d spec) past ls ≡ Ok (f, rest) → fields_read past (left old) ls
    ≡ behind_fields (f ∷ []) (fields_read past (left new) rest)
field_is_read old new past d spec ls rest f ready g e =
    let a = asks_field (left old) d spec new g in
    let s = steady_step (items_met old) a.met d spec a.more
    (subst (λ (x : Course). IsSteady (items_met old) x) a.is ready.steady) in
    let same : a.more (number_of f.raw) ≡ left new = s.2 a.kind (number_of f.raw) ∙ sym a.after in
    ap (λ c. fields_read past c ls) a.is
    ∙ asked_field past a.met d spec a.more ls rest f e
    ∙ ap (λ c. behind_fields (f ∷ []) (fields_read past c rest)) same

pub count_is_read : (old mid new : Walk) (past d : ℕ) (spec : Spec) (ls rest : List Line)
    (f : Field) → Goes (left old) (Ok (steps.Count d spec)) mid
    → Counted (left mid) (number_of f.raw) new
    → read_line (read_field d spec) past ls ≡ Ok (f, rest) → fields_read past (left old) ls
    ≡ behind_fields (f ∷ []) (fields_read past (left new) rest)
count_is_read old mid new past d spec ls rest f g counted e =
    let a = asks_count (left old) d spec mid g in
    let told = subst (λ (x : Course). Counted x (number_of f.raw) new) a.waiting counted in
    ap (λ c. fields_read past c ls) a.is
    ∙ asked_field past a.met d spec a.more ls rest f e
    ∙ ap (λ c. behind_fields (f ∷ []) (fields_read past c rest)) (sym told.0)

pub field_is_refused : (old new : Walk) (past d : ℕ) (spec : Spec) (ls : List Line)
    (e : Failure ListingFault) → Goes (left old) (Ok (steps.Field d spec)) new
    → Fails e (read_line (read_field d spec) past ls) → Fails e (fields_read past (left old) ls)
field_is_refused old new past d spec ls e g h =
    let a = asks_field (left old) d spec new g in
    asked_fails past a.met d spec a.more (left old) ls e a.is h

pub count_is_refused : (old mid : Walk) (past d : ℕ) (spec : Spec) (ls : List Line)
    (e : Failure ListingFault) → Goes (left old) (Ok (steps.Count d spec)) mid
    → Fails e (read_line (read_field d spec) past ls) → Fails e (fields_read past (left old) ls)
count_is_refused old mid past d spec ls e g h =
    let a = asks_count (left old) d spec mid g in
    asked_fails past a.met d spec a.more (left old) ls e a.is h

pub end_is_read : (old new : Walk) (past : ℕ) (ls : List Line)
    → Goes (left old) (Ok steps.End) new → fields_read past (left old) ls
    ≡ Ok (record { fields = []; items = items_met new; rest = ls })
unfolding fields_read
end_is_read old new past ls g = ap (λ c. fields_read past c ls) (ends_there (left old) new g)

pub stop_is_refused : (old new : Walk) (past : ℕ) (ls : List Line) (fault : WalkFault)
    (e : Failure ListingFault) → Goes (left old) (Err fault) new
    → ((met : ℕ) → Fails e (fields_read past (stops met fault) ls))
    → Fails e (fields_read past (left old) ls)
stop_is_refused old new past ls fault e g h =
    let s = stops_there (left old) fault new g in
    subst (λ c. Fails e (fields_read past c ls)) (sym s.1) (h s.0)

-- ---- counts

pub count_fits : (old mid : Walk) (past d : ℕ) (spec : Spec) (ls rest : List Line) (f : Field)
    → Goes (left old) (Ok (steps.Count d spec)) mid
    → read_line (read_field d spec) past ls ≡ Ok (f, rest) → IsBelowCount (left mid)
    (number_of f.raw)
count_fits old mid past d spec ls rest f g e =
    let one = line_takes (read_field d spec) past ls (f, rest) e in
    let own = read_field_takes d spec one.line.number one.line.text f one.reads in
    form_fits old mid d spec f.raw g (and_parts _ (has_form_by spec.kind spec.width f.raw) own.1).1

-- ---- fields in turn

pub behind_none : (o : Result FieldsListed ListingFault) → o ≡ behind_fields [] o
behind_none (Ok found) = refl
behind_none (Err e) = refl

pub behind_more : (fields : List Field) (field : Field) (o : Result FieldsListed ListingFault)
    → behind_fields fields (behind_fields (field ∷ []) o) ≡ behind_fields (fields ++ field ∷ []) o
behind_more fields field (Ok found) =
    ap (λ fs. Ok (record found { fields = fs }))
    (sym (append_assoc fields (field ∷ []) found.fields))
behind_more fields field (Err e) = refl

pub one_more : (fields grown : List Field) (field : Field)
    (whole : Result FieldsListed ListingFault) (past : ℕ) (c d : Course) (ls rest : List Line)
    → grown ≡ fields ++ field ∷ []
    → whole ≡ behind_fields fields (fields_read past c ls) → fields_read past c ls ≡ behind_fields
    (field ∷ []) (fields_read past d rest)
    → whole ≡ behind_fields grown (fields_read past d rest)
one_more fields grown field whole past c d ls rest e so_far step =
    so_far
    ∙ ap (behind_fields fields) step
    ∙ behind_more fields field (fields_read past d rest)
    ∙ ap (λ fs. behind_fields fs (fields_read past d rest)) (sym e)

-- ---- subsets in turn

pub subsets_none : (o : Result SubsetsListed ListingFault) → o ≡ behind_subsets [] o
subsets_none (Ok found) = refl
subsets_none (Err e) = refl

pub subsets_more : (subsets : List Subset) (subset : Subset)
    (o : Result SubsetsListed ListingFault) → behind_subsets subsets
    (behind_subsets (subset ∷ []) o) ≡ behind_subsets (subsets ++ subset ∷ []) o
subsets_more subsets subset (Ok found) =
    ap (λ ss. Ok (record found { subsets = ss }))
    (sym (append_assoc subsets (subset ∷ []) found.subsets))
subsets_more subsets subset (Err e) = refl

-- ---- a walk that stops

pub stop_none : (past met : ℕ) (fault : WalkFault) (ls : List Line) (e : Failure ListingFault)
    → Fails e (next_of past ls) → Fails e (fields_read past (stops met fault) ls)
unfolding fields_read
stop_none past met fault ls OutOfMemory h = tt
stop_none past met fault [] (Fault f) h = let same : BadLine past ≡ f = cc in ap Err same
stop_none past met fault (l ∷ ls) (Fault f) h = absurd cc

pub stop_some : (past met : ℕ) (fault : WalkFault) (ls : List Line) (l : Line) (rest : List Line)
    → next_of past ls ≡ Ok (l, rest) → fields_read past (stops met fault) ls ≡ Err
    (Refused l.number (causes.Walk fault))
unfolding fields_read
stop_some past met fault [] l rest h = absurd cc
stop_some past met fault (x ∷ xs) l rest h = let e : (x, xs) ≡ (l, rest) =
    ok_is (x, xs) (l, rest) h in
    ap (λ (p : Line × List Line). Err (Refused p.0.number (causes.Walk fault))) e

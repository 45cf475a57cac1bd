-- Faults of reading one line: for the law on first faults.
use Rattle.std.proofs.Common.{◌≡◌, ◌⊎◌, inl, inr, ℕ, Bool, true, false, List, [], ◌∷◌, ◌++◌, take}
use Rattle.std.proofs.Common.{drop, Result, Ok, Err, refl, sym, ◌∙◌, subst}
use Rattle.std.specs.Prelude.{◌&&◌, if◌then◌else◌}
use Rattle.std.specs.Str.{bytes_eq}
use Rattle.std.proofs.lemmas.Bool.{and_parts}
use Rattle.bufr_tables.specs.Descriptors.{six_digits}
use Rattle.bufr_expand.specs.declared.operators.Spec.{Spec}
use Rattle.bufr_fields.specs.Forms.{has_form_by}
use Rattle.bufr_fields.specs.FormLaws.{asked_passes}
use Rattle.bufr_expand.specs.OperatorsInForce.{is_within}
use Rattle.bufr_base.specs.AnswerLaws.{bind_err, err_is}
use Rattle.bufr_listing.specs.declared.fault.ListingFault.{ListingFault}
use Rattle.bufr_listing.specs.declared.fault.ListingFault.TheVariants.{BadLine, BadValue}
use Rattle.bufr_listing.specs.Listings.{field_line}
use Rattle.bufr_listing_reader.specs.Lines.{Line, first_word}
use Rattle.bufr_listing_reader.specs.FieldLines.{raw_in, field_in, field_fault, read_field}
use Rattle.bufr_listing_reader.specs.Reading.{with_rest, read_line, fault_behind}
use Rattle.bufr_listing_reader.specs.FirstFaults.{Unfit, bad_line, bad_value, IsLineOf, BeginsWith}
use Rattle.bufr_listing_reader.proofs.FieldFacts.{IsPrintable, bytes_same, same_bytes, read_field_back}

pub not_both : {A F : Type 0} {P : Type 0} (r : Result A F) (x : A) (y : F) → r ≡ Ok x → r ≡ Err y
    → P
not_both {A} {F} r x y is e = let both : ◌≡◌ {A = Result A F} (Ok x) (Err y) = sym is ∙ e in
    absurd cc

pub line_err : {A : Type 0} (read : ℕ → List ℕ → Result A ListingFault) (past : ℕ)
    (ls : List Line) (fault : ListingFault) → read_line read past ls ≡ Err fault
    → ((ls ≡ []) × (fault ≡ BadLine past))
    ⊎ ((l : Line) × (behind : List Line) × (ls ≡ l ∷ behind) × (read l.number l.text ≡ Err fault))
line_err {A} read past [] fault e =
    inl (refl, sym (err_is {A = A × List Line} (BadLine past) fault e))
line_err read past (l ∷ ls) fault e =
    elim (bind_err (read l.number l.text) (with_rest ls) fault e) [
      | inl own ↦ inr (l, ls, refl, own)
      | inr some ↦ absurd cc
    ]

-- ---- L1 or L2

-- L2 if the line has a kind that could follow, else L1
abbrev pub IsFaultOf : Type 0 → ℕ → ListingFault → Type 0
IsFaultOf Kind n fault = (Kind × (fault ≡ BadValue n)) ⊎ ((Kind → ⊥) × (fault ≡ BadLine n))

pub fault_by : (Kind : Type 0) (b : Bool) (n : ℕ) (fault : ListingFault) → (b ≡ true → Kind)
    → (Kind → b ≡ true) → (if b then BadValue n else BadLine n) ≡ fault → IsFaultOf Kind n fault
fault_by Kind true n fault is has e = inl (is refl, sym e)
fault_by Kind false n fault is has e = inr (λ k. let c = has k in absurd cc, sym e)

pub other_kind : (Kind : Type 0) (n : ℕ) (fault : ListingFault) → (Kind → ⊥) → BadLine n ≡ fault
    → IsFaultOf Kind n fault
other_kind Kind n fault none e = inr (none, sym e)

pub same_kind_of : (A B : Type 0) (n : ℕ) (fault : ListingFault) → (A → B) → (B → A)
    → IsFaultOf A n fault → IsFaultOf B n fault
same_kind_of A B n fault to from (inl p) = inl (to p.0, p.1)
same_kind_of A B n fault to from (inr p) = inr (λ b. p.0 (from b), p.1)

pub unfit_line : (Could Kind : List ℕ → Type 0) (past : ℕ) (rest : List Line)
    (fault : ListingFault) (l : Line) (behind : List Line)
    → rest ≡ l ∷ behind → (Could l.text → ⊥) → IsFaultOf (Kind l.text) l.number fault
    → Unfit Could Kind past rest fault
unfit_line Could Kind past rest fault l behind e none (inl p) = bad_value l behind e none p.0 p.1
unfit_line Could Kind past rest fault l behind e none (inr p) = bad_line l behind e none p.0 p.1

pub if_err : {A F : Type 0} (b : Bool) (x : A) (e fault : F) → (if b then Ok x else Err e)
    ≡ Err fault → e ≡ fault
if_err true x e fault h = absurd cc
if_err {A} false x e fault h = err_is {A = A} e fault h

pub behind_fault : (Count : Type 0) (title : List ℕ) (b : Bool) (n : ℕ) (text : List ℕ)
    (fault : ListingFault) → (b ≡ true → Count) → (Count → b ≡ true)
    → fault_behind title b n text ≡ fault → IsFaultOf ((first_word text ≡ title) × Count) n fault
behind_fault Count title b n text fault is has e =
    fault_by ((first_word text ≡ title) × Count) (bytes_eq (first_word text) title && b) n fault
    (λ t. let p = and_parts (bytes_eq (first_word text) title) b t in
    (bytes_same (first_word text) title p.0, is p.1))
    (λ k. rw (same_bytes (first_word text) title k.0, has k.1) refl)
    e

-- ---- the line of a field

pub field_err : (d : ℕ) (spec : Spec) (n : ℕ) (text : List ℕ) (fault : ListingFault)
    → IsPrintable spec → read_field d spec n text ≡ Err fault
    → (IsLineOf d spec text → ⊥) × IsFaultOf (BeginsWith d text) n fault
field_err d spec n text fault fit h = (
  λ could.
      let own : read_field d spec n text ≡ Ok could.0 =
      subst (λ (t : List ℕ). read_field d spec n t ≡ Ok could.0) (sym could.2)
      (read_field_back d spec n could.0 fit (asked_passes d spec could.0 could.1)) in
      not_both (read_field d spec n text) could.0 fault own h,
  fault_by (BeginsWith d text) (bytes_eq (take 7 text) (six_digits d ++ 32 ∷ [])) n fault
      (bytes_same (take 7 text) (six_digits d ++ 32 ∷ []))
      (same_bytes (take 7 text) (six_digits d ++ 32 ∷ []))
      (if_err (is_within 600 spec.scale && has_form_by spec.kind spec.width
      (raw_in spec (drop 7 text)) && bytes_eq (field_line (field_in d spec text)) text)
      (field_in d spec text) (field_fault d n text) fault h),
)

-- Reading is refused at the first field that can't be read, and writing at the first misfit, by the
-- template's tree.
use Rattle.std.proofs.Common.{◌≡◌, ℕ, zero, suc, ◌+◌, ◌*◌, ◌/◌, ◌%◌, ◌^◌, ◌<◌, ◌≤◌, Bool, true}
use Rattle.std.proofs.Common.{false, cond, List, [], ◌∷◌, ◌++◌, length, take, drop, Option, Some}
use Rattle.std.proofs.Common.{None, Result, Ok, Err, refl, sym, ap, subst, ◌∙◌, arith, append_assoc}
use Rattle.std.proofs.Common.{length-append, inl, inr}
use Rattle.std.proofs.lemmas.Bool.{cases_lt}
use Rattle.std.proofs.lemmas.List.{take-append-drop, length-take}
use Rattle.bufr_bits.specs.Bits.{bin, number, numbers}
use Rattle.bufr_bits.specs.BitLaws.{length-bin, number_below, bin-number}
use Rattle.bufr_bits.specs.NumberLaws.{length-fields, length-numbers, numbers_fit, fields-numbers}
use Rattle.bufr_base.specs.Answers.{result_map}
use Rattle.bufr_tables.specs.declared.element.Kind.{Kind}
use Rattle.bufr_tables.specs.declared.element.Kind.TheVariants as kinds
use Rattle.bufr_base.specs.AnswerLaws.{bind_err, err_is}
use Rattle.bufr_expand.specs.declared.operators.Spec.{Spec}
use Rattle.bufr_expand.specs.declared.walk.WalkFault.{WalkFault}
use Rattle.bufr_expand.specs.declared.walk.WalkFault.TheVariants as walks
use Rattle.bufr_expand.specs.Courses.{Course, ends, stops, asks, course}
use Rattle.bufr_expand.specs.Trees.{Tree}
use Rattle.bufr_expand.specs.Limits.{most_items}
use Rattle.bufr_fields.specs.declared.field.Raw.{Raw}
use Rattle.bufr_fields.specs.declared.field.Raw.TheVariants.{Number, Text}
use Rattle.bufr_fields.specs.declared.field.Field.{Field}
use Rattle.bufr_fields.specs.declared.field.Subset.{Subset}
use Rattle.bufr_fields.specs.declared.fault.DataFault.{DataFault}
use Rattle.bufr_fields.specs.declared.fault.DataFault.TheVariants as faults
use Rattle.bufr_fields.specs.declared.fault.MisfitFault.{MisfitFault}
use Rattle.bufr_fields.specs.declared.fault.MisfitFault.TheVariants as misfits
use Rattle.bufr_data.specs.Plain.{raw_bits, field_bits, plain, plain_subsets, SubsetRead, raw_at}
use Rattle.bufr_data.specs.Plain.{field_then, fields_at, subsets_at, BeginsWithSubset}
use Rattle.bufr_fields.specs.Forms.{number_of, matches_spec, misfit, items_of, items_of_all}
use Rattle.bufr_data.specs.Data.{written_bits}
use Rattle.bufr_fields.specs.Fits.{HasForm, of_text, of_number, FitsWithin, AllFitWithin}
use Rattle.bufr_fields.specs.Asked.{IsAsked, Passes}
use Rattle.bufr_data.specs.Plain.Refusals.{BeginsWithNone, IsWithinLimits}
use Rattle.bufr_fields.specs.CourseLaws.{AreUnrolled, AreAllowed}
use Rattle.bufr_fields.specs.FormLaws.{form_passes, form_is, asked_is, asked_passes}
use Rattle.bufr_data.proofs.PlainFacts.Refusals.{CannotStand, FieldRefused, SubsetRefused, CannotGoOn}
use Rattle.bufr_data.proofs.PlainFacts.Refusals.{FieldMisfits, SubsetMisfits, stop_is, stop_again}
use Rattle.bufr_data.proofs.AnswerFacts.{map_err}
use Rattle.bufr_data.proofs.PlainFacts.{raw_again, raw_read}
use Rattle.bufr_fields.specs.FitLaws.{counted_fit, fitting_counted}
use Rattle.bufr_data.proofs.FitFacts.{read_stands, standing_read}

none_by : (spec : Spec) (front : List Bool) (o : Option (Raw × List Bool)) → raw_at spec front ≡ o
    → BeginsWithNone spec front → raw_at spec front ≡ None
none_by spec front None e none = e
none_by spec front (Some x) e none =
    let is = raw_read spec.kind spec.width front x e in
    absurd (none x.0 x.1 (form_is spec x.0 is.0) is.1)

none_read : (spec : Spec) (front : List Bool) → BeginsWithNone spec front → raw_at spec front ≡ None
none_read spec front none = none_by spec front (raw_at spec front) refl none

none_stands : (spec : Spec) (front : List Bool) → raw_at spec front ≡ None → BeginsWithNone spec front
none_stands spec front e = λ raw rest form is.
    let some : raw_at spec front ≡ Some (raw, rest) =
    ap (raw_at spec) is ∙ raw_again spec.kind spec.width raw rest (form_passes spec raw form) in
    cc

raw_length : (spec : Spec) (raw : Raw) → IsWithinLimits spec → HasForm spec raw
    → length (raw_bits spec.width raw) ≡ spec.width
raw_length spec raw limits (of_text os is size all) =
    let whole : spec.width % 8 ≡ 0 = limits.whole_octets is in
    omega (arith, length-fields 8 os)
raw_length spec raw limits (of_number n other few below) = length-bin spec.width n

pub none_on_few : (spec : Spec) (front : List Bool) → IsWithinLimits spec
    → length front < spec.width → BeginsWithNone spec front
none_on_few spec front limits short = λ raw rest form is.
    omega (
      arith,
      ap length is,
      length-append (raw_bits spec.width raw) rest,
      raw_length spec raw limits form,
    )

number_stands : (spec : Spec) (front : List Bool) → (spec.kind ≡ kinds.Text → ⊥)
    → IsWithinLimits spec → spec.width ≤ length front → BeginsWithNone spec front → ⊥
number_stands spec front other limits long none =
    let size : length (take spec.width front) ≡ spec.width =
    omega (arith, length-take spec.width front) in
    let below : number (take spec.width front) < 2 ^ spec.width =
    subst (λ k. number (take spec.width front) < 2 ^ k) size
    (number_below (take spec.width front)) in
    let spelt : bin spec.width (number (take spec.width front)) ≡ take spec.width front =
    bin-number spec.width (take spec.width front) size in
    none (Number (number (take spec.width front))) (drop spec.width front)
    (of_number (number (take spec.width front)) other (limits.few_bits other) below)
    (sym (ap (λ xs. xs ++ drop spec.width front) spelt ∙ take-append-drop spec.width front))

text_stands : (spec : Spec) (front : List Bool) → spec.kind ≡ kinds.Text → IsWithinLimits spec
    → spec.width ≤ length front → BeginsWithNone spec front → ⊥
text_stands spec front is limits long none =
    let n = spec.width / 8 in
    let whole : spec.width % 8 ≡ 0 = limits.whole_octets is in
    let room : n * 8 ≤ length front = omega arith in
    none (Text (numbers n 8 front)) (drop (n * 8) front)
    (of_text (numbers n 8 front) is (length-numbers n 8 front) (numbers_fit n 8 front room))
    (sym (fields-numbers n 8 front room))

stands_by : (kind : Kind) (spec : Spec) (front : List Bool) → spec.kind ≡ kind → IsWithinLimits spec
    → spec.width ≤ length front → BeginsWithNone spec front → ⊥
stands_by kinds.Text spec front is limits long none = text_stands spec front is limits long none
stands_by kinds.Code spec front is limits long none =
    number_stands spec front (λ t. let e = sym is ∙ t in cc) limits long none
stands_by kinds.Flag spec front is limits long none =
    number_stands spec front (λ t. let e = sym is ∙ t in cc) limits long none
stands_by kinds.Quantity spec front is limits long none =
    number_stands spec front (λ t. let e = sym is ∙ t in cc) limits long none
stands_by kinds.Count spec front is limits long none =
    number_stands spec front (λ t. let e = sym is ∙ t in cc) limits long none

pub few_where_none : (spec : Spec) (front : List Bool) → IsWithinLimits spec → BeginsWithNone spec front
    → length front < spec.width
few_where_none spec front limits none =
    elim (cases_lt (length front) spec.width) [
      | inl lt ↦ lt
      | inr le ↦ absurd (stands_by spec.kind spec front refl limits le none)
    ]

refused_here : (j i : ℕ) (c : Course) (front : List Bool) (fault : DataFault)
    → CannotStand j i c front fault → FieldRefused j i c front fault
refused_here j i c front fault h =
    let same : i ≡ i + 0 = omega arith in
    record {
      before = [];
      next = c;
      rest = front;
      passed = refl;
      stand = refl;
      refused = subst
          (λ k. CannotStand j k c front fault) same h;
    }

refused_behind : (j i met d : ℕ) (spec : Spec) (more : ℕ → Course) (front : List Bool)
    (x : Raw × List Bool) (fault : DataFault) → raw_at spec front ≡ Some x
    → FieldRefused j (i + 1) (more (number_of x.0)) x.1 fault
    → FieldRefused j i (asks met d spec more) front fault
refused_behind j i met d spec more front x fault e r =
    let is = raw_read spec.kind spec.width front x e in
    let field : Field = record { fxy = d; spec = spec; raw = x.0 } in
    let asked : IsAsked d spec field = (refl, refl, form_is spec x.0 is.0) in
    let spelt : front ≡ plain (field ∷ r.before) ++ r.rest =
    is.1 ∙ ap (λ xs. raw_bits spec.width x.0 ++ xs) r.stand
    ∙ sym (append_assoc (raw_bits spec.width x.0) (plain r.before) r.rest) in
    let same : i + 1 + length r.before ≡ i + suc (length r.before) = omega arith in
    record {
      before = field
          ∷ r.before;
      next =
          r.next;
      rest =
          r.rest;
      passed =
          (asked, r.passed);
      stand = spelt;
      refused = subst
          (λ k. CannotStand j k r.next r.rest fault) same r.refused;
    }

not_err : {A F : Type 0} (x : A) (fault : F) → ◌≡◌ {A = Result A F} (Ok x) (Err fault) → ⊥
not_err x fault e = cc

asked_refused : (j i met d : ℕ) (spec : Spec) (more : ℕ → Course) (front : List Bool)
    (o : Option (Raw × List Bool)) (fault : DataFault) → raw_at spec front ≡ o
    → ((n : ℕ) (rest : List Bool) → fields_at j (i + 1) (more n) rest ≡ Err fault
    → FieldRefused j (i + 1) (more n) rest fault)
    → field_then j i d spec (λ n rest. fields_at j (i + 1) (more n) rest) o ≡ Err fault
    → FieldRefused j i (asks met d spec more) front fault
asked_refused j i met d spec more front None fault read after e =
    refused_here j i (asks met d spec more) front fault
    (sym (err_is {A = SubsetRead} (faults.DataEnds j i) fault e), none_stands spec front read)
asked_refused j i met d spec more front (Some x) fault read after e =
    elim
    (bind_err (fields_at j (i + 1) (more (number_of x.0)) x.1)
    (λ found. Ok
    (record found {
      fields = record { fxy = d; spec = spec; raw = x.0 }
          ∷ found.fields;
    })) fault e) [
      | inl first ↦
          refused_behind j i met d spec more front x fault read (after (number_of x.0) x.1 first)
      | inr second ↦ absurd (not_err _ fault second.2)
    ]

pub refused_stand : (j i : ℕ) (c : Course) (front : List Bool) (fault : DataFault)
    → fields_at j i c front ≡ Err fault → FieldRefused j i c front fault
unfolding fields_at
refused_stand j i (ends n) front fault e = absurd (not_err _ fault e)
refused_stand j i (stops met w) front fault e =
    refused_here j i (stops met w) front fault (stop_is w fault e)
refused_stand j i (asks met d spec more) front fault e =
    asked_refused j i met d spec more front _ fault refl
    (λ n rest h. refused_stand j (i + 1) (more n) rest fault h) e

here_again : (j i : ℕ) (c : Course) (front : List Bool) (fault : DataFault)
    → CannotStand j i c front fault → fields_at j i c front ≡ Err fault
unfolding fields_at
here_again j i (ends n) front fault h = absurd h
here_again j i (stops met w) front fault h = stop_again w fault h
here_again j i (asks met d spec more) front fault h =
    rw (none_read spec front h.1) (ap (λ x. Err x) (sym h.0))

behind_again : (j i : ℕ) (before : List Field) (c next : Course) (rest : List Bool)
    (fault : DataFault) → Passes c before next → CannotStand j (i + length before) next rest fault
    → fields_at j i c (plain before ++ rest) ≡ Err fault
unfolding fields_at
behind_again j i [] c next rest fault passed h =
    let same : i + 0 ≡ i = omega arith in
    here_again j i c rest fault
    (subst (λ k. CannotStand j k c rest fault) same
    (subst (λ (d : Course). CannotStand j (i + 0) d rest fault) (sym passed) h))
behind_again j i (f ∷ fields) (ends n) next rest fault passed h = absurd passed
behind_again j i (f ∷ fields) (stops met w) next rest fault passed h = absurd passed
behind_again j i (f ∷ fields) (asks met d spec more) next rest fault passed h =
    let same : i + suc (length fields) ≡ i + 1 + length fields = omega arith in
    let others =
    behind_again j (i + 1) fields (more (number_of f.raw)) next rest fault passed.1
    (subst (λ k. CannotStand j k next rest fault) same h) in
    let width : f.spec.width ≡ spec.width = ap (λ (s : Spec). s.width) passed.0.1 in
    let regrouped : plain (f ∷ fields) ++ rest ≡ raw_bits spec.width f.raw
    ++ (plain fields ++ rest) =
    append_assoc (field_bits f) (plain fields) rest
    ∙ ap (λ w. raw_bits w f.raw ++ (plain fields ++ rest)) width in
    ap (fields_at j i (asks met d spec more)) regrouped
    ∙ rw (
      raw_again spec.kind spec.width f.raw (plain fields ++ rest)
          (form_passes spec f.raw passed.0.2),
      others,
    ) refl

pub standing_refused : (j i : ℕ) (c : Course) (front : List Bool) (fault : DataFault)
    → FieldRefused j i c front fault → fields_at j i c front ≡ Err fault
standing_refused j i c front fault r =
    ap (fields_at j i c) r.stand
    ∙ behind_again j i r.before c r.next r.rest fault r.passed r.refused

first_refused : (tree : Tree) (j n used : ℕ) (front : List Bool) (fault : DataFault)
    → used ≤ most_items → fields_at j 1 (course tree used) front ≡ Err fault
    → SubsetRefused tree j (suc n) used front fault
first_refused tree j n used front fault le e =
    let same : j ≡ j + 0 = omega arith in
    record {
      before = [];
      items = used;
      rest = front;
      fewer = omega arith;
      fit = (0, refl, omega arith, le);
      stand = refl;
      refused =
          subst (λ k. FieldRefused k 1 (course tree used) front fault) same
          (refused_stand j 1 (course tree used) front fault e);
    }

later_refused : (tree : Tree) (j n used : ℕ) (front : List Bool) (first : SubsetRead)
    (fault : DataFault) → BeginsWithSubset tree used front first
    → SubsetRefused tree (j + 1) n first.items first.rest fault
    → SubsetRefused tree j (suc n) used front fault
later_refused tree j n used front first fault h r =
    let s : Subset = record { fields = first.fields } in
    let own = h.0 in
    let others = r.fit in
    let same : j + 1 + length r.before ≡ j + suc (length r.before) = omega arith in
    let spelt : front ≡ plain_subsets (s ∷ r.before) ++ r.rest =
    h.1 ∙ ap (λ xs. plain first.fields ++ xs) r.stand
    ∙ sym (append_assoc (plain first.fields) (plain_subsets r.before) r.rest) in
    let few : length r.before < n = r.fewer in
    record {
      before = s ∷ r.before;
      items = r.items;
      rest = r.rest;
      fewer = omega arith;
      fit = (
        own.0 + others.0,
        (own.0, others.0, own.1, others.1, refl),
        omega (arith, own.2, others.2),
        others.3,
      );
      stand = spelt;
      refused = subst (λ k. FieldRefused k 1 (course tree r.items) r.rest fault) same r.refused;
    }

pub subsets_refused_stand : AreUnrolled
    → (tree : Tree) (j n used : ℕ) (front : List Bool) (fault : DataFault) → used ≤ most_items
    → subsets_at (course tree) j n used front ≡ Err fault → SubsetRefused tree j n used front fault
unfolding subsets_at
subsets_refused_stand law tree j zero used front fault le e = absurd (not_err _ fault e)
subsets_refused_stand law tree j (suc n) used front fault le e =
    elim (bind_err (fields_at j 1 (course tree used) front) _ fault e) [
      | inl here ↦ first_refused tree j n used front fault le here
      | inr behind ↦
          let first = behind.0 in
          let h = read_stands law tree j used front first le behind.1 in
          later_refused tree j n used front first fault h
          (elim
          (bind_err
          (subsets_at (course tree) (j + 1) n first.items first.rest) _ fault behind.2) [
            | inl others ↦
                subsets_refused_stand law tree (j + 1) n first.items first.rest fault h.0.3 others
            | inr none ↦ absurd (not_err _ fault none.2)
          ])
    ]

subsets_again : AreAllowed
    → (tree : Tree) (before : List Subset) (j n used items : ℕ) (rest : List Bool)
    (fault : DataFault) → length before < n → AllFitWithin tree used before items
    → FieldRefused (j + length before) 1 (course tree items) rest fault
    → subsets_at (course tree) j n used (plain_subsets before ++ rest) ≡ Err fault
unfolding subsets_at
subsets_again law tree before j zero used items rest fault fewer fit r = absurd (omega arith)
subsets_again law tree [] j (suc n) used items rest fault fewer fit r =
    let none : fit.0 ≡ 0 = fit.1 in
    let end : items ≡ used + fit.0 = fit.2 in
    let same : items ≡ used = omega arith in
    let here : j + 0 ≡ j = omega arith in
    let r1 : FieldRefused j 1 (course tree items) rest fault =
    subst (λ k. FieldRefused k 1 (course tree items) rest fault) here r in
    let r2 : FieldRefused j 1 (course tree used) rest fault =
    subst (λ k. FieldRefused j 1 (course tree k) rest fault) same r1 in
    rw (standing_refused j 1 (course tree used) rest fault r2) refl
subsets_again law tree (s ∷ before) j (suc n) used items rest fault fewer fit r =
    let own = fit.1.0 in
    let others = fit.1.1 in
    let sum : fit.0 ≡ own + others = fit.1.4 in
    let end : items ≡ used + fit.0 = fit.2 in
    let few : items ≤ most_items = fit.3 in
    let back : List Bool = plain_subsets before ++ rest in
    let found : SubsetRead = record { fields = s.fields; items = used + own; rest = back } in
    let first : fields_at j 1 (course tree used) (plain s.fields ++ back) ≡ Ok found =
    standing_read law tree j used (plain s.fields ++ back) found
    ((own, fit.1.2, refl, omega arith), refl) in
    let regrouped : plain_subsets (s ∷ before) ++ rest ≡ plain s.fields ++ back =
    append_assoc (plain s.fields) (plain_subsets before) rest in
    let here : j + suc (length before) ≡ j + 1 + length before = omega arith in
    let behind : subsets_at (course tree) (j + 1) n (used + own) back ≡ Err fault =
    subsets_again law tree before (j + 1) n (used + own) items rest fault (omega arith)
    (others, fit.1.3, omega arith, few)
    (subst (λ k. FieldRefused k 1 (course tree items) rest fault) here r) in
    rw (regrouped, first, behind) refl

pub subsets_standing_refused : AreAllowed
    → (tree : Tree) (j n used : ℕ) (front : List Bool) (fault : DataFault)
    → SubsetRefused tree j n used front fault → subsets_at (course tree) j n used front ≡ Err fault
subsets_standing_refused law tree j n used front fault r =
    ap (subsets_at (course tree) j n used) r.stand
    ∙ subsets_again law tree r.before j n used r.items r.rest fault r.fewer r.fit r.refused

misfit_here : (j i : ℕ) (c : Course) (fields : List Field) (fault : MisfitFault)
    → CannotGoOn j i c fields fault → FieldMisfits j i c fields fault
misfit_here j i c fields fault h =
    let same : i ≡ i + 0 = omega arith in
    record {
      before = [];
      others = fields;
      next = c;
      passed = refl;
      joined = refl;
      refused = subst
          (λ k. CannotGoOn j k c fields fault) same h;
    }

misfit_behind : (j i met d : ℕ) (spec : Spec) (more : ℕ → Course) (f : Field) (fields : List Field)
    (fault : MisfitFault) → IsAsked d spec f
    → FieldMisfits j (i + 1) (more (number_of f.raw)) fields fault
    → FieldMisfits j i (asks met d spec more) (f ∷ fields) fault
misfit_behind j i met d spec more f fields fault asked m =
    let same : i + 1 + length m.before ≡ i + suc (length m.before) = omega arith in
    record {
      before = f ∷ m.before;
      others = m.others;
      next = m.next;
      passed = (asked, m.passed);
      joined = ap (λ fs. f ∷ fs) m.joined;
      refused = subst (λ k. CannotGoOn j k m.next m.others fault) same m.refused;
    }

stop_misfits : (j i met : ℕ) (w : WalkFault) (fields : List Field) (fault : MisfitFault)
    → misfit j i w ≡ fault → CannotGoOn j i (stops met w) fields fault
stop_misfits j i met walks.TooLarge fields fault e = sym e
stop_misfits j i met (walks.EffectiveRange d) fields fault e = sym e

stops_again : (j i met : ℕ) (w : WalkFault) (fields : List Field) (fault : MisfitFault)
    → CannotGoOn j i (stops met w) fields fault → misfit j i w ≡ fault
stops_again j i met walks.TooLarge fields fault e = sym e
stops_again j i met (walks.EffectiveRange d) fields fault e = sym e

asked_misfits : (j i met d : ℕ) (spec : Spec) (more : ℕ → Course) (f : Field) (fields : List Field)
    (fault : MisfitFault) (is : Bool) → matches_spec d spec f ≡ is
    → (items_of j (i + 1) (more (number_of f.raw)) fields ≡ Err fault
    → FieldMisfits j (i + 1) (more (number_of f.raw)) fields fault)
    → cond is (items_of j (i + 1) (more (number_of f.raw)) fields) (Err (misfits.DoesNotFit j i))
    ≡ Err fault → FieldMisfits j i (asks met d spec more) (f ∷ fields) fault
asked_misfits j i met d spec more f fields fault true is after e =
    misfit_behind j i met d spec more f fields fault (asked_is d spec f is) (after e)
asked_misfits j i met d spec more f fields fault false is after e =
    misfit_here j i (asks met d spec more) (f ∷ fields) fault (
      sym (err_is {A = ℕ} (misfits.DoesNotFit j i) fault e),
      λ asked. let yes : matches_spec d spec f
          ≡ true = asked_passes d spec f asked in cc,
    )

pub refused_misfit : (j i : ℕ) (c : Course) (fields : List Field) (fault : MisfitFault)
    → items_of j i c fields ≡ Err fault → FieldMisfits j i c fields fault
unfolding items_of
refused_misfit j i (ends n) [] fault e = absurd (not_err _ fault e)
refused_misfit j i (ends n) (f ∷ fields) fault e =
    misfit_here j i (ends n) (f ∷ fields) fault
    (sym (err_is {A = ℕ} (misfits.DoesNotFit j i) fault e))
refused_misfit j i (stops met w) fields fault e =
    misfit_here j i (stops met w) fields fault
    (stop_misfits j i met w fields fault (err_is {A = ℕ} (misfit j i w) fault e))
refused_misfit j i (asks met d spec more) [] fault e =
    misfit_here j i (asks met d spec more) [] fault
    (sym (err_is {A = ℕ} (misfits.DoesNotFit j i) fault e))
refused_misfit j i (asks met d spec more) (f ∷ fields) fault e =
    asked_misfits j i met d spec more f fields fault (matches_spec d spec f) refl
    (refused_misfit j (i + 1) (more (number_of f.raw)) fields fault) e

not_asked : (d : ℕ) (spec : Spec) (f : Field) (is : Bool) → matches_spec d spec f ≡ is
    → (IsAsked d spec f → ⊥) → matches_spec d spec f ≡ false
not_asked d spec f false e none = e
not_asked d spec f true e none = absurd (none (asked_is d spec f e))

go_on_again : (j i : ℕ) (c : Course) (fields : List Field) (fault : MisfitFault)
    → CannotGoOn j i c fields fault → items_of j i c fields ≡ Err fault
unfolding items_of
go_on_again j i (ends n) [] fault h = absurd h
go_on_again j i (ends n) (f ∷ fields) fault h = ap (λ x. Err x) (sym h)
go_on_again j i (stops met w) fields fault h =
    ap (λ x. Err x) (stops_again j i met w fields fault h)
go_on_again j i (asks met d spec more) [] fault h = ap (λ x. Err x) (sym h)
go_on_again j i (asks met d spec more) (f ∷ fields) fault h =
    rw (not_asked d spec f (matches_spec d spec f) refl h.1) (ap (λ x. Err x) (sym h.0))

misfit_again : (j i : ℕ) (before others : List Field) (c next : Course) (fault : MisfitFault)
    → Passes c before next → CannotGoOn j (i + length before) next others fault
    → items_of j i c (before ++ others) ≡ Err fault
unfolding items_of
misfit_again j i [] others c next fault passed h =
    let same : i + 0 ≡ i = omega arith in
    go_on_again j i c others fault
    (subst (λ k. CannotGoOn j k c others fault) same
    (subst (λ (d : Course). CannotGoOn j (i + 0) d others fault) (sym passed) h))
misfit_again j i (f ∷ before) others (ends n) next fault passed h = absurd passed
misfit_again j i (f ∷ before) others (stops met w) next fault passed h = absurd passed
misfit_again j i (f ∷ before) others (asks met d spec more) next fault passed h =
    let same : i + suc (length before) ≡ i + 1 + length before = omega arith in
    let behind =
    misfit_again j (i + 1) before others (more (number_of f.raw)) next fault passed.1
    (subst (λ k. CannotGoOn j k next others fault) same h) in
    rw (asked_passes d spec f passed.0) behind

pub misfit_refused : (j i : ℕ) (c : Course) (fields : List Field) (fault : MisfitFault)
    → FieldMisfits j i c fields fault → items_of j i c fields ≡ Err fault
misfit_refused j i c fields fault m =
    ap (items_of j i c) m.joined
    ∙ misfit_again j i m.before m.others c m.next fault m.passed m.refused

first_misfits : (tree : Tree) (j used : ℕ) (s : Subset) (subsets : List Subset) (fault : MisfitFault)
    → used ≤ most_items → items_of j 1 (course tree used) s.fields ≡ Err fault
    → SubsetMisfits tree j used (s ∷ subsets) fault
first_misfits tree j used s subsets fault le e =
    let same : j ≡ j + 0 = omega arith in
    record {
      before = [];
      here = s;
      others = subsets;
      items = used;
      joined = refl;
      fit = (0, refl, omega arith, le);
      refused =
          subst (λ k. FieldMisfits k 1 (course tree used) s.fields fault) same
          (refused_misfit j 1 (course tree used) s.fields fault e);
    }

later_misfits : (tree : Tree) (j used n : ℕ) (s : Subset) (subsets : List Subset)
    (fault : MisfitFault) → FitsWithin tree used s.fields n
    → SubsetMisfits tree (j + 1) n subsets fault → SubsetMisfits tree j used (s ∷ subsets) fault
later_misfits tree j used n s subsets fault own m =
    let others = m.fit in
    let same : j + 1 + length m.before ≡ j + suc (length m.before) = omega arith in
    record {
      before = s ∷ m.before;
      here = m.here;
      others = m.others;
      items = m.items;
      joined = ap (λ ss. s ∷ ss) m.joined;
      fit = (
        own.0 + others.0,
        (own.0, others.0, own.1, others.1, refl),
        omega (arith, own.2, others.2),
        others.3,
      );
      refused =
          subst (λ k. FieldMisfits k 1 (course tree m.items) m.here.fields fault) same m.refused;
    }

all_refused_misfit : AreUnrolled
    → (tree : Tree) (j used : ℕ) (subsets : List Subset) (fault : MisfitFault) → used ≤ most_items
    → items_of_all (course tree) j used subsets ≡ Err fault
    → SubsetMisfits tree j used subsets fault
unfolding items_of_all
all_refused_misfit law tree j used [] fault le e = absurd (not_err _ fault e)
all_refused_misfit law tree j used (s ∷ subsets) fault le e =
    elim (bind_err (items_of j 1 (course tree used) s.fields) _ fault e) [
      | inl here ↦ first_misfits tree j used s subsets fault le here
      | inr behind ↦
          let own = counted_fit law tree j used behind.0 s.fields le behind.1 in
          later_misfits tree j used behind.0 s subsets fault own
          (all_refused_misfit law tree (j + 1) behind.0 subsets fault own.3 behind.2)
    ]

all_misfit_again : AreAllowed
    → (tree : Tree) (before : List Subset) (j used items : ℕ) (here : Subset) (others : List Subset)
    (fault : MisfitFault) → AllFitWithin tree used before items
    → FieldMisfits (j + length before) 1 (course tree items) here.fields fault
    → items_of_all (course tree) j used (before ++ here ∷ others) ≡ Err fault
unfolding items_of_all
all_misfit_again law tree [] j used items here others fault fit m =
    let none : fit.0 ≡ 0 = fit.1 in
    let end : items ≡ used + fit.0 = fit.2 in
    let same : items ≡ used = omega arith in
    let first : j + 0 ≡ j = omega arith in
    let m1 : FieldMisfits j 1 (course tree items) here.fields fault =
    subst (λ k. FieldMisfits k 1 (course tree items) here.fields fault) first m in
    let m2 : FieldMisfits j 1 (course tree used) here.fields fault =
    subst (λ k. FieldMisfits j 1 (course tree k) here.fields fault) same m1 in
    rw (misfit_refused j 1 (course tree used) here.fields fault m2) refl
all_misfit_again law tree (s ∷ before) j used items here others fault fit m =
    let own = fit.1.0 in
    let rest = fit.1.1 in
    let sum : fit.0 ≡ own + rest = fit.1.4 in
    let end : items ≡ used + fit.0 = fit.2 in
    let few : items ≤ most_items = fit.3 in
    let first : items_of j 1 (course tree used) s.fields ≡ Ok (used + own) =
    fitting_counted law tree j used (used + own) s.fields (own, fit.1.2, refl, omega arith) in
    let place : j + suc (length before) ≡ j + 1 + length before = omega arith in
    rw first
    (all_misfit_again law tree before (j + 1) (used + own) items here others fault
    (rest, fit.1.3, omega arith, few)
    (subst (λ k. FieldMisfits k 1 (course tree items) here.fields fault) place m))

pub written_refused_misfit : AreUnrolled
    → (tree : Tree) (subsets : List Subset) (fault : MisfitFault)
    → written_bits tree false subsets ≡ Err fault → SubsetMisfits tree 1 0 subsets fault
written_refused_misfit law tree subsets fault e =
    all_refused_misfit law tree 1 0 subsets fault (omega arith)
    (map_err _ (items_of_all (course tree) 1 0 subsets) fault e)

pub written_misfit_refused : AreAllowed → (tree : Tree) (subsets : List Subset) (fault : MisfitFault)
    → SubsetMisfits tree 1 0 subsets fault → written_bits tree false subsets ≡ Err fault
written_misfit_refused law tree subsets fault m =
    let e : items_of_all (course tree) 1 0 subsets ≡ Err fault =
    ap (items_of_all (course tree) 1 0) m.joined
    ∙ all_misfit_again law tree m.before 1 0 m.items m.here m.others fault m.fit m.refused in
    ap (result_map (λ items. plain_subsets subsets)) e

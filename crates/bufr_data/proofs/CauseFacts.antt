-- A course refuses exactly what the template's tree does not go on with.
use Rattle.std.proofs.Common.{◌≡◌, ℕ, ◌+◌, ◌≤◌, Bool, false, List, [], ◌∷◌, length, Err, refl}
use Rattle.std.proofs.Common.{sym, subst, arith}
use Rattle.std.specs.Prelude.{map}
use Rattle.bufr_expand.specs.declared.operators.Spec.{Spec}
use Rattle.bufr_expand.specs.declared.walk.WalkFault.TheVariants as walks
use Rattle.bufr_expand.specs.Courses.{Course, ends, stops, asks, course}
use Rattle.bufr_expand.specs.Trees.{Tree}
use Rattle.bufr_expand.specs.Unrolling.{NumberedField, After, Unrolls}
use Rattle.bufr_expand.specs.NextFields.{wants, lacks, BeginsWithin}
use Rattle.bufr_expand.specs.NextFields.{PassesLimit}
use Rattle.bufr_expand.specs.Limits.{most_items}
use Rattle.bufr_fields.specs.declared.field.Field.{Field}
use Rattle.bufr_fields.specs.declared.fault.DataFault.{DataFault}
use Rattle.bufr_fields.specs.declared.fault.MisfitFault.{MisfitFault}
use Rattle.bufr_fields.specs.declared.fault.MisfitFault.TheVariants as misfits
use Rattle.bufr_fields.specs.declared.field.Subset.{Subset}
use Rattle.bufr_data.specs.Plain.{fields_at, subsets_at}
use Rattle.bufr_fields.specs.Forms.{items_of}
use Rattle.bufr_data.specs.Data.{written_bits}
use Rattle.bufr_fields.specs.Fits.{told_of}
use Rattle.bufr_fields.specs.Asked.{IsAsked, Passes, Begin}
use Rattle.bufr_data.specs.Causes.{NoneFollows, no_room, no_spec, no_bits, FirstRefused}
use Rattle.bufr_data.specs.Causes.{FirstSubsetRefused, NotAllowed, too_many, past_limit}
use Rattle.bufr_data.specs.Causes.{without_spec, another, FirstMisfit, FirstSubsetMisfit}
use Rattle.bufr_fields.specs.CourseLaws.{Laws, passes_after, after_passes, begun, begun_after}
use Rattle.bufr_fields.specs.CourseLaws.{limit_passed, AreUnrolled, AreAllowed, IsAskedNext}
use Rattle.bufr_fields.specs.CourseLaws.{IsLackingNext, IsTooLargeNext, IsOnward}
use Rattle.bufr_data.proofs.PlainFacts.Refusals.{CannotStand, FieldRefused, SubsetRefused, CannotGoOn}
use Rattle.bufr_data.proofs.PlainFacts.Refusals.{FieldMisfits, SubsetMisfits}
use Rattle.bufr_data.proofs.RefusalFacts.{refused_stand, standing_refused, subsets_refused_stand}
use Rattle.bufr_data.proofs.RefusalFacts.{subsets_standing_refused, refused_misfit, misfit_refused}
use Rattle.bufr_data.proofs.RefusalFacts.{written_refused_misfit, written_misfit_refused}

pub laws_from : AreUnrolled → AreAllowed → IsAskedNext → IsLackingNext → IsTooLargeNext → IsOnward
    → Laws
laws_from unrolled allowed asked lacking too_large goes_on = record {
  unrolled = unrolled;
  allowed = allowed;
  asked = asked;
  lacking = lacking;
  too_large = too_large;
  goes_on = goes_on;
}

pub passes_full : Laws → (tree : Tree) (used : ℕ) (before : List Field) → used ≤ most_items
    → Begin tree used before → PassesLimit tree used (map told_of before)
    → Passes (course tree used) before (stops most_items walks.TooLarge)
passes_full laws tree used before le b p =
    let a = begun_after laws tree used before le b in
    let is : a.0 ≡ stops most_items walks.TooLarge =
    (laws.too_large tree used (map told_of before) a.0 le a.1).1 p in
    let after = subst (λ (c : Course). After (course tree used) (map told_of before) c) is a.1 in
    after_passes (course tree used) before _ after b.formed

pub passes_lacking : Laws → (tree : Tree) (used : ℕ) (before : List Field) (d met : ℕ)
    → used ≤ most_items → Begin tree used before
    → BeginsWithin tree used (map told_of before) (lacks d) met
    → Passes (course tree used) before (stops met (walks.EffectiveRange d))
passes_lacking laws tree used before d met le b w =
    after_passes (course tree used) before _
    ((laws.lacking tree used (map told_of before) met d le).1 w) b.formed

pub passes_asked : Laws → (tree : Tree) (used : ℕ) (before : List Field) (d met : ℕ) (spec : Spec)
    → used ≤ most_items → Begin tree used before
    → BeginsWithin tree used (map told_of before) (wants d spec) met
    → (more : ℕ → Course) × Passes (course tree used) before (asks met d spec more)
passes_asked laws tree used before d met spec le b w =
    let a = (laws.asked tree used (map told_of before) met d spec le).1 w in
    (a.0, after_passes (course tree used) before _ a.1 b.formed)

-- what the tree says of the course after some fields
abbrev pub Follows : Tree → ℕ → List NumberedField → Course → Type 0
Follows tree used fields (ends n) = Unrolls tree used fields n
Follows tree used fields (stops n walks.TooLarge) = PassesLimit tree used fields
Follows tree used fields (stops n (walks.EffectiveRange d)) =
    BeginsWithin tree used fields (lacks d) n
Follows tree used fields (asks met d spec more) = BeginsWithin tree used fields (wants d spec) met

follows_after : Laws → (tree : Tree) (used : ℕ) (fields : List NumberedField) (next : Course)
    → used ≤ most_items → After (course tree used) fields next → Follows tree used fields next
follows_after laws tree used fields (ends n) le after = laws.unrolled tree used fields n le after
follows_after laws tree used fields (stops n walks.TooLarge) le after =
    limit_passed laws tree used n fields le after
follows_after laws tree used fields (stops n (walks.EffectiveRange d)) le after =
    (laws.lacking tree used fields n d le).0 after
follows_after laws tree used fields (asks met d spec more) le after =
    (laws.asked tree used fields met d spec le).0 (more, after)

pub follows : Laws → (tree : Tree) (used : ℕ) (before : List Field) (next : Course)
    → used ≤ most_items → Passes (course tree used) before next
    → Follows tree used (map told_of before) next
follows laws tree used before next le passed =
    follows_after laws tree used (map told_of before) next le
    (passes_after (course tree used) before next passed).0

read_cause : (tree : Tree) (j used : ℕ) (before : List Field) (next : Course) (rest : List Bool)
    (fault : DataFault) → Follows tree used (map told_of before) next
    → CannotStand j (1 + length before) next rest fault → NoneFollows tree used j before rest fault
read_cause tree j used before (ends n) rest fault w h = absurd h
read_cause tree j used before (stops n walks.TooLarge) rest fault w h = no_room w h
read_cause tree j used before (stops n (walks.EffectiveRange d)) rest fault w h = no_spec d n w h
read_cause tree j used before (asks met d spec more) rest fault w h =
    no_bits d met spec w h.1 h.0

first_of_course : Laws → (tree : Tree) (j used : ℕ) (front : List Bool) (fault : DataFault)
    → used ≤ most_items → FieldRefused j 1 (course tree used) front fault
    → FirstRefused tree j used front fault
first_of_course laws tree j used front fault le r =
    record {
      before = r.before;
      rest = r.rest;
      begin = begun laws tree used r.before r.next le r.passed;
      stand = r.stand;
      refused = read_cause tree j used r.before r.next r.rest fault
          (follows laws tree used r.before r.next le r.passed) r.refused;
    }

cause_read : Laws → (tree : Tree) (j used : ℕ) (before : List Field) (rest : List Bool)
    (fault : DataFault) → used ≤ most_items → Begin tree used before
    → NoneFollows tree used j before rest fault → (next : Course)
    × Passes (course tree used) before next × CannotStand j (1 + length before) next rest fault
cause_read laws tree j used before rest fault le b (no_room p e) =
    (stops most_items walks.TooLarge, passes_full laws tree used before le b p, e)
cause_read laws tree j used before rest fault le b (no_spec d met w e) =
    (stops met (walks.EffectiveRange d), passes_lacking laws tree used before d met le b w, e)
cause_read laws tree j used before rest fault le b (no_bits d met spec w none e) =
    let a = passes_asked laws tree used before d met spec le b w in
    (asks met d spec a.0, a.1, (e, none))

course_of_first : Laws → (tree : Tree) (j used : ℕ) (front : List Bool) (fault : DataFault)
    → used ≤ most_items → FirstRefused tree j used front fault
    → FieldRefused j 1 (course tree used) front fault
course_of_first laws tree j used front fault le r =
    let c = cause_read laws tree j used r.before r.rest fault le r.begin r.refused in
    record {
      before = r.before;
      next = c.0;
      rest = r.rest;
      passed = c.1;
      stand = r.stand;
      refused = c.2;
    }

pub read_refused_first : Laws → (tree : Tree) (j used : ℕ) (front : List Bool) (fault : DataFault)
    → used ≤ most_items → fields_at j 1 (course tree used) front ≡ Err fault
    → FirstRefused tree j used front fault
read_refused_first laws tree j used front fault le e =
    first_of_course laws tree j used front fault le
    (refused_stand j 1 (course tree used) front fault e)

pub first_read_refused : Laws → (tree : Tree) (j used : ℕ) (front : List Bool) (fault : DataFault)
    → used ≤ most_items → FirstRefused tree j used front fault
    → fields_at j 1 (course tree used) front ≡ Err fault
first_read_refused laws tree j used front fault le r =
    standing_refused j 1 (course tree used) front fault
    (course_of_first laws tree j used front fault le r)

pub subsets_refused_first : Laws → (tree : Tree) (n : ℕ) (front : List Bool) (fault : DataFault)
    → subsets_at (course tree) 1 n 0 front ≡ Err fault → FirstSubsetRefused tree n front fault
subsets_refused_first laws tree n front fault e =
    let r = subsets_refused_stand laws.unrolled tree 1 n 0 front fault (omega arith) e in
    record {
      before = r.before;
      items = r.items;
      rest = r.rest;
      fewer = r.fewer;
      fit = r.fit;
      stand = r.stand;
      refused = first_of_course laws tree (1 + length r.before) r.items r.rest fault r.fit.3
          r.refused;
    }

pub first_subsets_refused : Laws → (tree : Tree) (n : ℕ) (front : List Bool) (fault : DataFault)
    → FirstSubsetRefused tree n front fault → subsets_at (course tree) 1 n 0 front ≡ Err fault
first_subsets_refused laws tree n front fault r =
    let s : SubsetRefused tree 1 n 0 front fault = record {
      before = r.before;
      items = r.items;
      rest = r.rest;
      fewer = r.fewer;
      fit = r.fit;
      stand = r.stand;
      refused = course_of_first laws tree (1 + length r.before) r.items r.rest fault r.fit.3
          r.refused;
    } in
    subsets_standing_refused laws.allowed tree 1 n 0 front fault s

write_cause : (tree : Tree) (j used : ℕ) (before : List Field) (next : Course) (others : List Field)
    (fault : MisfitFault) → Follows tree used (map told_of before) next
    → CannotGoOn j (1 + length before) next others fault
    → NotAllowed tree used j before others fault
write_cause tree j used before (ends n) [] fault w h = absurd h
write_cause tree j used before (ends n) (f ∷ fields) fault w h = too_many f fields n w refl h
write_cause tree j used before (stops n walks.TooLarge) others fault w h = past_limit w h
write_cause tree j used before (stops n (walks.EffectiveRange d)) others fault w h =
    without_spec d n w h
write_cause tree j used before (asks met d spec more) [] fault w h =
    another d met spec w (λ g behind e asked. cc) h
write_cause tree j used before (asks met d spec more) (f ∷ fields) fault w h =
    another d met spec w (λ g behind e asked. let same : g ≡ f = cc in
    h.1 (subst (λ (x : Field). IsAsked d spec x) same asked)) h.0

misfit_of_course : Laws → (tree : Tree) (j used : ℕ) (fields : List Field) (fault : MisfitFault)
    → used ≤ most_items → FieldMisfits j 1 (course tree used) fields fault
    → FirstMisfit tree j used fields fault
misfit_of_course laws tree j used fields fault le m =
    record {
      before = m.before;
      others = m.others;
      begin = begun laws tree used m.before m.next le m.passed;
      joined = m.joined;
      refused = write_cause tree j used m.before m.next m.others fault
          (follows laws tree used m.before m.next le m.passed) m.refused;
    }

other_goes_on : (j i met d : ℕ) (spec : Spec) (more : ℕ → Course) (others : List Field)
    (fault : MisfitFault) → ((f : Field) (behind : List Field) → others ≡ f ∷ behind
    → IsAsked d spec f → ⊥) → fault ≡ misfits.DoesNotFit j i
    → CannotGoOn j i (asks met d spec more) others fault
other_goes_on j i met d spec more [] fault none e = e
other_goes_on j i met d spec more (f ∷ fields) fault none e = (e, none f fields refl)

cause_write : Laws → (tree : Tree) (j used : ℕ) (before others : List Field) (fault : MisfitFault)
    → used ≤ most_items → Begin tree used before → NotAllowed tree used j before others fault
    → (next : Course) × Passes (course tree used) before next
    × CannotGoOn j (1 + length before) next others fault
cause_write laws tree j used before others fault le b (too_many f behind n u is e) =
    let after = laws.allowed tree used (map told_of before) n u in (
      ends n,
      after_passes (course tree used) before _ after b.formed,
      subst (λ (fs : List Field). CannotGoOn j (1 + length before) (ends n) fs fault) (sym is) e,
    )
cause_write laws tree j used before others fault le b (past_limit p e) =
    (stops most_items walks.TooLarge, passes_full laws tree used before le b p, e)
cause_write laws tree j used before others fault le b (without_spec d met w e) =
    (stops met (walks.EffectiveRange d), passes_lacking laws tree used before d met le b w, e)
cause_write laws tree j used before others fault le b (another d met spec w none e) =
    let a = passes_asked laws tree used before d met spec le b w in (
      asks met d spec a.0,
      a.1,
      other_goes_on j (1 + length before) met d spec a.0 others fault none e,
    )

course_of_misfit : Laws → (tree : Tree) (j used : ℕ) (fields : List Field) (fault : MisfitFault)
    → used ≤ most_items → FirstMisfit tree j used fields fault
    → FieldMisfits j 1 (course tree used) fields fault
course_of_misfit laws tree j used fields fault le m =
    let c = cause_write laws tree j used m.before m.others fault le m.begin m.refused in
    record {
      before = m.before;
      others = m.others;
      next = c.0;
      passed = c.1;
      joined = m.joined;
      refused = c.2;
    }

pub write_refused_first : Laws
    → (tree : Tree) (j used : ℕ) (fields : List Field) (fault : MisfitFault) → used ≤ most_items
    → items_of j 1 (course tree used) fields ≡ Err fault → FirstMisfit tree j used fields fault
write_refused_first laws tree j used fields fault le e =
    misfit_of_course laws tree j used fields fault le
    (refused_misfit j 1 (course tree used) fields fault e)

pub first_write_refused : Laws
    → (tree : Tree) (j used : ℕ) (fields : List Field) (fault : MisfitFault) → used ≤ most_items
    → FirstMisfit tree j used fields fault → items_of j 1 (course tree used) fields ≡ Err fault
first_write_refused laws tree j used fields fault le m =
    misfit_refused j 1 (course tree used) fields fault
    (course_of_misfit laws tree j used fields fault le m)

pub written_refused_first : Laws → (tree : Tree) (subsets : List Subset) (fault : MisfitFault)
    → written_bits tree false subsets ≡ Err fault → FirstSubsetMisfit tree subsets fault
written_refused_first laws tree subsets fault e =
    let m = written_refused_misfit laws.unrolled tree subsets fault e in
    record {
      before = m.before;
      here = m.here;
      others = m.others;
      items = m.items;
      joined = m.joined;
      fit = m.fit;
      refused = misfit_of_course laws tree (1 + length m.before) m.items m.here.fields fault m.fit.3
          m.refused;
    }

pub first_written_refused : Laws → (tree : Tree) (subsets : List Subset) (fault : MisfitFault)
    → FirstSubsetMisfit tree subsets fault → written_bits tree false subsets ≡ Err fault
first_written_refused laws tree subsets fault m =
    let s : SubsetMisfits tree 1 0 subsets fault = record {
      before = m.before;
      here = m.here;
      others = m.others;
      items = m.items;
      joined = m.joined;
      fit = m.fit;
      refused = course_of_misfit laws tree (1 + length m.before) m.items m.here.fields fault m.fit.3
          m.refused;
    } in
    written_misfit_refused laws.allowed tree subsets fault s

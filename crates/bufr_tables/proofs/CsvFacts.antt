-- Reading a record takes the next of those left, whatever the reader's buffers hold.
use Rattle.std.proofs.Common.{◌≡◌, ◌∙◌, ℕ, zero, suc, ◌<◌, ◌≤◌, ◌==◌, ◌||◌, ◌+◌, Bool, true, false}
use Rattle.std.proofs.Common.{List, [], ◌∷◌, length, Option, Some, None, Result, Ok, Err, refl, ap}
use Rattle.std.proofs.Common.{sym, arith, inl, inr, Bor}
use Rattle.std.proofs.lemmas.Bool.{cases_Bool}
use Rattle.std.specs.Prelude.{if◌then◌else◌, IfOk, OnOk, IfErr, MatchBool}
use Rattle.csv.specs.Machine.{Read, next_record, step, in_field, start_field, start_record, is_end}
use Rattle.csv.specs.Machine.{ends_at_end, fields_after, field_after}
use Rattle.csv.specs.Reading.{records_from, records_next, default_config, pending_of, has_failed}
use Rattle.csv.specs.Reading.{reader_trim, is_flexible, took_first, error_kind, stops_reader, Ready}
use Rattle.csv.specs.Reading.{ReadRecord, ExplainsRead, NextIs, ReadsNext}
use Rattle.csv.specs.declared.parser.State.{State}
use Rattle.csv.specs.declared.parser.State.TheVariants as st
use Rattle.csv.specs.declared.parser.Action.{Action}
use Rattle.csv.specs.declared.parser.Action.TheVariants as act
use Rattle.csv.specs.declared.reader.Reader.{Reader}
use Rattle.csv.specs.declared.reader.Trim.TheVariants as trim
use Rattle.csv.specs.declared.error.Error.{Error}
use Rattle.csv.specs.declared.error.ErrorKind.{ErrorKind}
use Rattle.csv.specs.declared.error.ErrorKind.TheVariants as kind
use Rattle.bufr_tables.specs.CsvRecords.{source, left_from, left_of, IsPlain}

pub extra : State → ℕ
extra s = if ends_at_end s then 1 else 0

-- a step that ends a record leaves the machine between records
record Good (p : State × Action) : Type 0 where
  ends : is_end p.1 ≡ true → ends_at_end p.0 ≡ false

good-if : (w : Bool) (q r : State × Action) → Good q → Good r → Good (if w then q else r)
good-if true q r a b = a
good-if false q r a b = b

good-skip : (s : State) → Good (s, act.Skip)
good-skip s = record { ends = λ h. cc }

good-copy : (s : State) → Good (s, act.Copy)
good-copy s = record { ends = λ h. cc }

good-field : (s : State) → Good (s, act.EndField)
good-field s = record { ends = λ h. cc }

good-after : (z : Bool) → Good ((if z then st.AfterCr else st.StartRecord), act.EndRecord)
good-after true = record { ends = λ h. refl }
good-after false = record { ends = λ h. refl }

good-in_field : (c : ℕ) → Good (in_field default_config c)
good-in_field c =
    good-if (c == 44) _ _ (good-field st.StartField)
    (good-if ((c == 13) || (c == 10)) _ _ (good-after (c == 13)) (good-copy st.InField))

good-start_field : (c : ℕ) → Good (start_field default_config c)
good-start_field c = good-if (c == 34) _ _ (good-skip st.InQuoted) (good-in_field c)

good-start_record : (c : ℕ) → Good (start_record default_config c)
good-start_record c =
    good-if ((c == 13) || (c == 10)) _ _ (good-skip st.StartRecord) (good-start_field c)

good-step : (s : State) (c : ℕ) → Good (step default_config s c)
good-step st.StartRecord c = good-start_record c
good-step st.StartField c = good-start_field c
good-step st.InField c = good-in_field c
good-step st.InQuoted c = good-if (c == 34) _ _ (good-skip st.AfterQuote) (good-copy st.InQuoted)
good-step st.InEscape c = good-copy st.InQuoted
good-step st.AfterQuote c = good-if (c == 34) _ _ (good-copy st.InQuoted) (good-in_field c)
good-step st.InComment c = good-if (c == 10) _ _ (good-skip st.StartRecord) (good-skip st.InComment)
good-step st.AfterCr c = good-if (c == 10) _ _ (good-skip st.StartRecord) (good-start_record c)

extra-small : (s : State) → extra s ≤ 1
unfolding extra
extra-small s =
    elim (cases_Bool (ends_at_end s)) [ inl e ↦ rw e (omega arith) | inr e ↦ rw e (omega arith) ]

-- a record takes some octets and leaves the machine between records
record Shorter (s : State) (n : ℕ) (q : Read) : Type 0 where
  less : length q.2 < n + extra s
  ends : ends_at_end q.1 ≡ false

shorter-end : (s : State) (fields : List (List ℕ)) (b : Bool) (q : Read) → b ≡ ends_at_end s
    → (if b then Some (fields, st.StartRecord, []) else None) ≡ Some q → Shorter s 0 q
unfolding extra
shorter-end s fields true q e h =
    let k : (fields, st.StartRecord, []) ≡ q =
    cc in record { less = rw (← k, ← e) (omega arith); ends = rw (← k) refl }
shorter-end s fields false q e h = absurd (cc)

shorter : (s : State) (fields : List (List ℕ)) (field xs : List ℕ) (q : Read)
    → next_record default_config s fields field xs ≡ Some q → Shorter s (length xs) q
unfolding next_record
shorter s fields field [] q h = shorter-end s _ (ends_at_end s) q refl h
shorter s fields field (c ∷ rest) q h =
    let more =
    shorter (step default_config s c).0 (fields_after (step default_config s c).1 fields field)
    (field_after (step default_config s c).1 c field) rest q in
    elim (cases_Bool (is_end (step default_config s c).1)) [
      | inl e ↦
          let k : (
            fields_after (step default_config s c).1 fields field,
            (step default_config s c).0,
            rest,
          ) ≡ q = some-same (rw e at h) in
          record { less = rw (← k) (omega arith); ends = rw (← k) ((good-step s c).ends e) }
      | inr e ↦
          let m = more (rw e at h) in
          record {
            less = omega
                (arith, m.less, extra-small (step default_config s c).0);
            ends = m.ends;
          }
    ]
  where
    some-same : {A : Type 0} {x y : A} → Some x ≡ Some y → x ≡ y
    some-same h = cc

none-extra : (s : State) → ends_at_end s ≡ false → extra s ≡ 0
unfolding extra
none-extra s e = rw e

next-enough : (n m : ℕ) (s : State) (xs : List ℕ) → length xs + extra s < suc n
    → length xs + extra s < suc m
    → ((t : State) (ys : List ℕ) → length ys + extra t < n → length ys + extra t < m
    → records_from default_config n t ys ≡ records_from default_config m t ys) → (o : Option Read)
    → next_record default_config s [] [] xs ≡ o
    → records_next (records_from default_config n) o
    ≡ records_next (records_from default_config m) o
next-enough n m s xs p q more None e = refl
next-enough n m s xs p q more (Some r) e =
    let k = shorter s [] [] xs r e in
    let z = none-extra r.1 k.ends in
    ap (λ (t : List (List (List ℕ))). r.0 ∷ t)
    (more r.1 r.2 (omega (arith, k.less, z)) (omega (arith, k.less, z)))

pub enough : (n m : ℕ) (s : State) (xs : List ℕ) → length xs + extra s < n → length xs + extra s < m
    → records_from default_config n s xs ≡ records_from default_config m s xs
unfolding records_from
enough zero m s xs p q = absurd (omega arith)
enough (suc n) zero s xs p q = absurd (omega arith)
enough (suc n) (suc m) s xs p q =
    next-enough n m s xs p q (λ t ys a b. enough n m t ys a b)
    (next_record default_config s [] [] xs) refl

pub all-records : (xs : List ℕ)
    → records_from default_config (length xs + 2) st.StartRecord xs
    ≡ records_from default_config (length xs + 1) st.StartRecord xs
unfolding extra
all-records xs =
    enough (length xs + 2) (length xs + 1) st.StartRecord xs (omega arith) (omega arith)

one-step : (n : ℕ) (s : State) (xs : List ℕ)
    → records_from default_config (n + 2) s xs
    ≡ records_next (records_from default_config (n + 1)) (next_record default_config s [] [] xs)
unfolding records_from
one-step n s xs = let e : n + 2 ≡ suc (n + 1) = omega arith in rw e

reads-known : (s s2 : State) (xs : List ℕ) (k : Option (List ℕ)) (found : Bool)
    (fields : List (List ℕ)) → ReadsNext default_config s (Some xs) k found fields s2
    → (z : List ℕ) × (k ≡ Some z)
reads-known s s2 xs None found fields r = absurd r
reads-known s s2 xs (Some z) found fields r = (z, refl)

read-one : (s s2 : State) (xs z : List ℕ) (found : Bool) (fields : List (List ℕ)) (o : Option Read)
    → next_record default_config s [] [] xs ≡ o → NextIs o found fields s2 z
    → MatchBool found (records_next (records_from default_config (length xs + 1)) o
    ≡ fields ∷ records_from default_config (length z + 2) s2 z)
    (records_next (records_from default_config (length xs + 1)) o ≡ [])
read-one s s2 xs z found fields None e n = rw n refl
read-one s s2 xs z found fields (Some p) e n =
    let k = shorter s [] [] xs p e in
    let small = extra-small s in
    let none = none-extra p.1 k.ends in
    rw (n.0, n.1, n.2, n.3)
    (ap (λ (t : List (List (List ℕ))). p.0 ∷ t)
    (enough (length xs + 1) (length p.2 + 2) p.1 p.2 (omega (arith, k.less, small, none))
    (omega (arith, none))))

read-left : (s s2 : State) (xs : List ℕ) (k : Option (List ℕ)) (found : Bool)
    (fields : List (List ℕ)) → ReadsNext default_config s (Some xs) k found fields s2
    → MatchBool found (left_from s (Some xs) ≡ fields ∷ left_from s2 k) (left_from s (Some xs) ≡ [])
read-left s s2 xs None found fields r = absurd r
read-left s s2 xs (Some z) found fields r =
    rw (one-step (length xs) s xs)
    (read-one s s2 xs z found fields (next_record default_config s [] [] xs) refl r)

bytes_of : Bor (List ℕ) → Option (List ℕ)
bytes_of s = Some s.now

source-after : (b : Reader (Bor (List ℕ))) → b.bom_checked ≡ true
    → source b ≡ pending_of (Some b.rdr.now) b
source-after b h = rw h

stops-only : (a b : Reader (Bor (List ℕ))) (k : ErrorKind)
    → ExplainsRead (λ s. Some s.now) a b false k → is_flexible a ≡ true → stops_reader k ≡ false → ⊥
stops-only a b (kind.Io e) x f s = cc
stops-only a b kind.OutOfMemory x f s = cc
stops-only a b (kind.UnequalLengths pos expected len) x f s = let g = x.0 in cc
stops-only a b (kind.Utf8 pos err) x f s = let g = x.0 in cc
stops-only a b (kind.Serialize why) x f s = x
stops-only a b (kind.Deserialize pos err) x f s = x

pub step-plain : (a b : Reader (Bor (List ℕ))) (res : Result Bool Error) (fields : List (List ℕ))
    → IsPlain a → (reader_trim a ≡ trim.None → OnOk res (took_first b ≡ true))
    → IfOk res (λ found. reader_trim a ≡ trim.None → Ready a
    → ReadRecord (λ s. Some s.now) a b found fields) → OnOk res (is_flexible b ≡ is_flexible a)
    → OnOk res (has_failed b ≡ has_failed a)
    → IfErr res (λ e. has_failed b ≡ stops_reader (error_kind e))
    → (has_failed a ≡ true → res ≡ Ok false)
    → IfErr res (λ e. Ready a → ExplainsRead (λ s. Some s.now) a b false (error_kind e)) → IsPlain b
step-plain a b (Ok found) fields plain ready reads flexible goes fails failed why = λ fine.
    let w = plain (sym goes ∙ fine) in
    let r = reads w.plain w.ready in
    let k =
    reads-known a.state b.state w.known.0 (pending_of (Some b.rdr.now) b) found fields
    (rw (w.config, w.known.1) at r.0) in
    record {
      plain = r.3 ∙ w.plain;
      config = r.2
          ∙ w.config;
      ready = inl (ready w.plain);
      flexible = flexible
          ∙ w.flexible;
      known = (k.0, source-after b r.1 ∙ k.1);
    }
step-plain a b (Err e) fields plain ready reads flexible goes fails failed why = λ fine.
    elim (cases_Bool (has_failed a)) [
      | inl t ↦ let no_error = failed t in absurd (cc)
      | inr f ↦ let w = plain f in
          absurd (stops-only a b (error_kind e) (why w.ready) w.flexible (sym fails ∙ fine))
    ]

pub step-left : (a b : Reader (Bor (List ℕ))) (found : Bool) (fields : List (List ℕ)) → IsPlain a
    → (has_failed a ≡ true → found ≡ false)
    → (reader_trim a ≡ trim.None → Ready a → ReadRecord (λ s. Some s.now) a b found fields)
    → MatchBool found (left_of a ≡ fields ∷ left_of b) (left_of a ≡ [])
step-left a b found fields plain failed reads =
    elim (cases_Bool (has_failed a)) [
      | inl t ↦ rw (failed t, t) refl
      | inr f ↦
          let w = plain f in
          let r = reads w.plain w.ready in
          rw (w.known.1, source-after b r.1)
          (read-left a.state b.state w.known.0 (pending_of (Some b.rdr.now) b) found fields
          (rw (w.config, w.known.1) at r.0))
    ]

-- Laws of readers that an engine reads one after another.
use Rattle.std.proofs.Common.{◌≡◌, ℕ, zero, suc, ◌+◌, ◌<◌, ◌≤◌, List, [], ◌∷◌, ◌++◌, length, map}
use Rattle.std.proofs.Common.{get_or, refl, sym, ap, ◌∙◌, subst, arith, length-append, append_assoc}
use Rattle.std.specs.List.{AllByRecursion}
use Rattle.std.proofs.lemmas.List.{append-nil, length-map}
use Rattle.std.proofs.Math.ListN.{set}
use Rattle.bufr_bits.specs.Devices.{Reading}
use Rattle.bufr_io.specs.Engines.{IsFresh, WasReadOut, AreAllOf}
use Rattle.bufr_io.specs.Readers.{AreFresh, AreReadAtMost, AreReadBefore, AreReadTo, EndsAt, WereReadOut}

-- ---- lists

-- what holds of all holds of one of them
all_mid : {A : Type 0} (P : A → Type 0) (front : List A) (x : A) (behind : List A)
    → AllByRecursion P (front ++ x ∷ behind) → P x
all_mid P [] x behind all = all.0
all_mid P (y ∷ front) x behind all = all_mid P front x behind all.1

-- it holds of all after one is set for which it holds
all_set : {A : Type 0} (P : A → Type 0) (xs : List A) (i : ℕ) (x : A) → AllByRecursion P xs → P x
    → AllByRecursion P (set xs i x)
all_set P [] i x all here = all
all_set P (y ∷ xs) zero x all here = (here, all.1)
all_set P (y ∷ xs) (suc i) x all here = (all.0, all_set P xs i x all.1 here)

-- the element after a front
get_mid : (front : List Reading) (x : Reading) (behind : List Reading) (d : Reading)
    → get_or (front ++ x ∷ behind) (length front) d ≡ x
get_mid [] x behind d = refl
get_mid (y ∷ front) x behind d = get_mid front x behind d

-- setting the element after a front
set_mid : (front : List Reading) (x : Reading) (behind : List Reading) (y : Reading)
    → set (front ++ x ∷ behind) (length front) y ≡ front ++ y ∷ behind
set_mid [] x behind y = refl
set_mid (z ∷ front) x behind y = ap (λ (xs : List Reading). z ∷ xs) (set_mid front x behind y)

-- the image of an element of a list
item_at : {A : Type 0} (f : A → Reading) (xs : List A) (i : ℕ) (d : A) → i < length xs
    → f (get_or xs i d) ≡ get_or (map f xs) i (f (get_or xs i d))
item_at f [] i d inside = absurd (omega arith)
item_at f (x ∷ xs) zero d inside = refl
item_at f (x ∷ xs) (suc i) d inside = item_at f xs i d (omega arith)

-- a list with no element
none_left : (xs : List Reading) → length xs ≤ 0 → xs ≡ []
none_left [] h = refl
none_left (x ∷ xs) h = absurd (omega arith)

-- ---- readers

-- one fresh reader more
pub fresh_more : {A : Type 0} (reading : A → Reading) (readers : List A) (reader : A)
    → AreFresh (map reading readers) → IsFresh (reading reader)
    → AreFresh (map reading (readers ++ reader ∷ []))
fresh_more reading [] reader all here = (here, tt)
fresh_more reading (r ∷ readers) reader all here =
    (all.0, fresh_more reading readers reader all.1 here)

-- fresh readers have at most any number of reads
pub at_most_fresh : (reads : ℕ) (readers : List Reading) → AreFresh readers
    → AreReadAtMost reads readers
at_most_fresh reads [] fresh = tt
at_most_fresh reads (r ∷ readers) fresh =
    let none = fresh.0.reads in (omega arith, at_most_fresh reads readers fresh.1)

-- readers of at most `reads` reads stay so after one of them is set
pub at_most_set : (reads : ℕ) (readers : List Reading) (i : ℕ) (r : Reading)
    → AreReadAtMost reads readers → r.reads ≤ reads → AreReadAtMost reads (set readers i r)
at_most_set reads readers i r all here =
    all_set (λ (x : Reading). x.reads ≤ reads) readers i r all here

-- one more reader read to its end
read_out_more : (old new : List Reading) (octets : List (List ℕ)) (r r' : Reading) (more : List ℕ)
    → WereReadOut old new octets → WasReadOut r' → AreAllOf r more
    → WereReadOut (old ++ r ∷ []) (new ++ r' ∷ []) (octets ++ more ∷ [])
read_out_more [] [] [] r r' more out here all = (here, all, tt)
read_out_more (o ∷ old) (n ∷ new) (x ∷ octets) r r' more out here all =
    (out.0, out.1, read_out_more old new octets r r' more out.2 here all)
read_out_more [] [] (x ∷ octets) r r' more out here all = absurd out
read_out_more [] (n ∷ new) octets r r' more out here all = absurd out
read_out_more (o ∷ old) [] octets r r' more out here all = absurd out
read_out_more (o ∷ old) (n ∷ new) [] r r' more out here all = absurd out

-- the first `i` readers were read to their ends and had these octets; the later ones are as before
pub record Through (old new : List Reading) (octets : List (List ℕ)) (i : ℕ) : Type 0 where
  pub front : List Reading
  pub left : List Reading
  pub behind : List Reading
  pub old_are : old ≡ front ++ behind
  pub new_are : new ≡ left ++ behind
  pub as_many : length front ≡ i
  pub so_many : length left ≡ i
  pub out : WereReadOut front left octets

-- the reader at index `i` comes next
pub record Reached (old new : List Reading) (octets : List (List ℕ)) (i : ℕ)
    (r : Reading) : Type 0 where
  pub front : List Reading
  pub left : List Reading
  pub behind : List Reading
  pub old_are : old ≡ front ++ r ∷ behind
  pub new_are : new ≡ left ++ r ∷ behind
  pub as_many : length front ≡ i
  pub so_many : length left ≡ i
  pub out : WereReadOut front left octets

-- before the first reader
pub through_first : (readers : List Reading) → Through readers readers [] 0
through_first readers = record {
  front = [];
  left = [];
  behind = readers;
  old_are = refl;
  new_are = refl;
  as_many = refl;
  so_many = refl;
  out = tt;
}

-- after the last reader
pub through_all : (old new : List Reading) (octets : List (List ℕ)) (i : ℕ)
    → Through old new octets i → length new ≤ i → WereReadOut old new octets
through_all old new octets i t all =
    let long = ap length t.new_are ∙ length-append t.left t.behind in
    let many = t.so_many in
    let none = none_left t.behind (omega arith) in
    let front : t.front ≡ old =
    sym (t.old_are ∙ ap (λ (xs : List Reading). t.front ++ xs) none ∙ append-nil t.front) in
    let left : t.left ≡ new =
    sym (t.new_are ∙ ap (λ (xs : List Reading). t.left ++ xs) none ∙ append-nil t.left) in
    subst (λ (xs : List Reading). WereReadOut old xs octets) left
    (subst (λ (xs : List Reading). WereReadOut xs t.left octets) front t.out)

-- the next reader
reach_in : (old new : List Reading) (octets : List (List ℕ)) (i : ℕ) (r : Reading)
    (front left behind : List Reading) → old ≡ front ++ behind → new ≡ left ++ behind
    → length front ≡ i → length left ≡ i → WereReadOut front left octets → i < length new
    → r ≡ get_or new i r → Reached old new octets i r
reach_in old new octets i r front left [] old_are new_are as_many so_many out inside is =
    let long = ap length new_are ∙ length-append left [] in absurd (omega arith)
reach_in old new octets i r front left (x ∷ behind) old_are new_are as_many so_many out inside is =
    let at : get_or (left ++ x ∷ behind) i r ≡ x =
    subst (λ (k : ℕ). get_or (left ++ x ∷ behind) k r ≡ x) so_many (get_mid left x behind r) in
    let here : r ≡ x = is ∙ ap (λ (xs : List Reading). get_or xs i r) new_are ∙ at in
    record {
      front = front;
      left = left;
      behind = behind;
      old_are = old_are ∙ ap (λ (y : Reading). front ++ y ∷ behind) (sym here);
      new_are = new_are ∙ ap (λ (y : Reading). left ++ y ∷ behind) (sym here);
      as_many = as_many;
      so_many = so_many;
      out = out;
    }

-- the next reader parts the readers in those before it and those after it
pub reach : (old new : List Reading) (octets : List (List ℕ)) (i : ℕ) (r : Reading)
    → Through old new octets i → i < length new → r ≡ get_or new i r → Reached old new octets i r
reach old new octets i r t inside is =
    reach_in old new octets i r t.front t.left t.behind t.old_are t.new_are t.as_many t.so_many
    t.out inside is

-- the next reader, as contracts see it, parts the readers too
pub reach_item : {A : Type 0} (f : A → Reading) (old : List Reading) (xs : List A)
    (octets : List (List ℕ)) (i : ℕ) (d : A) → Through old (map f xs) octets i → i < length xs
    → Reached old (map f xs) octets i (f (get_or xs i d))
reach_item f old xs octets i d t inside =
    let long = length-map xs f in
    reach old (map f xs) octets i (f (get_or xs i d)) t (omega arith) (item_at f xs i d inside)

-- the next reader is fresh
pub fresh_next : (old new : List Reading) (octets : List (List ℕ)) (i : ℕ) (r : Reading)
    → AreFresh old → Reached old new octets i r → IsFresh r
fresh_next old new octets i r fresh at =
    all_mid IsFresh at.front r at.behind (subst AreFresh at.old_are fresh)

-- the readers after another state takes its place
pub put_next : (old new new' : List Reading) (octets : List (List ℕ)) (i : ℕ) (r r' : Reading)
    → (at : Reached old new octets i r) → new' ≡ set new i r' → new' ≡ at.left ++ r' ∷ at.behind
put_next old new new' octets i r r' at is =
    is ∙ ap (λ (xs : List Reading). set xs i r') at.new_are
    ∙ subst (λ (k : ℕ). set (at.left ++ r ∷ at.behind) k r' ≡ at.left ++ r' ∷ at.behind) at.so_many
    (set_mid at.left r at.behind r')

-- the next reader was read to its end
pub through_more : (old new new' : List Reading) (octets : List (List ℕ)) (more : List ℕ) (i : ℕ)
    (r r' : Reading) → Reached old new octets i r → new' ≡ set new i r' → WasReadOut r'
    → AreAllOf r more → Through old new' (octets ++ more ∷ []) (i + 1)
through_more old new new' octets more i r r' at is out all =
    let front = length-append at.front (r ∷ []) in
    let left = length-append at.left (r' ∷ []) in
    let as_many = at.as_many in
    let so_many = at.so_many in
    record {
      front = at.front ++ r ∷ [];
      left = at.left ++ r' ∷ [];
      behind = at.behind;
      old_are = at.old_are ∙ sym (append_assoc at.front (r ∷ []) at.behind);
      new_are =
          put_next old new new' octets i r r' at is
          ∙ sym (append_assoc at.left (r' ∷ []) at.behind);
      as_many = omega arith;
      so_many = omega arith;
      out = read_out_more at.front at.left octets r r' more at.out out all;
    }

-- the engine ends at the next reader
pub ends_here : (Before : List Reading → List Reading → Type 0) (Ends : Reading → Reading → Type 0)
    (old new new' : List Reading) (octets : List (List ℕ)) (i : ℕ) (r r' : Reading)
    → (at : Reached old new octets i r) → new' ≡ set new i r'
    → ((xs ys : List Reading) → WereReadOut xs ys octets → Before xs ys) → Ends r r'
    → EndsAt Before Ends (i + 1) old new'
ends_here Before Ends old new new' octets i r r' at is before ends =
    record {
      before_old = at.front;
      before_new = at.left;
      at_old = r;
      at_new = r';
      behind = at.behind;
      old_are = at.old_are;
      new_are = put_next old new new' octets i r r' at is;
      number_is = ap (λ (n : ℕ). n + 1) (sym at.as_many);
      before = before at.front at.left at.out;
      ends = ends;
    }

-- ---- readers that are read to some point

-- reading ended there
pub stops_here : (Ends : Reading → Reading → Type 0) (old new new' : List Reading)
    (octets : List (List ℕ)) (i : ℕ) (r r' : Reading) → (at : Reached old new octets i r)
    → new' ≡ set new i r' → Ends r r' → AreReadTo old new' octets Ends
stops_here Ends old new new' octets i r r' at is ends = record {
  before_old = at.front;
  before_new = at.left;
  at_old = r;
  at_new = r';
  after = at.behind;
  old_are = at.old_are;
  new_are = put_next old new new' octets i r r' at is;
  before = at.out;
  ends = ends;
}

-- there are as many streams as readers
as_many_read : (old new : List Reading) (octets : List (List ℕ)) → WereReadOut old new octets
    → length octets ≡ length old
as_many_read [] [] [] out = refl
as_many_read (o ∷ old) (n ∷ new) (x ∷ octets) out =
    let long = as_many_read old new octets out.2 in omega arith
as_many_read [] [] (x ∷ octets) out = absurd out
as_many_read [] (n ∷ new) octets out = absurd out
as_many_read (o ∷ old) [] octets out = absurd out
as_many_read (o ∷ old) (n ∷ new) [] out = absurd out

-- the streams of the readers so far are as many as these
pub streams_read : (old new : List Reading) (octets : List (List ℕ)) (i : ℕ)
    → Through old new octets i → length octets ≡ i
streams_read old new octets i t =
    let long = as_many_read t.front t.left octets t.out in
    let many = t.as_many in omega arith

-- no reader was read after those that were read out
pub read_before : (old new : List Reading) (octets : List (List ℕ)) → WereReadOut old new octets
    → AreReadBefore old new octets
read_before old new octets out = record {
  before_old = old;
  before_new = new;
  after = [];
  old_are = sym (append-nil old);
  new_are = sym (append-nil new);
  before = out;
}

-- no reader was read at all
pub none_read : (readers : List Reading) → AreReadBefore readers readers []
none_read readers = record {
  before_old = [];
  before_new = [];
  after = readers;
  old_are = refl;
  new_are = refl;
  before = tt;
}

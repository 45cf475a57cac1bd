-- The orders of keys, slots and ranks are total, and what ties is equal: for `entries_never_tie`
-- and the laws of what is kept.
use Rattle.std.proofs.Common.{◌≡◌, ℕ, ℤ, pos, Option, Some, None, List, [], ◌++◌, refl, sym, ap}
use Rattle.std.proofs.Common.{◌∙◌}
use Rattle.std.proofs.lemmas.List.{append-nil}
use Rattle.std.specs.Cmp.Lexicographic.{slice_cmp}
use Rattle.std.specs.List.Sorted.{IsStrictlySortedBy}
use Rattle.std.specs.Ordering.{nat_cmp, int_cmp, ordering_then, ordering_reverse}
use Rattle.std.specs.Cmp.{IsTotalOrder}
use Rattle.std.proofs.lemmas.Cmp.{then_total, on_total, nat_cmp_total, int_cmp_total}
use Rattle.std.proofs.lemmas.Cmp.{nat_list_cmp_total}
use Rattle.std.proofs.lemmas.Map.Lookups.{exact_signed, exact_unsigned, exact_bytes}
use Rattle.std.specs.declared.cmp.Ordering.{Ordering}
use Rattle.std.specs.declared.cmp.Ordering.TheVariants.{Less, Equal, Greater}
use Rattle.bufr_entries.specs.declared.key.Station.{Station}
use Rattle.bufr_entries.specs.declared.key.Station.TheVariants.{Wmo, Wigos, Mobile}
use Rattle.bufr_entries.specs.declared.key.Moment.{Moment}
use Rattle.bufr_entries.specs.declared.key.Key.{Key}
use Rattle.bufr_entries.specs.KeyOrders.{octets_cmp, station_cmp, moment_cmp, key_cmp}
use Rattle.bufr_entries.specs.Entries.{coarse_key_cmp}
use Rattle.bufr_entries.specs.Entries.{slot_in, slot_by, slot_cmp, coarse_slot_cmp, rank_cmp, kept}
use Rattle.bufr_entries.specs.Entries.{coarsely_kept}
use Rattle.bufr_entries.specs.declared.entry.Entry.{Entry}
use Rattle.bufr_entries.specs.Keeping.{Has, SameMembers, AreKept}
use Rattle.bufr_entries.specs.KeepingLaws as laws

total_by : {K : Type 0} (R S : K → K → Ordering) → ((a b : K) → R a b ≡ S a b) → IsTotalOrder S
    → IsTotalOrder R
total_by R S same o = record {
  antisymm = λ x y. same x y ∙ o.antisymm x y ∙ ap ordering_reverse (sym (same y x));
  trans = λ x y z h k. same x z ∙ o.trans x y z (sym (same x y) ∙ h) (sym (same y z) ∙ k);
  congr = λ x y z h. same x z ∙ o.congr x y z (sym (same x y) ∙ h) ∙ sym (same y z);
}

pub then-Equal : (o : Ordering) → ordering_then o Equal ≡ o
then-Equal Less = refl
then-Equal Equal = refl
then-Equal Greater = refl

pub both_equal : (o p : Ordering) → ordering_then o p ≡ Equal → (o ≡ Equal) × (p ≡ Equal)
both_equal Less p h = cc
both_equal Equal p h = (refl, h)
both_equal Greater p h = cc

-- a station as its kind, three numbers and a name
abbrev parts : Station → ℕ × ℤ × ℤ × ℤ × List ℕ
parts (Wmo b n) = (0, b, n, pos 0, [])
parts (Wigos s i n a) = (1, s, i, n, a)
parts (Mobile a) = (2, pos 0, pos 0, pos 0, a)

-- the order of these parts
abbrev parts_cmp : ℕ × ℤ × ℤ × ℤ × List ℕ → ℕ × ℤ × ℤ × ℤ × List ℕ → Ordering
parts_cmp a b =
    ordering_then (nat_cmp a.0 b.0) (ordering_then (int_cmp a.1 b.1)
    (ordering_then (int_cmp a.2 b.2) (ordering_then (int_cmp a.3 b.3) (slice_cmp nat_cmp a.4 b.4))))

parts_same : (a b : Station) → station_cmp a b ≡ parts_cmp (parts a) (parts b)
parts_same (Wmo b n) (Wmo c m) = ap (ordering_then (int_cmp b c)) (sym (then-Equal (int_cmp n m)))
parts_same (Wmo b n) (Wigos s i m a) = refl
parts_same (Wmo b n) (Mobile a) = refl
parts_same (Wigos s i n a) (Wmo b m) = refl
parts_same (Wigos s i n a) (Wigos t j m b) = refl
parts_same (Wigos s i n a) (Mobile b) = refl
parts_same (Mobile a) (Wmo b n) = refl
parts_same (Mobile a) (Wigos s i n b) = refl
parts_same (Mobile a) (Mobile b) = refl

stations_total : IsTotalOrder station_cmp
stations_total =
    total_by station_cmp (λ a b. parts_cmp (parts a) (parts b)) parts_same
    (on_total parts (then_total (on_total (λ (p : ℕ × ℤ × ℤ × ℤ × List ℕ). p.0) nat_cmp_total)
    (then_total (on_total (λ (p : ℕ × ℤ × ℤ × ℤ × List ℕ). p.1) int_cmp_total)
    (then_total (on_total (λ (p : ℕ × ℤ × ℤ × ℤ × List ℕ). p.2) int_cmp_total)
    (then_total (on_total (λ (p : ℕ × ℤ × ℤ × ℤ × List ℕ). p.3) int_cmp_total)
    (on_total (λ (p : ℕ × ℤ × ℤ × ℤ × List ℕ). p.4) nat_list_cmp_total))))))

moments_total : IsTotalOrder moment_cmp
moments_total =
    then_total (on_total (λ (m : Moment). m.year) nat_cmp_total)
    (then_total (on_total (λ (m : Moment). m.month) nat_cmp_total)
    (then_total (on_total (λ (m : Moment). m.day) nat_cmp_total)
    (then_total (on_total (λ (m : Moment). m.hour) nat_cmp_total)
    (then_total (on_total (λ (m : Moment). m.minute) nat_cmp_total)
    (on_total (λ (m : Moment). m.second) nat_cmp_total)))))

pub keys_total : IsTotalOrder key_cmp
keys_total =
    then_total (on_total (λ (k : Key). k.centre) nat_cmp_total)
    (then_total (on_total (λ (k : Key). k.category) nat_cmp_total)
    (then_total (on_total (λ (k : Key). k.international) nat_cmp_total)
    (then_total (on_total (λ (k : Key). k.local_category) nat_cmp_total)
    (then_total (on_total (λ (k : Key). k.station) stations_total)
    (then_total (on_total (λ (k : Key). k.moment) moments_total)
    (on_total (λ (k : Key). k.sub_centre) nat_cmp_total))))))

exact_stations : (a b : Station) → station_cmp a b ≡ Equal → a ≡ b
exact_stations (Wmo b n) (Wmo c m) h = let e = both_equal (int_cmp b c) (int_cmp n m) h in
    ap (λ (p : ℤ × ℤ). Wmo p.0 p.1) (ap (λ z. (z, n)) (exact_signed b c e.0)
    ∙ ap (λ z. (c, z)) (exact_signed n m e.1))
exact_stations (Wmo b n) (Wigos s i m a) h = cc
exact_stations (Wmo b n) (Mobile a) h = cc
exact_stations (Wigos s i n a) (Wmo b m) h = cc
exact_stations (Wigos s i n a) (Wigos t j m b) h =
    let e = both_equal (int_cmp s t) _ h in let f = both_equal (int_cmp i j) _ e.1 in
    let g = both_equal (int_cmp n m) _ f.1 in
    ap (λ z. Wigos z i n a) (exact_signed s t e.0) ∙ ap (λ z. Wigos t z n a) (exact_signed i j f.0)
    ∙ ap (λ z. Wigos t j z a) (exact_signed n m g.0)
    ∙ ap (λ z. Wigos t j m z) (exact_bytes a b g.1)
exact_stations (Wigos s i n a) (Mobile b) h = cc
exact_stations (Mobile a) (Wmo b n) h = cc
exact_stations (Mobile a) (Wigos s i n b) h = cc
exact_stations (Mobile a) (Mobile b) h = ap Mobile (exact_bytes a b h)

exact_moments : (a b : Moment) → moment_cmp a b ≡ Equal → a ≡ b
exact_moments a b h =
    let e1 = both_equal (nat_cmp a.year b.year) _ h in
    let e2 = both_equal (nat_cmp a.month b.month) _ e1.1 in
    let e3 = both_equal (nat_cmp a.day b.day) _ e2.1 in
    let e4 = both_equal (nat_cmp a.hour b.hour) _ e3.1 in
    let e5 = both_equal (nat_cmp a.minute b.minute) _ e4.1 in
    ap (λ z. record a { year = z }) (exact_unsigned a.year b.year e1.0)
    ∙ ap (λ z. record a { year = b.year; month = z }) (exact_unsigned a.month b.month e2.0)
    ∙ ap (λ z. record a { year = b.year; month = b.month; day = z })
    (exact_unsigned a.day b.day e3.0)
    ∙ ap (λ z. record b { hour = z; minute = a.minute; second = a.second })
    (exact_unsigned a.hour b.hour e4.0)
    ∙ ap (λ z. record b { minute = z; second = a.second }) (exact_unsigned a.minute b.minute e5.0)
    ∙ ap (λ z. record b { second = z }) (exact_unsigned a.second b.second e5.1)

pub exact_keys : (a b : Key) → key_cmp a b ≡ Equal → a ≡ b
exact_keys a b h =
    let e1 = both_equal (nat_cmp a.centre b.centre) _ h in
    let e2 = both_equal (nat_cmp a.category b.category) _ e1.1 in
    let e3 = both_equal (nat_cmp a.international b.international) _ e2.1 in
    let e4 = both_equal (nat_cmp a.local_category b.local_category) _ e3.1 in
    let e5 = both_equal (station_cmp a.station b.station) _ e4.1 in
    let e6 = both_equal (moment_cmp a.moment b.moment) _ e5.1 in
    ap (λ z. record a { centre = z }) (exact_unsigned a.centre b.centre e1.0)
    ∙ ap (λ z. record a { centre = b.centre; category = z })
    (exact_unsigned a.category b.category e2.0)
    ∙ ap (λ z. record a { centre = b.centre; category = b.category; international = z })
    (exact_unsigned a.international b.international e3.0)
    ∙ ap (λ z. record b {
      local_category = z;
      station = a.station;
      moment = a.moment;
      sub_centre =
          a.sub_centre;
    }) (exact_unsigned a.local_category b.local_category e4.0)
    ∙ ap (λ z. record b { station = z; moment = a.moment; sub_centre = a.sub_centre })
    (exact_stations a.station b.station e5.0)
    ∙ ap (λ z. record b { moment = z; sub_centre = a.sub_centre })
    (exact_moments a.moment b.moment e6.0)
    ∙ ap (λ z. record b { sub_centre = z }) (exact_unsigned a.sub_centre b.sub_centre e6.1)

then_less : (o p q : Ordering) → (p ≡ Less → q ≡ Less)
    → ordering_then o p ≡ Less → ordering_then o q ≡ Less
then_less Less p q f h = refl
then_less Equal p q f h = f h
then_less Greater p q f h = cc

coarse_keys_total : IsTotalOrder coarse_key_cmp
coarse_keys_total = on_total (λ (k : Key). record k { sub_centre = 0 }) keys_total

finer_keys : (a b : Key) → coarse_key_cmp a b ≡ Less → key_cmp a b ≡ Less
finer_keys a b =
    then_less (nat_cmp a.centre b.centre) _ _
    (then_less (nat_cmp a.category b.category) _ _
    (then_less (nat_cmp a.international b.international) _ _
    (then_less (nat_cmp a.local_category b.local_category) _ _
    (then_less (station_cmp a.station b.station) _ _
    (then_less (moment_cmp a.moment b.moment) _ _ (λ h. cc))))))

module _ (order : Key → Key → Ordering) (total : IsTotalOrder order) where
  slot_antisymm : (a b : Option Key) (x y : List ℕ)
      → slot_in order a b (octets_cmp x y) ≡ ordering_reverse (slot_in order b a (octets_cmp y x))
  slot_antisymm (Some k) (Some l) x y = total.antisymm k l
  slot_antisymm (Some k) None x y = refl
  slot_antisymm None (Some l) x y = refl
  slot_antisymm None None x y = nat_list_cmp_total.antisymm x y

  slot_trans : (a b c : Option Key) (x y z : List ℕ) → slot_in order a b (octets_cmp x y) ≡ Less
      → slot_in order b c (octets_cmp y z) ≡ Less → slot_in order a c (octets_cmp x z) ≡ Less
  slot_trans (Some k) (Some l) (Some m) x y z h i = total.trans k l m h i
  slot_trans (Some k) (Some l) None x y z h i = refl
  slot_trans (Some k) None (Some m) x y z h i = cc
  slot_trans (Some k) None None x y z h i = refl
  slot_trans None (Some l) c x y z h i = cc
  slot_trans None None (Some m) x y z h i = cc
  slot_trans None None None x y z h i = nat_list_cmp_total.trans x y z h i

  slot_congr : (a b c : Option Key) (x y z : List ℕ) → slot_in order a b (octets_cmp x y) ≡ Equal
      → slot_in order a c (octets_cmp x z) ≡ slot_in order b c (octets_cmp y z)
  slot_congr (Some k) (Some l) (Some m) x y z h = total.congr k l m h
  slot_congr (Some k) (Some l) None x y z h = refl
  slot_congr (Some k) None c x y z h = cc
  slot_congr None (Some l) c x y z h = cc
  slot_congr None None (Some m) x y z h = refl
  slot_congr None None None x y z h = nat_list_cmp_total.congr x y z h

  slots_in_total : IsTotalOrder (λ (e f : Entry). slot_in order e.key f.key
      (octets_cmp e.bytes f.bytes))
  slots_in_total = record {
    antisymm = λ e f. slot_antisymm e.key f.key e.bytes f.bytes;
    trans = λ e f g. slot_trans e.key f.key g.key e.bytes f.bytes g.bytes;
    congr = λ e f g. slot_congr e.key f.key g.key e.bytes f.bytes g.bytes;
  }

pub slots_total : IsTotalOrder slot_cmp
slots_total = slots_in_total key_cmp keys_total

coarse_slots_total : IsTotalOrder coarse_slot_cmp
coarse_slots_total = slots_in_total coarse_key_cmp coarse_keys_total

finer_slots_by : (a b : Option Key) (o : Ordering)
    → slot_in coarse_key_cmp a b o ≡ Less → slot_in key_cmp a b o ≡ Less
finer_slots_by (Some k) (Some l) o h = finer_keys k l h
finer_slots_by (Some k) None o h = refl
finer_slots_by None (Some l) o h = cc
finer_slots_by None None o h = h

finer_slots : (e f : Entry) → coarse_slot_cmp e f ≡ Less → slot_cmp e f ≡ Less
finer_slots e f h = finer_slots_by e.key f.key (octets_cmp e.bytes f.bytes) h

pub ranks_total : IsTotalOrder rank_cmp
ranks_total =
    then_total (on_total (λ (e : Entry). e.update) nat_cmp_total)
    (on_total (λ (e : Entry). e.bytes) nat_list_cmp_total)

slot_keys : (a b : Option Key) (o : Ordering) → slot_by a b o ≡ Equal → a ≡ b
slot_keys (Some k) (Some l) o h = ap Some (exact_keys k l h)
slot_keys (Some k) None o h = cc
slot_keys None (Some l) o h = cc
slot_keys None None o h = refl

pub exact_entries : (e f : Entry) → slot_cmp e f ≡ Equal → rank_cmp e f ≡ Equal → e ≡ f
exact_entries e f s r =
    let b = both_equal (nat_cmp e.update f.update) (octets_cmp e.bytes f.bytes) r in
    ap (λ z. record e { key = z }) (slot_keys e.key f.key (octets_cmp e.bytes f.bytes) s)
    ∙ ap (λ z. record e { key = f.key; update = z }) (exact_unsigned e.update f.update b.0)
    ∙ ap (λ z. record f { bytes = z }) (exact_bytes e.bytes f.bytes b.1)

pub kept-same : (es fs : List Entry) → SameMembers es fs → kept es ≡ kept fs
kept-same es fs = laws.kept_same slot_cmp rank_cmp slots_total ranks_total exact_entries es fs

pub kept-early : (es fs : List Entry) → kept (kept es ++ fs) ≡ kept (es ++ fs)
kept-early es fs = laws.kept_early slot_cmp rank_cmp slots_total ranks_total exact_entries es fs

pub kept-late : (es fs : List Entry) → kept (es ++ kept fs) ≡ kept (es ++ fs)
kept-late es fs = laws.kept_late slot_cmp rank_cmp slots_total ranks_total exact_entries es fs

pub kept-swap : (es fs : List Entry) → kept (es ++ fs) ≡ kept (fs ++ es)
kept-swap es fs = laws.kept_swap slot_cmp rank_cmp slots_total ranks_total exact_entries es fs

pub kept-twice : (es : List Entry) → kept (es ++ es) ≡ kept es
kept-twice es = laws.kept_twice slot_cmp rank_cmp slots_total ranks_total exact_entries es

pub kept-join : (a b c : List Entry) → kept (kept (a ++ b) ++ c) ≡ kept (a ++ kept (b ++ c))
kept-join a b c = laws.kept_join slot_cmp rank_cmp slots_total ranks_total exact_entries a b c

pub kept-are : (es : List Entry) → AreKept slot_cmp rank_cmp es (kept es)
kept-are es = laws.kept_are slot_cmp rank_cmp slots_total ranks_total exact_entries es

pub kept-only : (es ks : List Entry) → AreKept slot_cmp rank_cmp es ks → ks ≡ kept es
kept-only es ks = laws.kept_only slot_cmp rank_cmp slots_total ranks_total exact_entries es ks

pub kept-kept : (es : List Entry) → kept (kept es) ≡ kept es
kept-kept es = ap kept (sym (append-nil (kept es))) ∙ kept-early es [] ∙ ap kept (append-nil es)

pub kept-sorted : (es : List Entry) → IsStrictlySortedBy slot_cmp es → kept es ≡ es
kept-sorted es s = laws.kept_sorted slot_cmp rank_cmp slots_total ranks_total exact_entries es s

pub coarsely-kept-are : (es : List Entry)
    → ((e f : Entry) → Has es e → Has es f → e.bytes ≡ f.bytes → e ≡ f)
    → AreKept coarse_slot_cmp rank_cmp es (coarsely_kept es)
coarsely-kept-are es exact =
    laws.kept_are_best coarse_slot_cmp rank_cmp coarse_slots_total ranks_total es
    (λ e f h k s r. exact e f h k
    (exact_bytes e.bytes f.bytes
    (both_equal (nat_cmp e.update f.update) (octets_cmp e.bytes f.bytes) r).1))

pub kept-coarsely : (es : List Entry) → kept (coarsely_kept es) ≡ coarsely_kept es
kept-coarsely es =
    laws.kept_finer coarse_slot_cmp slot_cmp rank_cmp coarse_slots_total slots_total ranks_total
    exact_entries finer_slots es

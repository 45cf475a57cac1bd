-- A file's Table D is its groups of rows, and its fault is the first.
use Rattle.std.proofs.Common.{◌≡◌, ◌≢◌, ◌∙◌, ◌⊎◌, inl, inr, ℕ, ◌+◌, ◌==◌, true, false, List, []}
use Rattle.std.proofs.Common.{◌∷◌, ◌++◌, length, map, Option, Some, None, Result, Ok, Err, refl}
use Rattle.std.proofs.Common.{sym, ap, subst, append_assoc}
use Rattle.std.specs.Prelude.{All, Contains, is_some}
use Rattle.std.specs.Ordering.{nat_cmp}
use Rattle.std.specs.BTreeMap.{insert_entry}
use Rattle.std.proofs.lemmas.Bool.{cases_Bool}
use Rattle.std.proofs.lemmas.Bool.Decides.{Decides-eqb}
use Rattle.std.proofs.lemmas.List.{append-nil}
use Rattle.std.proofs.lemmas.List.Elements.{Contains-append_left, Contains-push}
use Rattle.std.proofs.lemmas.List.Elements.{Contains-push_cases, All-contains}
use Rattle.bufr_tables.specs.declared.table_faults.TableFault.{TableFault}
use Rattle.bufr_tables.specs.declared.table_faults.TableFault.TheVariants.{NoColumn, NotCsv, BadRow}
use Rattle.bufr_tables.specs.declared.table_faults.TableFault.TheVariants.{Conflict, SplitSequence}
use Rattle.bufr_base.specs.Answers.{◌>>=◌}
use Rattle.bufr_tables.specs.Entries.{at, Rising}
use Rattle.bufr_tables.specs.Rows.{member_row, with_member, begins, Sequences, no_sequences}
use Rattle.bufr_tables.specs.Rows.{all_sequences}
use Rattle.bufr_tables.specs.Sheets.{SameMembers, IsRow, AreRows, HasRows, IsReached, AreGroups}
use Rattle.bufr_tables.specs.Sheets.{written_out, AreSequenceRows, IsFirstSequenceFault}
use Rattle.bufr_tables.specs.TableFiles.{columns_d, after_file, header_of, rows_of}
use Rattle.bufr_tables.proofs.ColumnFacts.{needs_d}
use Rattle.bufr_tables.proofs.GroupFacts.{all-by, not-at, last-only, no-push, groups-push}
use Rattle.bufr_tables.proofs.GroupFacts.{groups-split, groups-members, written-append}
use Rattle.bufr_tables.proofs.GroupFacts.{written-more, written-last, written-from, written-member}
use Rattle.bufr_tables.proofs.MemberFacts.{contains-none, same-self, same-back, same-through}
use Rattle.bufr_tables.proofs.MemberFacts.{same-append, at-contained, at-only, same-rising}
use Rattle.bufr_tables.proofs.MemberFacts.{same-insert}
use Rattle.bufr_tables.proofs.ParseFacts.{then-gives}
use Rattle.bufr_tables.specs.EntryLaws.{Rising-insert}
use Rattle.bufr_tables.proofs.RowFacts.{begins-again, begins-new, with_member-same}
use Rattle.bufr_tables.proofs.RowFacts.{with_member-other}
use Rattle.bufr_tables.proofs.SheetFacts.{then-stops, added, Stops, IsWhole, IsLacking, IsCutShort}
use Rattle.bufr_tables.proofs.SheetFacts.{file-has, file-lacks, file-stops, file-run}

-- the finished sequences, and then the open one
abbrev pub with_open : List (ℕ × List ℕ) → Option (ℕ × List ℕ) → List (ℕ × List ℕ)
with_open front None = front
with_open front (Some g) = front ++ g ∷ []

-- the sequences read are groups of rows
pub record Grouped (s : Sequences) : Type 0 where
  pub front : List (ℕ × List ℕ)
  pub rising : Rising s.ended
  pub same : SameMembers s.ended front
  pub begun : s.open_one ≡ None → front ≡ []
  pub apart : AreGroups (with_open front s.open_one)

-- the groups of the sequences read, the open one last
abbrev pub groups_of : (s : Sequences) → Grouped s → List (ℕ × List ℕ)
groups_of s h = with_open h.front s.open_one

pub all-rising : (ended : List (ℕ × List ℕ)) (o : Option (ℕ × List ℕ)) → Rising ended
    → Rising (all_sequences (record { ended = ended; open_one = o }))
all-rising ended None r = r
all-rising ended (Some g) r = Rising-insert g.0 g.1 ended r

pub all-same : (ended front : List (ℕ × List ℕ)) (o : Option (ℕ × List ℕ)) → SameMembers ended front
    → AreGroups (with_open front o)
    → SameMembers (all_sequences (record { ended = ended; open_one = o })) (with_open front o)
all-same ended front None h a = h
all-same ended front (Some g) h a =
    let none : at g.0 ended ≡ None =
    not-at g.0 ended
    (λ v m. All-contains (λ (x : ℕ × List ℕ). x.0 ≢ g.0) front (g.0, v)
    (groups-split front g [] a).0 ((h (g.0, v)).0 m) refl) in
    same-through (insert_entry nat_cmp ended g.0 g.1) (ended ++ g ∷ []) (front ++ g ∷ [])
    (same-insert g.0 g.1 ended none)
    (same-append ended front (g ∷ []) (g ∷ []) h (same-self (g ∷ [])))

all_rising : (s : Sequences) → Grouped s → Rising (all_sequences s)
all_rising s h = all-rising s.ended s.open_one h.rising

all_same : (s : Sequences) (h : Grouped s) → SameMembers (all_sequences s) (groups_of s h)
all_same s h = all-same s.ended h.front s.open_one h.same h.apart

some-other : {X : Type 0} (x : X) → Some x ≡ None → ⊥
some-other x q = cc

one-other : {X : Type 0} (x : X) → x ∷ [] ≢ []
one-other x q = cc

-- no rows are no groups
abbrev grouped-none : Grouped no_sequences
grouped-none =
    record { front = []; rising = tt; same = same-self []; begun = λ q. refl; apart = tt }

-- a row that starts a sequence
abbrev started : (s : Sequences) (h : Grouped s) (d m : ℕ) → All (λ g. g.0 ≢ d) (groups_of s h)
    → Grouped (record { ended = all_sequences s; open_one = Some (d, m ∷ []) })
started s h d m a =
    record {
      front = groups_of s h;
      rising = all_rising s h;
      same = all_same s h;
      begun = λ q. absurd
          (some-other (d, m ∷ []) q);
      apart = groups-push (groups_of s h) d (m ∷ []) h.apart a
          (one-other m);
    }

-- a row of the open sequence
abbrev gone_on : (ended : List (ℕ × List ℕ)) (d m : ℕ) (list : List ℕ)
    (h : Grouped (record { ended = ended; open_one = Some (d, list) }))
    → Grouped (record { ended = ended; open_one = Some (d, list ++ m ∷ []) })
gone_on ended d m list h =
    let split = groups-split h.front (d, list) [] h.apart in
    record {
      front = h.front;
      rising = h.rising;
      same = h.same;
      begun = λ q. absurd
          (some-other (d, list ++ m ∷ []) q);
      apart = groups-push h.front d
          (list ++ m ∷ []) split.2 split.0 (λ q. no-push list m (sym q));
    }

other : (ended : List (ℕ × List ℕ)) (o : Option (ℕ × List ℕ)) (d m : ℕ)
    → ((list : List ℕ) → o ≡ Some (d, list) → ⊥)
    → with_member (record { ended = ended; open_one = o }) (d, m)
    ≡ begins (all_sequences (record { ended = ended; open_one = o })) d m
other ended None d m n = refl
other ended (Some g) d m n =
    with_member-other (record { ended = ended; open_one = Some g }) d m g.0 g.1 refl
    (λ q. n g.1 (ap Some (ap {B = ℕ × List ℕ} (λ (x : ℕ). (x, g.1)) q)))

starts : (s : Sequences) (h : Grouped s) (d m : ℕ) → All (λ g. g.0 ≢ d) (groups_of s h)
    → with_member s (d, m) ≡ Ok (record { ended = all_sequences s; open_one = Some (d, m ∷ []) })
starts s h d m a =
    other s.ended s.open_one d m
    (λ list q. All-contains (λ (g : ℕ × List ℕ). g.0 ≢ d) (groups_of s h) (d, list) a
    (rw q (Contains-push h.front (d, list))) refl)
    ∙ begins-new (all_sequences s) d m
    (ap is_some
    (not-at d (all_sequences s)
    (λ v k. All-contains (λ (g : ℕ × List ℕ). g.0 ≢ d) (groups_of s h) (d, v) a
    ((all_same s h (d, v)).0 k) refl)))

-- the ways in which a row adds to the sequences read
data Joining (s : Sequences) (h : Grouped s) (d m : ℕ) : Type 0 where
  joins : (next : Sequences) (k : Grouped next) → with_member s (d, m) ≡ Ok next
      → written_out (groups_of next k) ≡ written_out (groups_of s h) ++ (d, m) ∷ []
      → ((rows : List (ℕ × ℕ)) (last : ℕ × ℕ) → written_out (groups_of s h) ≡ rows ++ last ∷ []
      → last.0 ≡ d) ⊎ All (λ g. g.0 ≢ d) (groups_of s h) → Joining s h d m
  splits : (rows : List (ℕ × ℕ)) (last : ℕ × ℕ) (k : ℕ)
      → with_member s (d, m) ≡ Err (SplitSequence d)
      → written_out (groups_of s h) ≡ rows ++ last ∷ [] → last.0 ≢ d → Contains rows (d, k)
      → Joining s h d m

joining-same : (ended : List (ℕ × List ℕ)) (d m : ℕ) (list : List ℕ)
    (h : Grouped (record { ended = ended; open_one = Some (d, list) }))
    → Joining (record { ended = ended; open_one = Some (d, list) }) h d m
joining-same ended d m list h =
    let some = written-last h.front d list (groups-split h.front (d, list) [] h.apart).1 in
    joins (record { ended = ended; open_one = Some (d, list ++ m ∷ []) }) (gone_on ended d m list h)
    (with_member-same (record { ended = ended; open_one = Some (d, list) }) d m list refl)
    (written-more h.front d list m)
    (inl
    (λ rows last e. ap (λ (p : ℕ × ℕ). p.0)
    (last-only rows (written_out h.front ++ map (λ k. (d, k)) some.0) last (d, some.1)
    (sym e ∙ some.2))))

joining-begun : (s : Sequences) (h : Grouped s) (d m : ℕ) → at d (all_sequences s) ≡ None
    → Joining s h d m
joining-begun s h d m f =
    let none : All (λ (g : ℕ × List ℕ). g.0 ≢ d) (groups_of s h) =
    all-by (λ (g : ℕ × List ℕ). g.0 ≢ d) (groups_of s h) (λ x k q.
    let there : at x.0 (all_sequences s) ≡ Some x.1 =
    at-only x.0 x.1 (all_sequences s) (all_rising s h) ((all_same s h x).1 k) in
    let w : None ≡ Some x.1 =
    sym f ∙ ap (λ (t : ℕ). at t (all_sequences s)) (sym q) ∙ there in cc) in
    joins (record { ended = all_sequences s; open_one = Some (d, m ∷ []) }) (started s h d m none)
    (starts s h d m none) (written-append (groups_of s h) ((d, m ∷ []) ∷ [])) (inr none)

joining-again : (ended : List (ℕ × List ℕ)) (o : Option (ℕ × List ℕ))
    (h : Grouped (record { ended = ended; open_one = o })) (d m : ℕ) (list : List ℕ)
    → ((list : List ℕ) → o ≡ Some (d, list) → ⊥)
    → at d (all_sequences (record { ended = ended; open_one = o })) ≡ Some list
    → Joining (record { ended = ended; open_one = o }) h d m
joining-again ended None h d m list n f =
    absurd
    (contains-none (d, list)
    (subst (λ (t : List (ℕ × List ℕ)). Contains t (d, list)) (h.begun refl)
    ((h.same (d, list)).0 (at-contained d list ended f))))
joining-again ended (Some g) h d m list n f =
    with_list list
    (elim
    (Contains-push_cases h.front g (d, list)
    ((all-same ended h.front (Some g) h.same h.apart (d, list)).0
    (at-contained d list (insert_entry nat_cmp ended g.0 g.1) f))) [
      | inl l ↦ l
      | inr e ↦ absurd (off (ap (λ (p : ℕ × List ℕ). p.0) e))
    ])
  where
    off : g.0 ≢ d
    off q = n g.1 (ap Some (ap {B = ℕ × List ℕ} (λ (x : ℕ). (x, g.1)) q))

    stops : with_member (record { ended = ended; open_one = Some g }) (d, m) ≡ Err (SplitSequence d)
    stops =
        other ended (Some g) d m n
        ∙ begins-again (insert_entry nat_cmp ended g.0 g.1) d m (ap is_some f)

    with_list : (list : List ℕ) → Contains h.front (d, list)
        → Joining (record { ended = ended; open_one = Some g }) h d m
    with_list [] c =
        absurd (groups-members h.front (d, []) (groups-split h.front g [] h.apart).2 c refl)
    with_list (k ∷ list) c =
        let some = written-last h.front g.0 g.1 (groups-split h.front g [] h.apart).1 in
        splits (written_out h.front ++ map (λ k. (g.0, k)) some.0) (g.0, some.1) k stops some.2 off
        (Contains-append_left (written_out h.front) (map (λ k. (g.0, k)) some.0) (d, k)
        (written-member h.front d k list c))

joining-other : (s : Sequences) (h : Grouped s) (d m : ℕ)
    → ((list : List ℕ) → s.open_one ≡ Some (d, list) → ⊥) → (o : Option (List ℕ))
    → at d (all_sequences s) ≡ o → Joining s h d m
joining-other s h d m n None f = joining-begun s h d m f
joining-other s h d m n (Some list) f = joining-again s.ended s.open_one h d m list n f

joining-by : (ended : List (ℕ × List ℕ)) (o : Option (ℕ × List ℕ))
    (h : Grouped (record { ended = ended; open_one = o })) (d m : ℕ)
    → Joining (record { ended = ended; open_one = o }) h d m
joining-by ended None h d m =
    joining-other (record { ended = ended; open_one = None }) h d m
    (λ list q. some-other (d, list) (sym q)) (at d ended) refl
joining-by ended (Some g) h d m =
    elim (cases_Bool (g.0 == d)) [
      | inl e ↦ same g.0 g.1 h ((Decides-eqb g.0 d).0 e)
      | inr e ↦
          joining-other (record { ended = ended; open_one = Some g }) h d m
          (λ list q. let k : g.0 ≡ d = cc in let t : (g.0 == d) ≡ true = (Decides-eqb g.0 d).1 k in
          let w : true ≡ false = sym t ∙ e in cc) (at d (insert_entry nat_cmp ended g.0 g.1)) refl
    ]
  where
    same : (o : ℕ) (list : List ℕ)
        (h : Grouped (record { ended = ended; open_one = Some (o, list) })) → o ≡ d
        → Joining (record { ended = ended; open_one = Some (o, list) }) h d m
    same o list h q =
        subst (λ (x : ℕ). Joining (record { ended = ended; open_one = Some (o, list) }) h x m) q
        (joining-same ended o m list h)

joining : (s : Sequences) (h : Grouped s) (d m : ℕ) → Joining s h d m
joining s h d m = joining-by s.ended s.open_one h d m

added-members : (rows : List (ℕ × ℕ)) (so_far total : Sequences) (h : Grouped so_far)
    → added with_member so_far rows ≡ Ok total
    → (k : Grouped total)
    × (written_out (groups_of total k) ≡ written_out (groups_of so_far h) ++ rows)
added-members [] so_far total h a = let e : so_far ≡ total = cc in moved total e
  where
    moved : (t : Sequences) → so_far ≡ t → (k : Grouped t)
        × (written_out (groups_of t k) ≡ written_out (groups_of so_far h) ++ [])
    moved t e =
        subst (λ (t : Sequences). (k : Grouped t)
        × (written_out (groups_of t k) ≡ written_out (groups_of so_far h) ++ [])) e
        (h, sym (append-nil (written_out (groups_of so_far h))))
added-members (row ∷ rows) so_far total h a =
    by_case (λ next k. added-members rows next total k) (joining so_far h row.0 row.1)
  where
    by_case :
        ((next : Sequences) (k : Grouped next) → added with_member next rows ≡ Ok total
        → (l : Grouped total)
        × (written_out (groups_of total l) ≡ written_out (groups_of next k) ++ rows))
        → Joining so_far h row.0 row.1
        → (l : Grouped total)
        × (written_out (groups_of total l) ≡ written_out (groups_of so_far h) ++ row ∷ rows)
    by_case rest (joins next k e w why) =
        let l =
        rest next k
        (sym (then-gives (with_member so_far row) (λ t. added with_member t rows) next
        (added with_member next rows) e refl) ∙ a) in (
          l.0,
          l.1 ∙ ap (λ (t : List (ℕ × ℕ)). t ++ rows) w
              ∙ append_assoc (written_out (groups_of so_far h)) (row ∷ []) rows,
        )
    by_case rest (splits front last k e w n c) =
        absurd
        (let g : Err (SplitSequence row.0)
        ≡ Ok total =
        sym (then-stops (with_member so_far row) (λ t. added with_member t rows)
        (SplitSequence row.0) e) ∙ a in cc)

run : (ended : List (ℕ × List ℕ)) (d : ℕ) (list more : List ℕ) (rest : List (ℕ × ℕ))
    → added with_member (record { ended = ended; open_one = Some (d, list) })
    (map (λ m. (d, m)) more ++ rest) ≡ added with_member
    (record { ended = ended; open_one = Some (d, list ++ more) }) rest
run ended d list [] rest =
    ap (λ (t : List ℕ). added with_member (record { ended = ended; open_one = Some (d, t) }) rest)
    (sym (append-nil list))
run ended d list (m ∷ more) rest =
    then-gives (with_member (record { ended = ended; open_one = Some (d, list) }) (d, m))
    (λ t. added with_member t (map (λ k. (d, k)) more ++ rest))
    (record { ended = ended; open_one = Some (d, list ++ m ∷ []) })
    (added with_member (record { ended = ended; open_one = Some (d, list ++ m ∷ more) }) rest)
    (with_member-same (record { ended = ended; open_one = Some (d, list) }) d m list refl)
    (run ended d (list ++ m ∷ []) more rest
    ∙ ap (λ (t : List ℕ). added with_member (record { ended = ended; open_one = Some (d, t) }) rest)
    (append_assoc list (m ∷ []) more))

members-added : (groups : List (ℕ × List ℕ)) (so_far : Sequences) (h : Grouped so_far)
    → AreGroups (groups_of so_far h ++ groups)
    → (total : Sequences) × (k : Grouped total)
    × (added with_member so_far (written_out groups) ≡ Ok total)
    × (groups_of total k ≡ groups_of so_far h ++ groups)
members-added [] so_far h a = (so_far, h, refl, sym (append-nil (groups_of so_far h)))
members-added ((d, []) ∷ groups) so_far h a =
    absurd ((groups-split (groups_of so_far h) (d, []) groups a).1 refl)
members-added ((d, m ∷ list) ∷ groups) so_far h a =
    let split = groups-split (groups_of so_far h) (d, m ∷ list) groups a in
    let next : Sequences = record { ended = all_sequences so_far; open_one = Some (d, m ∷ list) } in
    let k : Grouped next =
    record {
      front = groups_of so_far h;
      rising = all_rising so_far h;
      same = all_same so_far h;
      begun =
          λ q. absurd (some-other (d, m ∷ list) q);
      apart =
          groups-push (groups_of so_far h) d (m ∷ list) split.2 split.0 split.1;
    } in
    let joined : (groups_of so_far h ++ (d, m ∷ list) ∷ []) ++ groups ≡ groups_of so_far h
    ++ (d, m ∷ list) ∷ groups = append_assoc (groups_of so_far h) ((d, m ∷ list) ∷ []) groups in
    let rest = members-added groups next k (rw joined a) in (
      rest.0,
      rest.1,
      then-gives (with_member so_far (d, m))
          (λ t. added with_member t (map (λ x. (d, x)) list ++ written_out groups))
          (record { ended = all_sequences so_far; open_one = Some (d, m ∷ []) }) (Ok rest.0)
          (starts so_far h d m split.0)
          (run (all_sequences so_far) d (m ∷ []) list (written_out groups) ∙ rest.2),
      rest.3 ∙ joined,
    )

-- the sequences read from the records of a file
abbrev sequences_of : List (List (List ℕ)) → Result (List (ℕ × List ℕ)) TableFault
sequences_of file =
    after_file columns_d member_row with_member no_sequences file >>= λ all. Ok (all_sequences all)

moved-rows : (file : List (List (List ℕ))) (rows others : List (ℕ × ℕ)) → rows ≡ others
    → (h : HasRows columns_d member_row file rows)
    → AreRows member_row (header_of file) h.places (rows_of file) others
moved-rows file rows others e h =
    subst (λ (t : List (ℕ × ℕ)). AreRows member_row (header_of file) h.places (rows_of file) t) e
    h.behind

-- a file whose rows add up is read as these sequences
abbrev table-of : (file : List (List (List ℕ))) (rows : List (ℕ × ℕ)) (total : Sequences)
    → HasRows columns_d member_row file rows → (k : Grouped total)
    → written_out (groups_of total k) ≡ rows → AreSequenceRows file (all_sequences total)
table-of file rows total h k e =
    record {
      groups = groups_of total k;
      apart = k.apart;
      rows =
          record {
            places = h.places;
            columns = h.columns;
            behind = moved-rows file rows
                (written_out (groups_of total k)) (sym e) h;
          };
      rising = all_rising total k;
      same = all_same total k;
    }

adds-up : (file : List (List (List ℕ))) (sequences : List (ℕ × List ℕ))
    (h : AreSequenceRows file sequences)
    → (total : Sequences) × (k : Grouped total)
    × (added with_member no_sequences (written_out h.groups) ≡ Ok total)
    × (groups_of total k ≡ h.groups) × (all_sequences total ≡ sequences)
adds-up file sequences h =
    let s = members-added h.groups no_sequences grouped-none h.apart in (
      s.0,
      s.1,
      s.2,
      s.3,
      same-rising (all_sequences s.0) sequences (all_rising s.0 s.1) h.rising
          (same-through (all_sequences s.0) h.groups sequences
          (subst (λ (t : List (ℕ × List ℕ)). SameMembers (all_sequences s.0) t) s.3
          (all_same s.0 s.1)) (same-back sequences h.groups h.same)),
    )

finish-ok : (file : List (List (List ℕ))) (total : Sequences)
    → after_file columns_d member_row with_member no_sequences file ≡ Ok total
    → sequences_of file ≡ Ok (all_sequences total)
finish-ok file total e =
    then-gives (after_file columns_d member_row with_member no_sequences file)
    (λ s. Ok (all_sequences s)) total (Ok (all_sequences total)) e refl

finish-fault : (file : List (List (List ℕ))) (fault : TableFault)
    → after_file columns_d member_row with_member no_sequences file ≡ Err fault
    → sequences_of file ≡ Err fault
finish-fault file fault e =
    then-stops (after_file columns_d member_row with_member no_sequences file)
    (λ s. Ok (all_sequences s)) fault e

pub sequences-are : (file : List (List (List ℕ))) (sequences : List (ℕ × List ℕ))
    → sequences_of file ≡ Ok sequences → AreSequenceRows file sequences
sequences-are file sequences a =
    by_run (file-run columns_d member_row with_member no_sequences needs_d file)
  where
    by_run : IsWhole columns_d member_row with_member no_sequences file
        ⊎
        (IsLacking columns_d member_row with_member no_sequences file
        ⊎ IsCutShort columns_d member_row with_member no_sequences file)
        → AreSequenceRows file sequences
    by_run (inl h) =
        let k = added-members h.rows no_sequences h.total grouped-none h.adds in
        let w : ◌≡◌ {A = Result (List (ℕ × List ℕ)) TableFault} (Ok (all_sequences h.total))
        (Ok sequences) = sym (finish-ok file h.total h.answer) ∙ a in
        let e : all_sequences h.total ≡ sequences = cc in
        subst (λ (t : List (ℕ × List ℕ)). AreSequenceRows file t) e
        (table-of file h.rows h.total h.has k.0 k.1)
    by_run (inr (inl h)) =
        absurd
        (let w : Err (NoColumn h.column)
        ≡ Ok sequences = sym (finish-fault file (NoColumn h.column) h.answer) ∙ a in cc)
    by_run (inr (inr h)) =
        absurd
        (let w : Err h.fault ≡ Ok sequences = sym (finish-fault file h.fault h.answer) ∙ a in cc)

pub are-sequences : (file : List (List (List ℕ))) (sequences : List (ℕ × List ℕ))
    → AreSequenceRows file sequences → sequences_of file ≡ Ok sequences
are-sequences file sequences h =
    let s = adds-up file sequences h in
    finish-ok file s.0
    (file-has columns_d member_row with_member no_sequences file (written_out h.groups) h.rows
    ∙ s.2)
    ∙ ap {B = Result (List (ℕ × List ℕ)) TableFault} (λ (t : List (ℕ × List ℕ)). Ok t) s.4

pub sequence-fault : (file : List (List (List ℕ))) (fault : TableFault)
    → sequences_of file ≡ Err fault → IsFirstSequenceFault file fault
sequence-fault file fault a =
    by_run (file-run columns_d member_row with_member no_sequences needs_d file)
  where
    here : (h : IsCutShort columns_d member_row with_member no_sequences file) (k : Grouped h.total)
        → written_out (groups_of h.total k) ≡ h.rows
        → IsReached AreSequenceRows file (length h.before + 1)
    here h k e =
        record {
          before = h.before;
          raw = h.raw;
          behind = h.behind;
          splits = h.splits;
          number = refl;
          table = all_sequences h.total;
          is_table = table-of h.before h.rows h.total h.has k e;
        }

    by_case : (h : IsCutShort columns_d member_row with_member no_sequences file)
        (k : Grouped h.total) → written_out (groups_of h.total k) ≡ h.rows → (row : ℕ × ℕ)
        → IsRow member_row (header_of h.before) h.has.places h.raw row
        → with_member h.total row ≡ Err h.fault → Joining h.total k row.0 row.1
        → IsFirstSequenceFault file h.fault
    by_case h k q row s e (joins next l g w why) =
        absurd (let w : Ok next ≡ Err h.fault = sym g ∙ e in cc)
    by_case h k q row s e (splits rows last m g w n c) =
        let x : ◌≡◌ {A = Result Sequences TableFault} (Err (SplitSequence row.0)) (Err h.fault) =
        sym g ∙ e in
        let y : SplitSequence row.0 ≡ h.fault = cc in
        subst (λ (t : TableFault). IsFirstSequenceFault file t) y
        (length h.before + 1, here h k q, row.1, m, rows, last, s, w, n, c)

    by_stop : (h : IsCutShort columns_d member_row with_member no_sequences file)
        (k : Grouped h.total) → written_out (groups_of h.total k) ≡ h.rows
        → Stops member_row with_member (header_of h.before) h.has.places
        (length h.before + 1) h.raw h.total h.fault → IsFirstSequenceFault file h.fault
    by_stop h k q (inl s) =
        subst (λ (t : TableFault). IsFirstSequenceFault file t) (sym s.0) (here h k q, s.1)
    by_stop h k q (inr (inl s)) =
        subst (λ (t : TableFault). IsFirstSequenceFault file t) (sym s.0) (here h k q, s.1)
    by_stop h k q (inr (inr s)) = by_case h k q s.0 s.1 s.2 (joining h.total k s.0.0 s.0.1)

    by_run : IsWhole columns_d member_row with_member no_sequences file
        ⊎
        (IsLacking columns_d member_row with_member no_sequences file
        ⊎ IsCutShort columns_d member_row with_member no_sequences file)
        → IsFirstSequenceFault file fault
    by_run (inl h) =
        absurd
        (let w : Ok (all_sequences h.total) ≡ Err fault = sym (finish-ok file h.total h.answer)
        ∙ a in cc)
    by_run (inr (inl h)) =
        let w : ◌≡◌ {A = Result (List (ℕ × List ℕ)) TableFault} (Err (NoColumn h.column))
        (Err fault) = sym (finish-fault file (NoColumn h.column) h.answer) ∙ a in
        let q : NoColumn h.column ≡ fault = cc in
        subst (λ (t : TableFault). IsFirstSequenceFault file t) q h.absent
    by_run (inr (inr h)) =
        let k = added-members h.rows no_sequences h.total grouped-none h.adds in
        let w : ◌≡◌ {A = Result (List (ℕ × List ℕ)) TableFault} (Err h.fault) (Err fault) =
        sym (finish-fault file h.fault h.answer) ∙ a in
        let q : h.fault ≡ fault = cc in
        subst (λ (t : TableFault). IsFirstSequenceFault file t) q (by_stop h k.0 k.1 h.stops)

stops-here : (file : List (List (List ℕ))) (n : ℕ) (h : IsReached AreSequenceRows file n)
    (fault : TableFault)
    → ((total : Sequences) (k : Grouped total) → groups_of total k ≡ h.is_table.groups
    → Stops member_row with_member (header_of h.before) h.is_table.rows.places
    (length h.before + 1) h.raw total fault) → sequences_of file ≡ Err fault
stops-here file n h fault s =
    let t = adds-up h.before h.table h.is_table in
    finish-fault file fault
    (rw h.splits
    (file-stops columns_d member_row with_member no_sequences needs_d h.before h.raw h.behind
    (written_out h.is_table.groups) h.is_table.rows t.0 fault t.2 (s t.0 t.1 t.3)))

pub fault-sequence : (file : List (List (List ℕ))) (fault : TableFault)
    → IsFirstSequenceFault file fault → sequences_of file ≡ Err fault
fault-sequence file (NoColumn c) h =
    finish-fault file (NoColumn c)
    (file-lacks columns_d member_row with_member no_sequences file c h)
fault-sequence file (NotCsv n) h =
    stops-here file n h.0 (NotCsv n) (λ total k q. inl (ap NotCsv h.0.number, h.1))
fault-sequence file (BadRow n) h =
    stops-here file n h.0 (BadRow n) (λ total k q. inr (inl (ap BadRow h.0.number, h.1)))
fault-sequence file (Conflict d) h = absurd h
fault-sequence file (SplitSequence d) h =
    stops-here file h.0 h.1 (SplitSequence d)
    (λ total k q. inr (inr ((d, h.2), h.6, by_case total k q (joining total k d h.2))))
  where
    by_case : (total : Sequences) (k : Grouped total) → groups_of total k ≡ h.1.is_table.groups
        → Joining total k d h.2 → with_member total (d, h.2) ≡ Err (SplitSequence d)
    by_case total k q (splits rows last m g w n c) = g
    by_case total k q (joins next l g w (inl same)) =
        absurd (h.8 (same h.4 h.5 (ap written_out q ∙ h.7)))
    by_case total k q (joins next l g w (inr none)) =
        let row : Contains (written_out (groups_of total k)) (d, h.3) =
        subst (λ (t : List (ℕ × ℕ)). Contains t (d, h.3)) (sym (ap written_out q ∙ h.7))
        (Contains-append_left h.4 (h.5 ∷ []) (d, h.3) h.9) in
        let group = written-from (groups_of total k) d h.3 row in
        absurd
        (All-contains (λ (x : ℕ × List ℕ). x.0 ≢ d) (groups_of total k)
        (d, group.0) none group.1 refl)
